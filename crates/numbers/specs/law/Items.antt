-- What each item has, its questions or its row, one item after another.
-- Assumes nothing.
use Rattle.std.specs.Prelude.{List, [], ◌++◌, ℕ, zero, suc}

-- what the c items from i on have
abbrev pub over {ℓ} : {A : Type ℓ} → (ℕ → List A) → ℕ → ℕ → List A
over f i zero = []
over f i (suc c) = f i ++ over f (suc i) c
