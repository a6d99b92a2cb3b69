-- What is told of an answer, in the documents' numbers.
-- Assumes nothing.
use Rattle.std.specs.Prelude.{List, [], ◌∷◌, ◌++◌, ℕ, ℤ, pos, length, drop}

-- The number is that of the question whose answer is "no", and 0 where there is none. The values of a refusal are its step and its place.
pub record Told : Type 0 where
  pub number : ℕ
  pub values : List ℤ

abbrev pub gives : List ℤ → Told
gives values = record { number = 0; values = values }

abbrev pub refuses : ℕ → ℕ → ℕ → Told
refuses number step place = record { number = number; values = pos step ∷ pos place ∷ [] }

-- The new items, and past them the list as it was.
abbrev pub overlay {ℓ} : {A : Type ℓ} → List A → List A → List A
overlay new old = new ++ drop (length new) old
