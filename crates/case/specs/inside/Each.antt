-- One question of each of some items.
-- Assumes nothing.
use Rattle.std.specs.Prelude.{◌≡◌, Bool, List, [], ◌∷◌, ℕ, ◌<◌}
use Rattle.numbers.specs.law.Question.{Question}
use Rattle.numbers.specs.law.Items.{over}
use Rattle.case.specs.law.Field.{asks}

-- what a test answers at each of n items
abbrev pub Tested : (ℕ → Bool → Type 0) → (ℕ → Bool) → ℕ → Type 0
Tested answers test n = (i : ℕ) → i < n → (b : Bool) → answers i b → b ≡ test i

abbrev pub item_question : (ℕ → Bool) → ℕ → ℕ → List Question
item_question test number i = asks number i (test i) ∷ []

abbrev pub EachItem : (ℕ → Bool) → ℕ → ℕ → List Question
EachItem test number n = over (item_question test number) 0 n
