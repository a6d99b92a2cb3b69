-- A step's answer with what its nodes leave over, where it is yes: back from what was found to the answer.
-- Assumes nothing.
use Rattle.std.specs.Prelude.{◌≡◌, refl, ℕ, Result, Ok, Err}
use Rattle.numbers.specs.declared.answer.No.{No}
use Rattle.numbers.specs.law.Question.{Answer, found}

pub kept_yes : (x : Answer) {m k : ℕ} {r : Result ℕ No} → r ≡ found x m → r ≡ Ok k → (x ≡ Ok tt) × (k ≡ m)
kept_yes (Ok _) e h = (refl, cc)
kept_yes (Err n) e h = absurd cc

pub no_first : (x : Answer) (m : ℕ) {n : No} {r : Result ℕ No} → r ≡ found x m → r ≡ Err n → x ≡ Err n
no_first (Ok _) m e h = absurd cc
no_first (Err n) m e h = cc
