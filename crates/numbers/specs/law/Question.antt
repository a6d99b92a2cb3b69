-- Questions in their order, and the first that is answered "no".
-- Assumes nothing.
use Rattle.std.specs.Prelude.{Bool, true, false, List, [], ◌∷◌, ℕ, ℤ, Result, Ok, Err}
use Rattle.numbers.specs.law.Told.{Told, gives, refuses}
use Rattle.numbers.specs.declared.answer.No.{No}

-- A question with its number in the documents, and the step and the place that a "no" has.
pub record Question : Type 0 where
  pub yes : Bool
  pub number : ℕ
  pub step : ℕ
  pub place : ℕ

-- Yes, or the no that ends the judging.
abbrev pub Answer : Type 0
Answer = Result Unit No

abbrev pub no_at : ℕ → ℕ → ℕ → No
no_at number step place = record { number = number; step = step; place = place }

-- the answer to one question
abbrev pub answer : Bool → ℕ → ℕ → ℕ → Answer
answer true number step place = Ok tt
answer false number step place = Err (no_at number step place)

abbrev pub answer_to : Question → Answer
answer_to q = answer q.yes q.number q.step q.place

-- the first no of two
abbrev pub or_else : Answer → Answer → Answer
or_else (Ok _) b = b
or_else (Err n) b = Err n

-- "The first "no" ends the judging."
abbrev pub first_no : List Question → Answer
first_no [] = Ok tt
first_no (q ∷ qs) = or_else (answer_to q) (first_no qs)

-- what was found, where every question is answered "yes"
abbrev pub found : {A : Type 0} → Answer → A → Result A No
found (Ok _) a = Ok a
found (Err n) a = Err n

-- what is told: the values of what was found, or the number, the step and the place of the "no"
abbrev pub told_with : {A : Type 0} → (A → List ℤ) → Result A No → Told
told_with values (Ok a) = gives (values a)
told_with values (Err n) = refuses n.number n.step n.place

-- a yes alone has no values
abbrev pub told : Answer → Told
told a = told_with (λ u. []) a
