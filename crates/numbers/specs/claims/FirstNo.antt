-- "The number stands for "no". The first "no" ends the judging."
-- Assumes nothing.
use Rattle.std.specs.Prelude.{◌≡◌, refl, Bool, true, false, List, [], ◌∷◌, ◌++◌, ℕ, Ok, Err}
use Rattle.std.proofs.Common.{ap, arith}
use Rattle.numbers.specs.law.Question.{Question, Answer, no_at, answer, or_else, first_no}
use Rattle.numbers.specs.claims.AllYes.{AllYes}
use Rattle.numbers.specs.inside.QuestionLaws.{no_in, all_yes, none_no, first_no_append}

-- One question of the list is answered "no", and has this number, step and place; every question before it is answered "yes".
pub record FirstNo (questions : List Question) (number step place : ℕ) : Type 0 where
  pub before : List Question
  pub asked : Question
  pub after : List Question
  pub in_order : questions ≡ before ++ (asked ∷ after)
  pub all_before : AllYes before
  pub no : asked.yes ≡ false
  pub its_number : asked.number ≡ number
  pub its_step : asked.step ≡ step
  pub its_place : asked.place ≡ place

-- a question more in front, answered "yes"
one_before : (q : Question) {qs : List Question} {n s p : ℕ} → q.yes ≡ true → FirstNo qs n s p → FirstNo (q ∷ qs) n s p
one_before q y f = record {
  before = q ∷ f.before;
  asked = f.asked;
  after = f.after;
  in_order = ap (λ (l : List Question). q ∷ l) f.in_order;
  all_before = (y, f.all_before);
  no = f.no;
  its_number = f.its_number;
  its_step = f.its_step;
  its_place = f.its_place;
}

-- A refusal is that of the first "no" ..
pub refusal_first : (qs : List Question) (n s p : ℕ) → first_no qs ≡ Err (no_at n s p) → FirstNo qs n s p
refusal_first [] n s p e = let z : ◌≡◌ {A = ℕ} 0 1 = cc in let f : ⊥ = omega arith in absurd f
refusal_first (q ∷ qs) n s p e = go q.yes refl e (refusal_first qs n s p)
  where
    go : (y : Bool) → q.yes ≡ y → or_else (answer y q.number q.step q.place) (first_no qs) ≡ Err (no_at n s p)
        → (first_no qs ≡ Err (no_at n s p) → FirstNo qs n s p) → FirstNo (q ∷ qs) n s p
    go true y e later = one_before q y (later e)
    go false y e later = record {
      before = [];
      asked = q;
      after = qs;
      in_order = refl;
      all_before = tt;
      no = y;
      its_number = ap (λ (a : Answer). (no_in a).number) e;
      its_step = ap (λ (a : Answer). (no_in a).step) e;
      its_place = ap (λ (a : Answer). (no_in a).place) e;
    }

-- .. and the first "no" is the refusal; there is none exactly where every question is answered "yes".
pub first_refusal : (qs : List Question) (n s p : ℕ) → FirstNo qs n s p → first_no qs ≡ Err (no_at n s p)
first_refusal qs n s p f =
    rw (f.in_order, first_no_append f.before (f.asked ∷ f.after), none_no f.before f.all_before, f.no, f.its_number, f.its_step, f.its_place)

pub none_refused_lem : (qs : List Question) → first_no qs ≡ Ok tt → AllYes qs
none_refused_lem = all_yes

pub all_answered : (qs : List Question) → AllYes qs → first_no qs ≡ Ok tt
all_answered = none_no
