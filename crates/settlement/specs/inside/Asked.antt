-- What the answers to 60 to 62 say of the two records.
-- Assumes nothing.
use Rattle.std.specs.Prelude.{Bool, true, false, ◌&&◌, List, [], ◌∷◌, ◌++◌, ◌≡◌, refl, ℕ, zero, suc, ◌+◌, ◌<◌, ◌≤◌, ◌%◌, eqb, ℤ, length, Ok, Err}
use Rattle.std.specs.List.{list_all, range_with_len}
use Rattle.std.proofs.lemmas.Bool.{false≢true}
use Rattle.std.proofs.Common.{sym, ◌∙◌, add-one, leb-true}
use Rattle.numbers.specs.declared.answer.No.{No}
use Rattle.numbers.specs.law.Question.{Question, first_no, or_else, answer, Answer, no_at}
use Rattle.numbers.specs.law.Items.{over}
use Rattle.numbers.specs.inside.QuestionLaws.{or_else_yes, first_no_append, all_yes, first_yes, second_yes, and_first, and_second}
use Rattle.numbers.specs.inside.ItemLaws.{rest, rest_on, rest_no, item_yes}
use Rattle.settlement.specs.law.Records.{rows_of}
use Rattle.settlement.specs.law.RecordRules.{in_grams, whole_rows, most_rows, records_question, time_question, time_questions}
use Rattle.settlement.specs.law.RecordRules.{mass_question, mass_questions, settle_questions}
use Rattle.settlement.specs.inside.Merging.{Meter, Meters}

pub whole_few : (meter : List ℤ) → whole_rows meter ≡ true → rows_of meter ≤ most_rows
unfolding whole_rows
whole_few meter w = leb-true (rows_of meter) most_rows (and_second (eqb (length meter % 2) 0) _ w)

meter_of : (meter : List ℤ) → whole_rows meter ≡ true → first_no (time_questions meter) ≡ Ok tt → first_no (mass_questions meter) ≡ Ok tt → Meter meter
unfolding time_questions mass_questions time_question mass_question
meter_of meter w t m = record {
  few = whole_few meter w;
  rising = λ i h. (all_yes (time_question meter i) (item_yes (time_question meter) (rows_of meter) t i h)).0;
  sized = λ i h. (all_yes (mass_question meter i) (item_yes (mass_question meter) (rows_of meter) m i h)).0;
}

-- is the answer a yes?
abbrev pub none_refused : Answer → Bool
none_refused (Ok _) = true
none_refused (Err n) = false

pub first_refused : (a b : Answer) {n s p : ℕ} → a ≡ Err (no_at n s p) → none_refused (or_else a b) ≡ false
first_refused a b e = rw e

pub second_refused : (a b : Answer) {n s p : ℕ} → b ≡ Err (no_at n s p) → none_refused (or_else a b) ≡ false
second_refused (Ok _) b e = rw e
second_refused (Err n) b e = refl

pub both_yes : (a b : Answer) → none_refused (or_else a b) ≡ true → (a ≡ Ok tt) × (b ≡ Ok tt)
both_yes (Ok _) (Ok _) e = (refl, refl)
both_yes (Ok _) (Err n) e = absurd (false≢true e)
both_yes (Err n) b e = absurd (false≢true e)

-- what a test answers at each of n rows
abbrev pub Tested : (ℕ → Bool → Type 0) → (ℕ → Bool) → ℕ → Type 0
Tested answers test n = (i : ℕ) → i < n → (b : Bool) → answers i b → b ≡ test i

-- one question of each of n rows
abbrev pub row_question : (ℕ → Bool) → ℕ → ℕ → List Question
row_question test number i = record { yes = test i; number = number; step = 0; place = i } ∷ []

abbrev pub EachRow : (ℕ → Bool) → ℕ → ℕ → List Question
EachRow test number n = over (row_question test number) 0 n

-- a turn of the loop that asks them, by what the test answers of row i
module _ (test : ℕ → Bool) (number i n : ℕ) (so_far : first_no (EachRow test number n) ≡ rest (row_question test number) i n)
    (p : i < n) {b : Bool} (e : b ≡ test i) where
  row_asked : answer b number 0 i ≡ first_no (row_question test number i)
  row_asked = rw e (sym (or_else_yes _))

  pub row_on : {one : Answer} → one ≡ answer b number 0 i → one ≡ Ok tt → first_no (EachRow test number n) ≡ rest (row_question test number) (i + 1) n
  row_on h y = rest_on (row_question test number) i n so_far p (h ∙ row_asked) y

  pub row_no : {one : Answer} {x : No} → one ≡ answer b number 0 i → one ≡ Err x → Err x ≡ first_no (EachRow test number n)
  row_no h y = sym (rest_no (row_question test number) i n so_far p (h ∙ row_asked) y ∙ y)

-- two questions of each row are kept if both tests are passed at each
pub all_kept : (p q : ℕ → Bool) (k m i c : ℕ)
    → list_all (λ j. p j && q j) (range_with_len i c)
    ≡ none_refused (or_else (first_no (over (row_question p k) i c)) (first_no (over (row_question q m) i c)))
all_kept p q k m i zero = refl
all_kept p q k m i (suc c) = go (p i) (q i) (first_no (over (row_question p k) (suc i) c)) (first_no (over (row_question q m) (suc i) c))
    (rw (add-one i) (all_kept p q k m (suc i) c))
  where
    go : (a b : Bool) (v w : Answer) {l : Bool} → l ≡ none_refused (or_else v w)
        → (a && b && l) ≡ none_refused (or_else (or_else (answer a k 0 i) v) (or_else (answer b m 0 i) w))
    go true true v w e = e
    go true false (Ok _) w e = refl
    go true false (Err n) w e = refl
    go false b v w e = refl

-- what is asked after 60
abbrev pub row_questions : List ℤ → List ℤ → List Question
row_questions sender receiver = time_questions sender ++ (time_questions receiver ++ (mass_questions sender ++ mass_questions receiver))

pub rows_answer : (sender receiver : List ℤ) → first_no (row_questions sender receiver)
    ≡ or_else (first_no (time_questions sender))
    (or_else (first_no (time_questions receiver)) (or_else (first_no (mass_questions sender)) (first_no (mass_questions receiver))))
rows_answer sender receiver =
    rw (first_no_append (time_questions sender), first_no_append (time_questions receiver), first_no_append (mass_questions sender)) refl

-- a record whose rows keep both
pub kept_time : (meter : List ℤ) → none_refused (or_else (first_no (time_questions meter)) (first_no (mass_questions meter))) ≡ true
    → first_no (time_questions meter) ≡ Ok tt
kept_time meter e = (both_yes (first_no (time_questions meter)) (first_no (mass_questions meter)) e).0

pub kept_mass : (meter : List ℤ) → none_refused (or_else (first_no (time_questions meter)) (first_no (mass_questions meter))) ≡ true
    → first_no (mass_questions meter) ≡ Ok tt
kept_mass meter e = (both_yes (first_no (time_questions meter)) (first_no (mass_questions meter)) e).1

module _ (sender receiver : List ℤ) (agreed : ℤ) (y : first_no (settle_questions sender receiver agreed) ≡ Ok tt) where
  -- 60
  pub kept : (whole_rows sender && (whole_rows receiver && in_grams agreed)) ≡ true
  unfolding settle_questions records_question
  kept = (all_yes (records_question sender receiver agreed ∷ []) (first_yes (records_question sender receiver agreed ∷ []) (row_questions sender receiver) y)).0

  -- 61 and 62
  rows_yes : first_no (row_questions sender receiver) ≡ Ok tt
  unfolding settle_questions
  rows_yes = second_yes (records_question sender receiver agreed ∷ []) (row_questions sender receiver) y

  pub asked_meters : Meters sender receiver
  asked_meters =
      let whole = and_second (whole_rows sender) (whole_rows receiver && in_grams agreed) kept in
      let later = second_yes (time_questions sender) _ rows_yes in
      let masses = second_yes (time_questions receiver) _ later in
      let s = first_yes (time_questions sender) _ rows_yes in
      let r = first_yes (time_questions receiver) _ later in
      record {
        of_sender = meter_of sender (and_first (whole_rows sender) _ kept) s (first_yes (mass_questions sender) _ masses);
        of_receiver = meter_of receiver (and_first (whole_rows receiver) _ whole) r (second_yes (mass_questions sender) _ masses);
      }

  pub asked_agreed : in_grams agreed ≡ true
  asked_agreed = and_second (whole_rows receiver) (in_grams agreed) (and_second (whole_rows sender) (whole_rows receiver && in_grams agreed) kept)
