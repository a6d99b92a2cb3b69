-- What records are settled, in plain facts of numbers: two records are settled exactly if these hold (`sound` and `complete`). Each of 60 to 62 is one of the
-- facts, as a test.
-- Assumes nothing.
use Rattle.std.specs.Prelude.{true, List, ◌≡◌, eqb, ℤ, pos, length, ◌<ℤ◌, ◌≤ℤ◌, Ok}
use Prim.Native.Nat.{ℕ, zero, suc, ◌+◌, ◌*◌, ◌%◌, ◌<◌, ◌≤◌}
use Rattle.std.proofs.Math.Numerals.{add-one}
use Rattle.std.proofs.Common.{arith}
use borrow.Author.Tests.{eqb-true, eq-eqb, le-leb}
use Rattle.std.specs.Int.Signed.{le_z}
use Rattle.numbers.specs.law.Question.{Question, first_no}
use Rattle.numbers.specs.law.Items.{over}
use Rattle.numbers.specs.inside.QuestionLaws.{first_no_append, none_no, and_first, and_second}
use Rattle.numbers.specs.inside.ItemLaws.{over_all, zero_add}
use Rattle.numbers.specs.inside.SignedParts.{ints}
use Rattle.settlement.specs.declared.figures.Figures.{Figures}
use Rattle.settlement.specs.law.Records.{rows_of, time_of, grams_of}
use Rattle.settlement.specs.law.RecordRules.{in_grams, whole_rows, rises, records_question, time_question, time_questions}
use Rattle.settlement.specs.law.RecordRules.{mass_question, mass_questions, settle_questions}
use Rattle.settlement.specs.law.Settled.{settled_figures}
use Rattle.settlement.specs.law.Settling.{settlement_told, settle_of}
use Rattle.settlement.specs.inside.Merging.{Meter}
use Rattle.settlement.specs.inside.Asked.{kept}
use Rattle.settlement.specs.inside.ToldLaws.{told_yes, told_meters, told_agreed}

-- a mass, or the agreed figure
pub record InGrams (x : ℤ) : Type 0 where
  pub least : pos 0 ≤ℤ x
  pub most : x ≤ℤ pos 1000000000000

pub record MeterRules (meter : List ℤ) : Type 0 where
  -- 60: rows of two numbers, at most 5,000 of them
  pub whole : length meter ≡ 2 * rows_of meter
  pub few : rows_of meter ≤ 5000
  -- 61: times rise strictly from 0 or more
  pub first : 0 < rows_of meter → pos 0 ≤ℤ time_of meter 0
  pub rising : (i : ℕ) → i + 1 < rows_of meter → time_of meter i <ℤ time_of meter (i + 1)
  -- 62
  pub masses : (i : ℕ) → i < rows_of meter → InGrams (grams_of meter i)

pub record SettleRules (sender receiver : List ℤ) (agreed : ℤ) : Type 0 where
  pub of_sender : MeterRules sender
  pub of_receiver : MeterRules receiver
  pub within : InGrams agreed

-- ---- each test and its fact

in_grams_lem : {x : ℤ} → in_grams x ≡ true → InGrams x
in_grams_lem {x} e =
    let a = and_first (le_z (pos 0) x) _ e in
    let b = and_second (le_z (pos 0) x) _ e in
    omega ints

grams_in : {x : ℤ} → InGrams x → in_grams x ≡ true
grams_in {x} g =
    let a : le_z (pos 0) x ≡ true = omega ints in
    let b : le_z x (pos 1000000000000) ≡ true = omega ints in
    rw (a, b)

meter_rules : {meter : List ℤ} → whole_rows meter ≡ true → Meter meter → MeterRules meter
unfolding whole_rows rises
meter_rules {meter} w m = record {
  whole = omega (arith, eqb-true (length meter % 2) 0 (and_first (eqb (length meter % 2) 0) _ w));
  few = m.few;
  first = λ h. let r = m.rising 0 h in omega ints;
  rising = λ i h. let r = m.rising (suc i) (rw add-one at h) in rw add-one (omega ints);
  masses = λ i h. in_grams_lem (m.sized i h);
}

rows_yes : (f : ℕ → List Question) (n : ℕ) → ((i : ℕ) → i < n → first_no (f i) ≡ Ok tt) → first_no (over f 0 n) ≡ Ok tt
rows_yes f n h = over_all f 0 n (λ i l. rw (zero_add i) (h i l))

module _ {meter : List ℤ} (m : MeterRules meter) where
  whole_yes : whole_rows meter ≡ true
  unfolding whole_rows
  whole_yes = rw (eq-eqb (length meter % 2) 0 (omega (arith, m.whole)), le-leb (rows_of meter) 5000 m.few)

  rise_yes : (i : ℕ) → i < rows_of meter → rises meter i ≡ true
  unfolding rises
  rise_yes zero h = let r = m.first h in omega ints
  rise_yes (suc i) h = let r = rw add-one at (m.rising i (rw add-one h)) in omega ints

  times_yes : first_no (time_questions meter) ≡ Ok tt
  unfolding time_questions time_question
  times_yes = rows_yes (time_question meter) (rows_of meter) (λ i l. none_no (time_question meter i) (rise_yes i l, tt))

  masses_yes : first_no (mass_questions meter) ≡ Ok tt
  unfolding mass_questions mass_question
  masses_yes = rows_yes (mass_question meter) (rows_of meter) (λ i l. none_no (mass_question meter i) (grams_in (m.masses i l), tt))

-- ---- settled exactly if

module _ (sender receiver : List ℤ) (agreed : ℤ) where
  pub sound : (f : Figures) → settle_of sender receiver agreed ≡ settlement_told (Ok f) → SettleRules sender receiver agreed
  sound f e =
      let w = kept sender receiver agreed (told_yes sender receiver agreed f e) in
      let m = told_meters sender receiver agreed f e in
      record {
        of_sender = meter_rules (and_first (whole_rows sender) _ w) m.of_sender;
        of_receiver = meter_rules (and_first (whole_rows receiver) (in_grams agreed) (and_second (whole_rows sender) _ w)) m.of_receiver;
        within = in_grams_lem (told_agreed sender receiver agreed f e);
      }

  rules_yes : SettleRules sender receiver agreed → first_no (settle_questions sender receiver agreed) ≡ Ok tt
  unfolding settle_questions records_question
  rules_yes r =
      let s = r.of_sender in
      let k = r.of_receiver in
      rw (whole_yes s, whole_yes k, grams_in r.within, first_no_append (time_questions sender), times_yes s)
      (rw (first_no_append (time_questions receiver), times_yes k, first_no_append (mass_questions sender), masses_yes s) (masses_yes k))

  pub complete : SettleRules sender receiver agreed → settle_of sender receiver agreed ≡ settlement_told (Ok (settled_figures sender receiver agreed))
  unfolding settle_of
  complete r = rw (rules_yes r)
