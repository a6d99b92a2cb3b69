-- The numbers of a settlement fit what an export hands on: counts add up to the rows of a record and places are below them, and 60 leaves at most 5,000 rows.
-- Assumes nothing.
use Rattle.std.specs.Prelude.{◌&&◌, List, ◌≡◌, ℕ, ◌<◌, ◌≤◌, ◌^◌, ℤ, Result, Ok, Err}
use Rattle.std.proofs.Common.{sym}
use Rattle.std.proofs.Math.Path.{ap, subst}
use native.Mathlib.Omega.{arith}
use Rattle.std.proofs.Math.ListN.{length}
use Rattle.numbers.specs.declared.answer.No.{No}
use Rattle.numbers.specs.law.Told.{Told}
use Rattle.numbers.specs.law.Question.{first_no, found, Answer}
use Rattle.numbers.specs.inside.QuestionLaws.{told_same, and_first, and_second}
use Rattle.numbers.specs.inside.SmallRefusals.{Small, AllSmall, small_next, all_small, all_append, all_over}
use Rattle.settlement.specs.declared.figures.Figures.{Figures}
use Rattle.settlement.specs.law.Records.{rows_of}
use Rattle.settlement.specs.law.RecordRules.{in_grams, whole_rows, most_rows, records_question, time_question, time_questions}
use Rattle.settlement.specs.law.RecordRules.{mass_question, mass_questions, settle_questions}
use Rattle.settlement.specs.law.Settled.{settled_figures}
use Rattle.settlement.specs.law.Settling.{settlement_told, settle_of}
use Rattle.settlement.specs.inside.Asked.{whole_few, row_questions}
use Rattle.settlement.specs.inside.ToldLaws.{told_meters}
use Rattle.settlement.specs.claims.Counted.{sender_rows, receiver_rows}

-- above every number, step and place of a refusal
abbrev pub limit : ℕ
limit = 10000

module _ (meter : List ℤ) (few : rows_of meter ≤ most_rows) where
  times_small : AllSmall limit (time_questions meter)
  unfolding time_questions time_question
  times_small = all_over limit (time_question meter) 0 (rows_of meter) (λ i l. omega (arith, l, few))

  masses_small : AllSmall limit (mass_questions meter)
  unfolding mass_questions mass_question
  masses_small = all_over limit (mass_question meter) 0 (rows_of meter) (λ i l. omega (arith, l, few))

pub settle_small : (sender receiver : List ℤ) (agreed : ℤ) → Small limit (first_no (settle_questions sender receiver agreed))
unfolding settle_questions records_question
settle_small sender receiver agreed =
    small_next limit (records_question sender receiver agreed) (row_questions sender receiver) (omega arith) (omega arith) (omega arith) (omega arith) (λ y.
    let s = whole_few sender (and_first (whole_rows sender) _ y) in
    let r = whole_few receiver (and_first (whole_rows receiver) (in_grams agreed)
    (and_second (whole_rows sender) (whole_rows receiver && in_grams agreed) y)) in
    let masses = all_append limit (mass_questions sender) (mass_questions receiver) (masses_small sender s) (masses_small receiver r) in
    let later = all_append limit (time_questions receiver) _ (times_small receiver r) masses in
    all_small limit (row_questions sender receiver) (all_append limit (time_questions sender) _ (times_small sender s) later))

abbrev pub Fit : ℕ → Result Figures No → Type 0
Fit b (Ok f) = (f.agreed < b) × (f.cut < b) × (f.sender < b) × (f.receiver < b)
Fit b (Err n) = (n.number < b) × (n.step < b) × (n.place < b)

module _ (sender receiver : List ℤ) (agreed : ℤ) where
  pub settle_fits : (v : Result Figures No) → settlement_told v ≡ settle_of sender receiver agreed → Fit (2 ^ 63) v
  unfolding settle_of
  settle_fits (Ok f) e =
      omega (arith, told_meters sender receiver agreed f (sym e), sender_rows sender receiver agreed f (sym e), receiver_rows sender receiver agreed f (sym e))
  settle_fits (Err n) e = go (first_no (settle_questions sender receiver agreed)) (settle_small sender receiver agreed) e
    where
      go : (a : Answer) → Small limit a → settlement_told (Err n) ≡ settlement_told (found a (settled_figures sender receiver agreed))
          → Fit (2 ^ 63) (Err n)
      go (Ok _) w e = let t = ap (λ (x : Told). length x.values) e in let z : ⊥ = omega arith in absurd z
      go (Err m) w e = let k = subst (Small limit) (sym (told_same (Err n) (Err m) e)) w in omega (arith, k)
