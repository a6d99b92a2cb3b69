-- The byte that is wrong, of the call on two byte strings: 1 to 3 are about the case's bytes and 5 to 7 about the plan's, and each has the place that the
-- reading of its own string gives (numbers/specs/claims/WrongByte.antt). By 1 and 5 it is the length of that string; by 2 and 6 it is the byte that is
-- wrong: the string cut right before it is told as ended there, and whatever stands after it, the call answers and leaves the same; by 3 and 7 it is the
-- first byte of the number for which the list is full.
-- Carried by what tells the refusals apart: those of a reading have the numbers 1 to 7, those of a case or a plan higher ones.
-- Assumes nothing.
use Rattle.std.specs.Prelude.{◌≡◌, refl, List, ◌++◌, ℕ, ◌+◌, ◌≤◌, ℤ, length, take}
use Rattle.std.proofs.Common.{arith}
use Rattle.numbers.specs.law.Told.{refuses}
use Rattle.numbers.specs.law.Question.{first_no}
use Rattle.numbers.specs.law.Reading.{no, read_of}
use Rattle.numbers.specs.claims.WrongByte.{end_place, before_bad, bad_for_good}
use Rattle.case.specs.law.Judged.{case_questions}
use Rattle.case.specs.inside.SmallRefusals.{case_small}
use Rattle.plan.specs.law.JudgedBytes.{BytesJudged, bytes_judged}
use Rattle.plan.specs.inside.VerdictSizes.{unread_small}
use Rattle.plan.specs.inside.ReadRefusals.{not_judged, PlanRefused, case_refused, plan_refused}

-- the two calls leave the same in the lent lists
abbrev pub SameLists : BytesJudged → BytesJudged → Type 0
SameLists a b = (a.case_list ≡ b.case_list) × (a.plan_list ≡ b.plan_list)

module _ (case_bytes plan_bytes : List ℕ) (case_list plan_list : List ℤ) {p : ℕ} where
  -- ---- the case's bytes

  -- 1 to 3: so the reading of the case's bytes is refused, at that place.
  pub case_told : {n : ℕ} → n ≤ 3 → (bytes_judged case_bytes plan_bytes case_list plan_list).told ≡ refuses n 0 p
      → (read_of case_bytes (length case_list)).ended ≡ no n p
  unfolding bytes_judged
  case_told h e =
      let case = (read_of case_bytes (length case_list)).stored in
      case_refused h (read_of case_bytes (length case_list)).ended (first_no (case_questions case)) (read_of plan_bytes (length plan_list)).ended
      (not_judged case (read_of plan_bytes (length plan_list)).stored (omega (arith, h))) (case_small case) e

  -- 1: the place is the length of the case's bytes.
  pub case_end_place : (bytes_judged case_bytes plan_bytes case_list plan_list).told ≡ refuses 1 0 p → p ≡ length case_bytes
  case_end_place e = end_place case_bytes (length case_list) (case_told (omega arith) e)

  -- 2: of the case's bytes before the place the call tells 1 at that place, and leaves the same in both lists;
  pub case_before_bad : (bytes_judged case_bytes plan_bytes case_list plan_list).told ≡ refuses 2 0 p
      → ((bytes_judged (take p case_bytes) plan_bytes case_list plan_list).told ≡ refuses 1 0 p)
      × SameLists (bytes_judged (take p case_bytes) plan_bytes case_list plan_list) (bytes_judged case_bytes plan_bytes case_list plan_list)
  unfolding bytes_judged
  case_before_bad e =
      let u = case_told (omega arith) e in
      let b = before_bad case_bytes (length case_list) u in
      (rw b, (rw b, rw (b, u)))

  -- and whatever follows the byte there, the call tells and leaves the same.
  pub case_bad_for_good : (bytes_judged case_bytes plan_bytes case_list plan_list).told ≡ refuses 2 0 p → (rest : List ℕ)
      → bytes_judged (take (p + 1) case_bytes ++ rest) plan_bytes case_list plan_list ≡ bytes_judged case_bytes plan_bytes case_list plan_list
  unfolding bytes_judged
  case_bad_for_good e rest = rw (bad_for_good case_bytes (length case_list) (case_told (omega arith) e) rest)

  -- ---- the plan's bytes

  plan_ended_lem : {n : ℕ} → n ≤ 3 → (bytes_judged case_bytes plan_bytes case_list plan_list).told ≡ refuses (n + 4) 0 p
      → PlanRefused n p (read_of case_bytes (length case_list)).ended (first_no (case_questions (read_of case_bytes (length case_list)).stored))
      (read_of plan_bytes (length plan_list)).ended
  unfolding bytes_judged
  plan_ended_lem h e =
      let case = (read_of case_bytes (length case_list)).stored in
      plan_refused h (read_of case_bytes (length case_list)).ended (first_no (case_questions case)) (read_of plan_bytes (length plan_list)).ended
      (not_judged case (read_of plan_bytes (length plan_list)).stored (omega (arith, h)))
      (λ m q r. let w = unread_small case_bytes (length case_list) r in (w.2, w.0))
      (λ m q r. let w = unread_small plan_bytes (length plan_list) r in (w.2, w.0)) (case_small case) e

  -- 5 to 7: so the reading of the plan's bytes is refused by 1 to 3, at that place.
  pub plan_told : {n : ℕ} → n ≤ 3 → (bytes_judged case_bytes plan_bytes case_list plan_list).told ≡ refuses (n + 4) 0 p
      → (read_of plan_bytes (length plan_list)).ended ≡ no n p
  plan_told h e = (plan_ended_lem h e).refused

  -- 5: the place is the length of the plan's bytes.
  pub plan_end_place : (bytes_judged case_bytes plan_bytes case_list plan_list).told ≡ refuses 5 0 p → p ≡ length plan_bytes
  plan_end_place e = end_place plan_bytes (length plan_list) (plan_told (omega arith) e)

  -- 6: of the plan's bytes before the place the call tells 5 at that place, and leaves the same in both lists;
  pub plan_before_bad : (bytes_judged case_bytes plan_bytes case_list plan_list).told ≡ refuses 6 0 p
      → ((bytes_judged case_bytes (take p plan_bytes) case_list plan_list).told ≡ refuses 5 0 p)
      × SameLists (bytes_judged case_bytes (take p plan_bytes) case_list plan_list) (bytes_judged case_bytes plan_bytes case_list plan_list)
  unfolding bytes_judged
  plan_before_bad e =
      let u = plan_ended_lem {n = 2} (omega arith) e in
      let b = before_bad plan_bytes (length plan_list) u.refused in
      (rw (u.case_read, u.case_yes, b), (refl, rw b))

  -- and whatever follows the byte there, the call tells and leaves the same.
  pub plan_bad_for_good : (bytes_judged case_bytes plan_bytes case_list plan_list).told ≡ refuses 6 0 p → (rest : List ℕ)
      → bytes_judged case_bytes (take (p + 1) plan_bytes ++ rest) case_list plan_list ≡ bytes_judged case_bytes plan_bytes case_list plan_list
  unfolding bytes_judged
  plan_bad_for_good e rest = rw (bad_for_good plan_bytes (length plan_list) (plan_told (omega arith) e) rest)
