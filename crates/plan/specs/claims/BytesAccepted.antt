-- Two byte strings are told as accepted exactly where both are read to their ends and every rule holds of the numbers: a refusal's number is not 0.
-- Assumes nothing.
use Rattle.std.specs.Prelude.{◌≡◌, refl, List, ℕ, ◌+◌, ℤ, Ok, Err}
use Rattle.std.proofs.Common.{arith}
use Rattle.std.proofs.Math.ListN.{length}
use Rattle.numbers.specs.law.Told.{Told}
use Rattle.numbers.specs.law.Question.{first_no, Answer, found}
use Rattle.numbers.specs.law.Reading.{Ending, all, no, read_of}
use Rattle.numbers.specs.inside.SmallRefusals.{Between, Small}
use Rattle.case.specs.law.Judged.{case_questions}
use Rattle.case.specs.inside.SmallRefusals.{limit, case_small}
use Rattle.plan.specs.law.Totals.{totals_of}
use Rattle.plan.specs.law.Judged.{questions, verdict_told, judge_of}
use Rattle.plan.specs.law.JudgedBytes.{read_answer, on_plan_bytes, refused_or, bytes_judged}
use Rattle.plan.specs.inside.SmallRefusals.{judge_small}
use Rattle.plan.specs.inside.VerdictSizes.{read_fit, plan_read_fit}
use Rattle.plan.specs.claims.Acceptance.{PlanRules, sound, complete}

-- where 0 is told the plan is accepted, with its totals
pub zero_accepted : (case plan : List ℤ) → (judge_of case plan).number ≡ 0 → judge_of case plan ≡ verdict_told (Ok (totals_of case plan))
unfolding judge_of
zero_accepted case plan e = go (first_no (questions case plan)) (judge_small case plan) e
  where
    told : Answer → Told
    told a = verdict_told (found a (totals_of case plan))

    go : (a : Answer) → Small limit a → (told a).number ≡ 0 → told a ≡ told (Ok tt)
    go (Ok _) s e = refl
    go (Err n) s e = let f : ⊥ = omega (arith, s.3, e) in absurd f

-- the numbers that are read
abbrev pub numbers_in : List ℕ → ℕ → List ℤ
numbers_in bytes room = (read_of bytes room).stored

-- both are read to their ends, and every rule holds of the numbers
pub record BytesAccepted (case_bytes plan_bytes : List ℕ) (case_room plan_room : ℕ) : Type 0 where
  pub case_read : (read_of case_bytes case_room).ended ≡ all
  pub plan_read : (read_of plan_bytes plan_room).ended ≡ all
  pub rules : PlanRules (numbers_in case_bytes case_room) (numbers_in plan_bytes plan_room)

-- where 0 is told in the end, nothing before was refused
module _ (b : ℕ) (next : Told) where
  past : (a : Answer) → Small b a → (refused_or a next).number ≡ 0 → (a ≡ Ok tt) × (next.number ≡ 0)
  past (Ok _) s e = (refl, e)
  past (Err n) s e = let f : ⊥ = omega (arith, s.3, e) in absurd f

  read_past : (d : Ending) → Between 1 b (read_answer d) → (refused_or (read_answer d) next).number ≡ 0 → (d ≡ all) × (next.number ≡ 0)
  read_past all s e = (refl, e)
  read_past (no n p) s e = let f : ⊥ = omega (arith, s.3, e) in absurd f

  plan_read_past : (d : Ending) → Between 1 b (on_plan_bytes (read_answer d)) → (refused_or (on_plan_bytes (read_answer d)) next).number ≡ 0
      → (d ≡ all) × (next.number ≡ 0)
  plan_read_past all s e = (refl, e)
  plan_read_past (no n p) s e = let f : ⊥ = omega (arith, s.3, e) in absurd f

module _ (case_bytes plan_bytes : List ℕ) (case_list plan_list : List ℤ) where
  pub bytes_zero : (bytes_judged case_bytes plan_bytes case_list plan_list).told.number ≡ 0
      → BytesAccepted case_bytes plan_bytes (length case_list) (length plan_list)
  unfolding bytes_judged
  bytes_zero e =
      let case = numbers_in case_bytes (length case_list) in
      let plan = numbers_in plan_bytes (length plan_list) in
      let most = length case_bytes + 8 in
      let longest = length plan_bytes + 8 in
      let r = read_past most _ (read_of case_bytes (length case_list)).ended (read_fit case_bytes (length case_list) most (omega arith) (omega arith)) e in
      let c = past limit _ (first_no (case_questions case)) (case_small case) r.1 in
      let w = plan_read_fit plan_bytes (length plan_list) longest (omega arith) (omega arith) in
      let p = plan_read_past longest _ (read_of plan_bytes (length plan_list)).ended w c.1 in
      record { case_read = r.0; plan_read = p.0; rules = sound case plan (totals_of case plan) (zero_accepted case plan p.1) }

  pub accepted_bytes : BytesAccepted case_bytes plan_bytes (length case_list) (length plan_list)
      → (bytes_judged case_bytes plan_bytes case_list plan_list).told
      ≡ verdict_told (Ok (totals_of (numbers_in case_bytes (length case_list)) (numbers_in plan_bytes (length plan_list))))
  unfolding bytes_judged
  accepted_bytes b = rw (b.case_read, b.rules.case_yes, b.plan_read) (complete _ _ b.rules)
