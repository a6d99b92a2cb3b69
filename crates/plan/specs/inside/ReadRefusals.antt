-- Which string a refusal on bytes is about, in the call on two: those of a reading have the numbers 1 to 7, the case's 1 to 3 and the plan's 5 to 7, and those
-- of a case or a plan higher ones.
-- Assumes nothing.
use Rattle.std.specs.Prelude.{◌≡◌, refl, Bool, true, false, cond, List, ℕ, ◌+◌, ◌≤◌, eqb, ℤ, length, Ok, Err}
use Rattle.std.proofs.Common.{ap, arith, eqb-true}
use Rattle.std.proofs.lemmas.Bool.{eqb-false}
use Rattle.numbers.specs.law.Told.{Told, refuses}
use Rattle.numbers.specs.law.Question.{first_no, Answer, found}
use Rattle.numbers.specs.law.Reading.{Ending, all, no}
use Rattle.numbers.specs.inside.SmallRefusals.{Small}
use Rattle.case.specs.inside.SmallRefusals.{limit}
use Rattle.plan.specs.law.Totals.{totals_of}
use Rattle.plan.specs.law.Judged.{questions, verdict_told, judge_of}
use Rattle.plan.specs.law.JudgedBytes.{read_answer, plan_number, on_plan_bytes, refused_or}
use Rattle.plan.specs.inside.SmallRefusals.{judge_small}
use Rattle.plan.specs.inside.VerdictSizes.{plan_number_small, refused_same}

pub not_judged : (case plan : List ℤ) {n p : ℕ} → n ≤ 7 → ¬ (judge_of case plan ≡ refuses n 0 p)
unfolding judge_of
not_judged case plan {n} {p} h e = go (first_no (questions case plan)) (judge_small case plan) e
  where
    go : (a : Answer) → Small limit a → ¬ (verdict_told (found a (totals_of case plan)) ≡ refuses n 0 p)
    go (Ok _) s e = omega (arith, ap (λ (t : Told). length t.values) e)
    go (Err n) s e = omega (arith, s.3, (refused_same e).0)

-- what is told of the case's reading, then of the case, then of the plan's reading, and else `next`
abbrev pub in_turn : Ending → Answer → Ending → Told → Told
in_turn case_ended case_judged plan_ended next = refused_or (read_answer case_ended)
    (refused_or case_judged (refused_or (on_plan_bytes (read_answer plan_ended)) next))

-- "1 to 3 on plan bytes become 5 (for 1), 6, 7"
turned : (k n : ℕ) → 1 ≤ k → k ≤ 3 → plan_number k ≡ n + 4 → k ≡ n
turned k n least most e = go (eqb k 1) refl (eqb k 2) refl e
  where
    go : (a : Bool) → eqb k 1 ≡ a → (b : Bool) → eqb k 2 ≡ b → cond a 5 (cond b 6 7) ≡ n + 4 → k ≡ n
    go true x b y e = omega (arith, eqb-true k 1 x, e)
    go false x true y e = omega (arith, eqb-true k 2 y, e)
    go false x false y e = omega (arith, eqb-false k 1 x, eqb-false k 2 y, least, most, e)

-- the case is read and accepted, and the reading of the plan is refused by n
pub record PlanRefused (n p : ℕ) (c : Ending) (j : Answer) (d : Ending) : Type 0 where
  pub case_read : c ≡ all
  pub case_yes : j ≡ Ok tt
  pub refused : d ≡ no n p

-- a reading that is refused is so by 1 to 3
abbrev pub Few : Ending → Type 0
Few d = (m q : ℕ) → d ≡ no m q → (1 ≤ m) × (m ≤ 3)

module _ {n p : ℕ} {next : Told} (most : n ≤ 3) where
  pub case_refused : (c : Ending) (j : Answer) (d : Ending) → ¬ (next ≡ refuses n 0 p) → Small limit j
      → in_turn c j d next ≡ refuses n 0 p → c ≡ no n p
  case_refused (no m q) j d judged s e = let x = refused_same e in rw (x.0, x.2)
  case_refused all (Err n) d judged s e = let f : ⊥ = omega (arith, s.3, most, (refused_same e).0) in absurd f
  case_refused all (Ok _) (no m q) judged s e = let f : ⊥ = omega (arith, (plan_number_small m).1, most, (refused_same e).0) in absurd f
  case_refused all (Ok _) all judged s e = absurd (judged e)

  pub plan_refused : (c : Ending) (j : Answer) (d : Ending) → ¬ (next ≡ refuses (n + 4) 0 p) → Few c → Few d → Small limit j
      → in_turn c j d next ≡ refuses (n + 4) 0 p → PlanRefused n p c j d
  plan_refused (no m q) j d judged few k s e = let f : ⊥ = omega (arith, (few m q refl).1, (refused_same e).0) in absurd f
  plan_refused all (Err n) d judged few k s e = let f : ⊥ = omega (arith, s.3, most, (refused_same e).0) in absurd f
  plan_refused all (Ok tt) (no m q) judged few k s e =
      let x = refused_same e in
      let w = k m q refl in
      record { case_read = refl; case_yes = refl; refused = rw (turned m n w.0 w.1 x.0, x.2) }
  plan_refused all (Ok _) all judged few k s e = absurd (judged e)
