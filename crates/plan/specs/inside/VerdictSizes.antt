-- The numbers of a verdict and of the answer on two byte strings fit what an export hands on.
use Rattle.std.specs.Prelude.{◌≡◌, Bool, true, false, cond, List, [], ◌∷◌, ℕ, ◌*◌, ◌<◌, ◌≤◌, ◌^◌, ℤ, eqb, length, get_or, Ok, Err}
use Rattle.std.proofs.Math.Path.{refl, ap}
use native.Mathlib.Omega.{arith}
use Rattle.std.proofs.Math.IntN.{pos, nat_abs}
use Rattle.numbers.specs.law.Told.{Told, refuses}
use Rattle.numbers.specs.law.Question.{first_no, Answer, found}
use Rattle.numbers.specs.law.Items.{over}
use Rattle.numbers.specs.inside.SmallRefusals.{Between, Small}
use Rattle.numbers.specs.law.Reading.{Ending, all, no, read_of, read_told}
use Rattle.numbers.specs.inside.ReadingBounds.{refusal_within}
use Rattle.numbers.specs.inside.SumLaws.{sum_n_bound}
use Rattle.plan.specs.inside.SumSizes.{most_residual, most_switching}
use Rattle.case.specs.law.Layout.{nodes_of, arcs_of, steps_of}
use Rattle.case.specs.inside.FieldLaws.{first_yes, second_yes, item_yes}
use Rattle.case.specs.law.Judged.{case_questions}
use Rattle.case.specs.inside.SmallRefusals.{limit, case_small}
use Rattle.plan.specs.inside.Preconditions.{AcceptedCase}
use Rattle.plan.specs.inside.CaseSizes.{counted}
use Rattle.plan.specs.inside.AnsweredSizes.{arcs_yes, stations_yes, balances_yes, choices_kept, pipe_small, node_small}
use Rattle.plan.specs.law.PlanLayout.{step_rows}
use Rattle.plan.specs.law.BeforeStep.{pressure_at, active_at, direction_chosen, state_chosen}
use Rattle.plan.specs.law.PlanHead.{head_question}
use Rattle.plan.specs.law.Step.{step_questions}
use Rattle.plan.specs.law.Balance.{node_residual}
use Rattle.plan.specs.law.Totals.{step_switching, step_residual, pipe_part, pipe_residuals, node_residuals, totals_to, totals_of}
use Rattle.plan.specs.law.Judged.{plan_step, plan_questions, questions, verdict_told, judge_of, Verdict}
use Rattle.plan.specs.law.JudgedBytes.{read_answer, plan_number, on_plan_bytes, refused_or, bytes_judged}
use Rattle.plan.specs.inside.SmallRefusals.{judge_small}
use Rattle.plan.specs.inside.StepSizes.{choice_costs_le, activity_costs_le}
use Rattle.plan.specs.law.Ledger.{Ledger}

-- the counts of a verdict are below b, and a refusal's number is not 0
abbrev pub Fit : ℕ → Verdict → Type 0
Fit b (Ok t) = (t.switching < b) × (t.residual < b)
Fit b (Err n) = (n.number < b) × (n.step < b) × (n.place < b) × (1 ≤ n.number)

module _ (case plan : List ℤ) (y : first_no (questions case plan) ≡ Ok tt) where
  pub accepted : AcceptedCase case
  unfolding questions
  accepted = record { yes = first_yes (case_questions case) (plan_questions case plan) y }

  step_yes : (i : ℕ) → i < steps_of case → first_no (step_questions case (pressure_at case plan i) (step_rows case plan i) i) ≡ Ok tt
  unfolding questions plan_questions plan_step
  step_yes i l =
      let p = second_yes (case_questions case) (plan_questions case plan) y in
      item_yes (plan_step case plan) (steps_of case) (second_yes (head_question case plan ∷ []) (over (plan_step case plan) 0 (steps_of case)) p) i l

  switching_small : (totals_of case plan).switching ≤ 48 * most_switching
  unfolding totals_of totals_to step_switching
  switching_small =
      let b = sum_n_bound (steps_of case) most_switching (step_switching case plan) (λ i l.
      let rows = step_rows case plan i in
      let k = choices_kept case rows i (stations_yes case (pressure_at case plan i) rows i (step_yes i l)) in
      let c = choice_costs_le rows accepted k (direction_chosen case plan i) (state_chosen case plan i) in
      omega (arith, c, activity_costs_le rows accepted (active_at case plan i))) in
      omega (arith, b, (counted accepted).steps)

  residual_small : (totals_of case plan).residual ≤ 48 * most_residual
  unfolding totals_of totals_to step_residual pipe_residuals node_residuals
  residual_small =
      let b = sum_n_bound (steps_of case) most_residual (step_residual case plan) (λ i l.
      let old = pressure_at case plan i in
      let rows = step_rows case plan i in
      let p = sum_n_bound (arcs_of case) 1000000 (pipe_part case old rows i) (pipe_small case old rows i accepted (arcs_yes case old rows i (step_yes i l))) in
      let n = sum_n_bound (nodes_of case) 1000000 (node_residual case rows i) (node_small case rows i accepted (balances_yes case old rows i (step_yes i l))) in
      omega (arith, p, n, (counted accepted).arcs, (counted accepted).nodes)) in
      omega (arith, b, (counted accepted).steps)

-- ---- the verdict on two lists

unfoldable pub values : Told → ℕ
values t = length t.values

unfoldable pub at : Told → ℕ → ℕ
at t i = nat_abs (get_or t.values i (pos 0))

pub refused_same : {n s p m t q : ℕ} → refuses n s p ≡ refuses m t q → (n ≡ m) × (s ≡ t) × (p ≡ q)
unfolding at
refused_same e = (ap (λ (x : Told). x.number) e, ap (λ (x : Told). at x 0) e, ap (λ (x : Told). at x 1) e)

module _ (case plan : List ℤ) where
  pub judge_fits : (v : Verdict) → verdict_told v ≡ judge_of case plan → Fit (2 ^ 63) v
  unfolding judge_of values at
  judge_fits v e = go (first_no (questions case plan)) refl (judge_small case plan) v e
    where
      go : (a : Answer) → first_no (questions case plan) ≡ a → Small limit a → (v : Verdict)
          → verdict_told v ≡ verdict_told (found a (totals_of case plan)) → Fit (2 ^ 63) v
      go (Ok tt) y s (Ok t) e =
          (omega (arith, ap (λ (x : Told). at x 2) e, switching_small case plan y), omega (arith, ap (λ (x : Told). at x 3) e, residual_small case plan y))
      go (Ok _) y s (Err m) e = let f : ⊥ = omega (arith, ap values e) in absurd f
      go (Err n) y s (Ok t) e = let f : ⊥ = omega (arith, ap values e) in absurd f
      go (Err n) y s (Err m) e = let k = refused_same e in (omega arith, omega arith, omega arith, omega arith)

-- ---- the verdict on two byte strings

fit_refused : (v : Verdict) {n s p : ℕ} → verdict_told v ≡ refuses n s p → n < 2 ^ 63 → s < 2 ^ 63 → p < 2 ^ 63 → 1 ≤ n → Fit (2 ^ 63) v
unfolding values
fit_refused (Ok t) e h k l w = let f : ⊥ = omega (arith, ap values e) in absurd f
fit_refused (Err m) e h k l w = let r = refused_same e in (omega arith, omega arith, omega arith, omega arith)

pub unread_small : (bytes : List ℕ) (room : ℕ) {n p : ℕ} → (read_of bytes room).ended ≡ no n p → (n ≤ 3) × (p ≤ length bytes) × (1 ≤ n)
unfolding read_told
unread_small bytes room {n} {p} e = refusal_within bytes room n p (rw e)

pub plan_number_small : (n : ℕ) → (plan_number n ≤ 7) × (5 ≤ plan_number n)
plan_number_small n = go (eqb n 1) (eqb n 2)
  where
    go : (a b : Bool) → (cond a 5 (cond b 6 7) ≤ 7) × (5 ≤ cond a 5 (cond b 6 7))
    go true b = (omega arith, omega arith)
    go false true = (omega arith, omega arith)
    go false false = (omega arith, omega arith)

-- a refusal that is small, or what is told next
refused_or_fit : (v : Verdict) (a : Answer) {next : Told} → Between 1 (2 ^ 63) a → (verdict_told v ≡ next → Fit (2 ^ 63) v)
    → verdict_told v ≡ refused_or a next → Fit (2 ^ 63) v
refused_or_fit v (Ok _) s h e = h e
refused_or_fit v (Err n) s h e = fit_refused v e s.0 s.1 s.2 s.3

case_fit : (case : List ℤ) → Between 1 (2 ^ 63) (first_no (case_questions case))
case_fit case = go (first_no (case_questions case)) (case_small case)
  where
    go : (a : Answer) → Small limit a → Between 1 (2 ^ 63) a
    go (Ok _) s = s
    go (Err n) s = (omega (arith, s.0), omega (arith, s.1), omega (arith, s.2), omega (arith, s.3))

module _ (bytes : List ℕ) (room b : ℕ) (short : length bytes < b) (seven : 7 < b) where
  pub read_fit : Between 1 b (read_answer (read_of bytes room).ended)
  read_fit = go (read_of bytes room).ended refl
    where
      go : (d : Ending) → (read_of bytes room).ended ≡ d → Between 1 b (read_answer d)
      go all h = tt
      go (no n p) h = let w = unread_small bytes room h in (omega (arith, w.0), omega arith, omega (arith, w.1), w.2)

  pub plan_read_fit : Between 1 b (on_plan_bytes (read_answer (read_of bytes room).ended))
  plan_read_fit = go (read_answer (read_of bytes room).ended) read_fit
    where
      go : (a : Answer) → Between 1 b a → Between 1 b (on_plan_bytes a)
      go (Ok _) s = s
      go (Err n) s = let w = plan_number_small n.number in (omega (arith, w.0), s.1, s.2, omega (arith, w.1))

pub bytes_fit : (case_bytes plan_bytes : List ℕ) (case_list plan_list : List ℤ) → length case_bytes < 2 ^ 63 → length plan_bytes < 2 ^ 63 → (v : Verdict)
    → verdict_told v ≡ (bytes_judged case_bytes plan_bytes case_list plan_list).told → Fit (2 ^ 63) v
unfolding bytes_judged
bytes_fit case_bytes plan_bytes case_list plan_list small short v e =
    let case = (read_of case_bytes (length case_list)).stored in
    let plan = (read_of plan_bytes (length plan_list)).stored in
    refused_or_fit v (read_answer (read_of case_bytes (length case_list)).ended) (read_fit case_bytes (length case_list) (2 ^ 63) small (omega arith))
    (refused_or_fit v (first_no (case_questions case)) (case_fit case)
    (refused_or_fit v (on_plan_bytes (read_answer (read_of plan_bytes (length plan_list)).ended))
    (plan_read_fit plan_bytes (length plan_list) (2 ^ 63) short (omega arith)) (judge_fits case plan v)))
    e

-- ---- the ledger: that its numbers fit is proofs/LedgerSizes.antt's

abbrev pub FitLedger : ℕ → Ledger → Type 0
FitLedger b (Ok f) = (f.nodes < b) × (f.pipes < b) × (f.residual < b)
FitLedger b (Err n) = (n.number < b) × (n.step < b) × (n.place < b)
