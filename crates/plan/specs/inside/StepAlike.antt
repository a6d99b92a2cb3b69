-- What a step asks and adds goes by the pressures of nodes, the activities of arcs and the choices of stations alone.
use Rattle.std.specs.Prelude.{◌≡◌, refl, Bool, List, ◌++◌, ℕ, zero, suc, ◌+◌, ◌<◌, ℤ}
use Rattle.std.proofs.Common.{ap₂, arith}
use Rattle.numbers.specs.law.Question.{Question, first_no}
use Rattle.numbers.specs.law.Items.{over}
use Rattle.numbers.specs.inside.SumLaws.{sum_n_cong}
use Rattle.case.specs.law.Layout.{nodes_of, arcs_of, stations_of}
use Rattle.plan.specs.inside.Preconditions.{AcceptedCase}
use Rattle.plan.specs.inside.RegionSizes.{ends_nodes}
use Rattle.plan.specs.inside.RegionSame.{pipes_gas, pipe_same, part_same}
use Rattle.plan.specs.law.Pipes.{is_pipe, pipe_mass_kept}
use Rattle.plan.specs.law.ArcRules.{arc_questions, pipe_questions, all_arc_questions}
use Rattle.plan.specs.law.Step.{step_questions}
use Rattle.plan.specs.law.Totals.{pipe_residuals, gas_part, gas_at, choice_cost, choice_costs, activity_costs}

over_alike : (f g : ℕ → List Question) (i n : ℕ) → ((j : ℕ) → j < n → f (i + j) ≡ g (i + j)) → over f i n ≡ over g i n
over_alike f g i zero h = refl
over_alike f g i (suc n) h =
    let z : i + 0 ≡ i = omega arith in
    let a : f i ≡ g i = rw z at (h 0 (omega arith)) in
    ap₂ (λ (x y : List Question). x ++ y) a (over_alike f g (suc i) n (λ j l. let y : suc i + j ≡ i + suc j = omega arith in rw y (h (suc j) (omega arith))))

module _ {case : List ℤ} (c : AcceptedCase case) (p q : ℕ → ℤ) (same : (v : ℕ) → v < nodes_of case → p v ≡ q v) where
  pub gas_alike : gas_at case p ≡ gas_at case q
  unfolding gas_at gas_part
  gas_alike = pipes_gas case p q (ends_nodes c) same (is_pipe case)

  module _ (rows : List ℤ) (i : ℕ) where
    pub pipes_alike : pipe_residuals case p rows i ≡ pipe_residuals case q rows i
    unfolding pipe_residuals
    pipes_alike = sum_n_cong (arcs_of case) _ _ (part_same case p q (ends_nodes c) same rows i)

    arc_alike : (e : ℕ) → e < arcs_of case → arc_questions case p rows i e ≡ arc_questions case q rows i e
    unfolding arc_questions pipe_questions pipe_mass_kept
    arc_alike e l = rw (pipe_same case p q (ends_nodes c) same rows i e l)

    pub step_alike : first_no (step_questions case p rows i) ≡ first_no (step_questions case q rows i)
    unfolding step_questions all_arc_questions
    step_alike =
        rw (over_alike (arc_questions case p rows i) (arc_questions case q rows i) 0 (arcs_of case) (λ e l. arc_alike (0 + e) (omega (arith, l))))

module _ (case rows : List ℤ) where
  pub choices_alike : (f g z w : ℕ → ℕ) → ((s : ℕ) → s < stations_of case → f s ≡ g s) → ((s : ℕ) → s < stations_of case → z s ≡ w s)
      → choice_costs case f z rows ≡ choice_costs case g w rows
  unfolding choice_costs choice_cost
  choices_alike f g z w h k = sum_n_cong (stations_of case) _ _ (λ s l. rw (h s l, k s l))

  pub activities_alike : (a b : ℕ → Bool) → ((e : ℕ) → e < arcs_of case → a e ≡ b e) → activity_costs case a rows ≡ activity_costs case b rows
  unfolding activity_costs
  activities_alike a b h = sum_n_cong (arcs_of case) _ _ (λ e l. rw (h e l))
