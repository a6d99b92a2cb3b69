-- One term follows the code's product and sum, and says both that they fit and what they are.
use Rattle.plan.proofs.Common.{◌≡◌, refl, sym, ap, ◌∙◌, ℕ, ◌<◌, ℤ, ◌+ℤ◌, w64, to_z, of_z, Held, held, held_fits, ◌+ʳ◌, ◌*ʳ◌, eq-eqb}
use mathlib.Core.List.{List}
use lib.IntN.{◌*ℤ◌}
use Rattle.case.specs.declared.records.Arc.{Arc}
use Rattle.case.specs.declared.records.Pipe.{Pipe}
use Rattle.case.specs.law.Layout.{nodes_of, arcs_of}
use Rattle.case.specs.law.Records.{arc_of, pipe_of}
use Rattle.plan.specs.inside.CaseSizes.{from_node, to_node, pipe_sized}
use Rattle.plan.specs.inside.Sizes.{PressuresSized}
use Rattle.plan.specs.inside.Preconditions.{AcceptedCase}
use Rattle.plan.specs.law.Totals.{gas_part}
use Rattle.plan.proofs.Adding.{taken_part}
use Rattle.plan.proofs.SignedReads.{read}
use Rattle.plan.proofs.step.Pressures.pipe_gas.Goals as goal

module _ {case : List ℤ} {q : ℕ → ℤ} {e : ℕ} (y : AcceptedCase case) (l : e < arcs_of case) (h : PressuresSized q (nodes_of case))
    {c : Arc} (a : c ≡ arc_of case e) where
  -- the pressures at both ends, added
  ends : {x y : ℤ} → x ≡ q c.from → y ≡ q c.to
      → Held (to_z w64 (of_z w64 x) +ℤ to_z w64 (of_z w64 y)) (q (arc_of case e).from +ℤ q (arc_of case e).to) 400000
  ends i j =
      read (i ∙ ap (λ (z : Arc). q z.from) a) (h.each _ (from_node y e l)) tt
      +ʳ read (j ∙ ap (λ (z : Arc). q z.to) a) (h.each _ (to_node y e l)) tt

  -- and the gas of the pipe
  gas : c.kind ≡ 2 → {p : Pipe} → p ≡ pipe_of case e → {x y : ℤ} → x ≡ q c.from → y ≡ q c.to
      → Held (to_z w64 (of_z w64 p.c) *ℤ to_z w64 (of_z w64 (to_z w64 (of_z w64 x) +ℤ to_z w64 (of_z w64 y))))
      ((pipe_of case e).c *ℤ (q (arc_of case e).from +ℤ q (arc_of case e).to)) 40000000000000
  gas k r i j =
      read (ap (λ (z : Pipe). z.c) r) (pipe_sized y e l (sym (ap (λ (z : Arc). z.kind) a) ∙ k)).c tt *ʳ held (ends i j) tt

pub overflow_add-result : goal.overflow_add-result
overflow_add-result c = held_fits (ends c.args.self.now.case.yes c.requires c.args.self.now.sized c.arc-c.ensures c.at.ensures c.at-then-c-eq2.ensures) tt

pub overflow_mul-result : goal.overflow_mul-result
overflow_mul-result c =
    let s = c.args.self.now in
    held_fits (gas s.case.yes c.requires s.sized c.arc-c.ensures c.if-c-eq2.true c.pipe.ensures c.at.ensures c.at-then-c-eq2.ensures) tt

pub returns-then-c-eq2 : goal.returns-then-c-eq2
unfolding gas_part
returns-then-c-eq2 c =
    let s = c.args.self.now in
    (held (gas s.case.yes c.requires s.sized c.arc-c.ensures c.if-c-eq2.true c.pipe.ensures c.at.ensures c.at-then-c-eq2.ensures) tt).val
    ∙ taken_part _ refl (eq-eqb _ 2 (sym (ap (λ (x : Arc). x.kind) c.arc-c.ensures) ∙ c.if-c-eq2.true))
