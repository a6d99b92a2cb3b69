-- The time and the imbalance are read as they are, and bounds on both keep their product in range.
use Rattle.plan.specs.inside.SumSizes.{most_net}
use Rattle.plan.proofs.Common.{◌≡◌, ap, ap₂, ◌∙◌, ℕ, ◌+◌, ◌*◌, ◌<◌, ◌≤◌, arith, ℤ, nat_abs, ◌-ℤ◌, w64, to_z, of_z, Held, held, held_fits}
use Rattle.case.specs.law.Layout.{nodes_of}
use Rattle.plan.specs.declared.step.Passed.{Passed}
use Rattle.plan.specs.declared.rows.NodeRow.{NodeRow}
use Rattle.plan.specs.law.PlanRecords.{node_row}
use native.Mathlib.Nat.{mul-le-mul}
use mir.Facts.{Fits-le, Fits-lit}
use Rattle.plan.specs.law.Balance.{net_flow, node_imbalance, node_residual}
use Rattle.plan.specs.inside.CaseSizes.{duration_sized}
use Rattle.plan.proofs.NodeParts.{left_is}
use Rattle.plan.proofs.SignedReads.{read, read_bounded}
use Rattle.plan.proofs.step.Passed.node_residual.Goals as goal

left : (p : Passed) {v : ℕ} {net : ℤ} {r : NodeRow} → (v < nodes_of p.step.case.list.now) × (net ≡ net_flow p.step.case.list.now p.step.rows.now v)
    → r ≡ node_row p.step.rows.now v
    → Held (to_z w64 (of_z w64 net) -ℤ to_z w64 (of_z w64 r.d)) (node_imbalance p.step.case.list.now p.step.rows.now v) (most_net + 10000000)
left p q e = left_is p.step.case.yes p.flows p.node_rows q.0 q.1 e

pub overflow_sub-net : goal.overflow_sub-net
overflow_sub-net c = held_fits (left c.args.self.now c.requires c.node_row.ensures) tt

pub size-requires-2 : goal.size-requires-2
size-requires-2 c = omega (arith, (read_bounded (held (left c.args.self.now c.requires c.node_row.ensures) tt)).bound)

pub overflow_mul-result : goal.overflow_mul-result
overflow_mul-result c =
    let t = read c.duration.ensures (duration_sized c.args.self.now.step.case.yes c.args.self.now.step.i c.args.self.now.step.step) tt in
    let z = left c.args.self.now c.requires c.node_row.ensures in
    let a : c.size.result ≤ 86400 = omega (arith, c.size.ensures ∙ ap nat_abs t.val, t.bound) in
    let b : c.size-2.result ≤ (most_net + 10000000) = omega (arith, c.size-2.ensures ∙ ap nat_abs (held z tt).val, z.bound) in
    Fits-le (mul-le-mul a b) (Fits-lit {n = 86400 * (most_net + 10000000)} tt)

pub returns : goal.returns
unfolding node_residual
returns c =
    let t = read c.duration.ensures (duration_sized c.args.self.now.step.case.yes c.args.self.now.step.i c.args.self.now.step.step) tt in
    let z = held (left c.args.self.now c.requires c.node_row.ensures) tt in
    ap₂ ◌*◌ (c.size.ensures ∙ ap nat_abs t.val) (c.size-2.ensures ∙ ap nat_abs z.val)
