-- A node of which 32 does not hold.
use Rattle.plan.proofs.Common.{◌≡◌, ◌<◌, sym, false, arith}
use Rattle.std.proofs.lemmas.Grind.{common_steps}
use Rattle.case.specs.inside.CountLaws.{every_not}
use Rattle.case.specs.law.Layout.{nodes_of}
use Rattle.plan.specs.law.PlanRecords.{direction_in}
use Rattle.plan.specs.law.StationRules.{fence_kept, fence_flows_kept}
use Rattle.plan.proofs.Asked.{questions}
use Rattle.plan.proofs.StationParts.{fence_laws}
use Rattle.plan.proofs.step.Passed.fence_flows_kept.Goals as goal

pub returns-then-not-fence_kept : goal.returns-then-not-fence_kept
unfolding fence_flows_kept
returns-then-not-fence_kept c =
    let t = c.args.self.now.step in
    let case = t.case.list.now in
    let l : c.loop-v.v < nodes_of case = omega (arith, t.case.laid.nodes) in
    let no : fence_kept case t.rows.now c.args.s (direction_in case t.rows.now c.args.s) c.loop-v.v ≡ false =
    grind (arith, questions, fence_laws, common_steps) in
    sym (every_not _ _ c.loop-v.v l no)
