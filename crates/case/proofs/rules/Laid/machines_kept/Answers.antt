-- All of the range of the arcs is every arc.
use Rattle.std.proofs.Common.{rules, tests}
use Rattle.case.specs.law.States.{machines_kept}
use Rattle.case.proofs.Chains.{every_from_all}
use Rattle.case.proofs.rules.Laid.machines_kept.Goals as goal

pub returns : goal.returns
unfolding machines_kept
returns c =
    let a = c.args in
    let l = a.self.now in
    rw l.laid.arcs at
    (every_from_all (machines_kept l.case.now a.s a.own) l.layout.arcs _ _ c.all.result c.all.ensures.ran (λ x b q k. search (rules, tests)))
