-- The test of a station is whether its states' sets are kept.
use Rattle.std.proofs.Common.{rules}
use Rattle.case.specs.law.States.{station_kept, state_sets, all_state_sets}
use Rattle.case.proofs.rules.Laid.state_sets.Goals as goal

pub returns : goal.returns
unfolding state_sets all_state_sets
returns c =
    let l = c.args.self.now.case.now in
    rw c.args.self.now.laid.stations at (c.each.ensures (station_kept l) (λ i p b h. search rules))
