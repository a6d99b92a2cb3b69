-- Counts and sets that are gathered arc by arc, and that a set of at most 30 arcs fits in a signed number.
-- Assumes nothing.
use Rattle.std.specs.Prelude.{Bool, List, ℕ, ℤ, ◌<◌, ◌≤◌, ◌^◌}
use Rattle.std.proofs.Common.{arith}
use Rattle.std.proofs.Math.Pow.{pow_mono}
use Rattle.case.specs.law.StationArcs.{arcs_before, arc_set}
use Rattle.case.specs.inside.CountLaws.{before_none, before_yes, before_no, before_mono}
use Rattle.case.specs.inside.CountLaws.{arcs_none, arcs_yes, arcs_no, arcs_lt, node_lt, ends_none, ends_yes, ends_no}

pub few_arcs : (l : List ℤ) (s : ℕ) (w : ℕ → Bool) (e : ℕ) → arcs_before l s e ≤ 30 → arc_set l s w e < 2 ^ 30
few_arcs l s w e h = let p : 2 ^ arcs_before l s e ≤ 2 ^ 30 = pow_mono h in omega (arith, arcs_lt l s w e)

-- the ends of arcs, and the station's arcs that are in a set
pub ruleset ends = (ends_none, ends_yes, ends_no, node_lt)

pub ruleset own_arcs = (before_none, before_yes, before_no, before_mono, arcs_none, arcs_yes, arcs_no, arcs_lt, few_arcs)
