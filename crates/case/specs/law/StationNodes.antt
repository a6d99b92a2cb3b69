-- "A station's nodes are the ends of its artificial arcs. Its fence nodes are those that also end an arc of kind 0 to 2."
-- Assumes nothing.
use Rattle.std.specs.Prelude.{Bool, cond, ◌&&◌, List, ℕ, zero, suc, ◌^◌, ltb, leb, ℤ, pos}
use Rattle.std.specs.Int.Bits.{bit_or}
use Rattle.numbers.specs.law.Sets.{member_of}
use Rattle.case.specs.law.Extents.{set_room}
use Rattle.case.specs.law.Layout.{arcs_of}
use Rattle.case.specs.law.Records.{arc_of}
use Rattle.case.specs.law.StationArcs.{belongs}

-- a node set with the node v in it. A node set has room for as many nodes as a case may have.
unfoldable pub with_node : ℕ → ℕ → ℕ
with_node set v = cond (ltb v set_room) (bit_or set (2 ^ v)) set

-- a node set with both ends of arc e in it
abbrev pub with_ends : List ℤ → ℕ → ℕ → ℕ
with_ends case set e = with_node (with_node set (arc_of case e).from) (arc_of case e).to

-- the set of the ends of those of the first n arcs that w names
unfoldable pub ends_of : List ℤ → (ℕ → Bool) → ℕ → ℕ
ends_of case w zero = 0
ends_of case w (suc e) = cond (w e) (with_ends case (ends_of case w e) e) (ends_of case w e)

unfoldable pub station_nodes : List ℤ → ℕ → ℤ
station_nodes case s = pos (ends_of case (belongs case s) (arcs_of case))

-- is arc e of kind 0 to 2?
abbrev pub plain : List ℤ → ℕ → Bool
plain case e = leb (arc_of case e).kind 2

-- the nodes that end an arc of kind 0 to 2
unfoldable pub plain_nodes : List ℤ → ℤ
plain_nodes case = pos (ends_of case (plain case) (arcs_of case))

-- is v a fence node of the station?
abbrev pub fence_node : List ℤ → ℕ → ℕ → Bool
fence_node case s v = member_of (station_nodes case s) v && member_of (plain_nodes case) v
