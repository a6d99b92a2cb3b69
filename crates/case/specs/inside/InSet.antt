-- A node that is in two sets.
-- Assumes nothing.
use Rattle.std.specs.Prelude.{ℕ, ℤ, Bool, ◌&&◌}
use Rattle.numbers.specs.law.Sets.{member_of}

-- is the node in both sets? With a station's nodes and the nodes that end an arc of kind 0 to 2 this is `fence_node`.
unfoldable pub in_both : ℤ → ℤ → ℕ → Bool
in_both inside plain v = member_of inside v && member_of plain v
