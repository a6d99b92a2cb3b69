-- The rows of the nodes so far have no "no", and `offset` is where the next one begins.
use Rattle.case.proofs.Common.{◌≡◌, ◌≤◌, ◌+◌, first_no}
use Prim.Native.Nat.{◌*◌}
use Rattle.numbers.specs.law.Items.{over}
use Rattle.numbers.specs.inside.ItemLaws.{rest}
use Rattle.case.specs.law.Layout.{node_at}
use Rattle.case.specs.law.NodeFields.{node_fields}
use Rattle.case.proofs.nodes.node_rows.Given as goal

abbrev pub invariant-loop : goal.invariant-loop
invariant-loop l = record {
  asked : first_no (over (node_fields l.case) 0 l.nodes) ≡ rest (node_fields l.case) l.counter l.nodes;
  place : l.offset ≡ node_at l.case l.counter;
}
