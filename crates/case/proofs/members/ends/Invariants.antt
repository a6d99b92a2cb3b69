-- The set holds the ends of the named arcs so far, whatever says which arcs are named, and only nodes that a set has room for.
use Rattle.std.proofs.Common.{◌≡◌, ◌<◌, ◌^◌, Bool, ℕ}
use Rattle.case.specs.law.Extents.{set_room}
use Rattle.case.specs.law.StationNodes.{ends_of}
use Rattle.case.proofs.members.ends.Given as goal

abbrev pub invariant-loop-e : goal.invariant-loop-e
invariant-loop-e g l = record {
  gathered : (w : ℕ → Bool) → ((e : ℕ) (b : Bool) → goal.F-post g l.named e b → b ≡ w e) → l.nodes ≡ ends_of l.case w l.e;
  room : l.nodes < 2 ^ set_room;
}
