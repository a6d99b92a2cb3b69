-- The times before i have no "no", so that each step has added at most a day to the time before.
use Rattle.case.proofs.Common.{◌≡◌, first_no}
use Prim.Native.Nat.{◌*◌}
use Rattle.numbers.specs.law.Items.{over}
use Rattle.numbers.specs.inside.ItemLaws.{rest}
use Rattle.numbers.specs.inside.SignedBounds.{Bounded}
use Rattle.case.specs.law.Records.{time_before}
use Rattle.case.specs.law.TimeFields.{time_field}
use Rattle.case.proofs.head.times.Given as goal

abbrev pub invariant-loop-i : goal.invariant-loop-i
invariant-loop-i l = record {
  asked : first_no (over (time_field l.case) 0 l.steps) ≡ rest (time_field l.case) l.i l.steps;
  early : Bounded (time_before l.case l.i) (l.i * 86400);
}
