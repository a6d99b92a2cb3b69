-- The text over the front of the line, and past it the line as it was.
use Rattle.std.proofs.Common.{refl}
use Rattle.std.proofs.Math.Seq.{take-length}
use Rattle.line.specs.inside.Put.{put_front}
use Rattle.line.proofs.text.copy.Goals as goal

pub returns : goal.returns
returns c = put_front c.args.text.now c.args.line.now c.requires refl (rw (c.copy_from_slice.ensures.after, take-length c.args.text.now) refl)
