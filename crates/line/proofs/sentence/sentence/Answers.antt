-- The word, the numbers and the end of the line, one after the other.
use Rattle.std.proofs.Common.{rules}
use Rattle.line.specs.law.Line.{sentence_of}
use Rattle.line.specs.inside.Put.{put_both, put_one}
use Rattle.line.proofs.sentence.sentence.Goals as goal

pub returns : goal.returns
unfolding sentence_of
returns c = put_both c.copy-start.ensures (put_both c.values-end.ensures.put (put_one _ _ 10 (search rules)))
