-- The line is long enough and the files are not too long: what is put at the front of the line is its overlay.
use Rattle.std.proofs.Common.{sym, ◌∙◌, le-leb}
use Rattle.line.specs.law.Files.{files_line}
use Rattle.line.specs.inside.Put.{put_overlay}
use Rattle.line.proofs.files.line_of.Goals as goal

pub returns-then-within-clause-line_after : goal.returns-then-within-clause-line_after
unfolding files_line
returns-then-within-clause-line_after c =
    rw (le-leb _ _ c.if-line-lt-LINE_BYTES.false, sym c.within.ensures ∙ c.if-within.true) (put_overlay c.judged.ensures).1
