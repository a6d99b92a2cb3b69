-- Questions that are asked one after the other, group after group and item after item: the first "no" answers for all.
-- Assumes nothing.
use Rattle.std.proofs.Common.{to_z-of_z}
use Rattle.numbers.specs.inside.ItemLaws.{rest_turn, rest_done}
use Rattle.numbers.specs.inside.QuestionLaws.{first_no_append, or_else_yes}

-- what answers a function that asks with ?: the laws of groups and of items, and that a signed number is read back as it is
pub ruleset questions = (first_no_append, or_else_yes, rest_turn, rest_done, to_z-of_z)
