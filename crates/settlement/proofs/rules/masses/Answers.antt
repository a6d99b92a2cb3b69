-- The test of a row is whether its mass is in its range.
use Rattle.std.proofs.Common.{rules}
use Rattle.settlement.specs.law.Records.{grams_of}
use Rattle.settlement.specs.law.RecordRules.{in_grams, mass_question, mass_questions}
use Rattle.settlement.proofs.rules.masses.Goals as goal

pub returns : goal.returns
unfolding mass_questions mass_question
returns c = c.each_row.ensures (λ i. in_grams (grams_of c.args.meter.now i)) (λ i l b h. search rules)
