-- What an answer is computed with: the definitions of the law, so that a proof by computation opens them under one name.
-- Assumes nothing.
use Rattle.numbers.specs.law.Sums.{sum, sum_n, count}
use Rattle.settlement.specs.law.RecordRules.{whole_rows, records_question, rises, time_question, time_questions}
use Rattle.settlement.specs.law.RecordRules.{mass_question, mass_questions, settle_questions}
use Rattle.settlement.specs.law.LookUp.{look_up_in, look_up}
use Rattle.settlement.specs.law.Settled.{agrees, settled_pair, opposite, standing_at, agreed_at, cut_at, alone_at, alone_grams, settled_total, settled_figures}
use Rattle.settlement.specs.law.Settling.{settle_of}

unfoldable pub law : Unit {0}
unfolding sum sum_n count whole_rows records_question rises time_question time_questions mass_question mass_questions settle_questions look_up_in look_up
    agrees settled_pair opposite standing_at agreed_at cut_at alone_at alone_grams settled_total settled_figures settle_of
law = tt
