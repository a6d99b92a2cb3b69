-- The rows keep both questions where both tests are passed at each (`all_kept`).
use borrow.Author.Tests.{tests}
use Rattle.std.proofs.Common.{rules, ◌≡◌, refl, ◌∙◌, arith, ℕ}
use Rattle.std.proofs.Math.Bool.{Bool}
use Rattle.std.proofs.lemmas.Iterator.{YieldsList-from_range}
use Rattle.std.proofs.lemmas.Iterator.Search.{all_from_yields_List}
use Rattle.std.specs.Prelude.{◌&&◌}
use Rattle.std.specs.List.{list_all, range_with_len}
use Rattle.settlement.specs.law.Records.{rows_of, grams_of}
use Rattle.settlement.specs.law.RecordRules.{in_grams, rises, time_question, time_questions, mass_question, mass_questions}
use Rattle.settlement.specs.inside.Asked.{all_kept}
use Rattle.settlement.proofs.rules.rows_kept.Goals as goal

pub returns : goal.returns
unfolding time_questions mass_questions time_question mass_question
returns c =
    let m = c.args.meter.now in
    let n = rows_of m in
    let test : ℕ → Bool = λ i. rises m i && in_grams (grams_of m i) in
    let k : c.all.result ≡ list_all test (range_with_len 0 n) =
    all_from_yields_List test _ _ c.all.result c.all.ensures.ran (YieldsList-from_range 0 _ n refl (omega arith)) (λ x b q k. search (rules, tests)) in
    k ∙ all_kept (rises m) (λ i. in_grams (grams_of m i)) 61 62 0 n
