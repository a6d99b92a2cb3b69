-- The length by the layout is that of the law; the counts of an accepted case keep all small.
use Rattle.std.proofs.Common.{ap, ◌∙◌, length, nat_eq}
use Rattle.plan.specs.inside.VerdictLaws.{head_length, head_yes}
use Rattle.plan.proofs.accepted.Accepted.head_kept.Goals as goal

pub returns-then-head_numbers : goal.returns-then-head_numbers
returns-then-head_numbers c =
    let s = c.args.self.now in
    let n = head_length s.list.now c.args.plan.now s.laid.steps c.step_width.ensures in
    ap (nat_eq (length c.args.plan.now)) n ∙ head_yes _ _ (rw s.laid.steps at c.head_numbers.ensures) c.if-head_numbers.true
