-- The earliest row, or the pair of rows, is settled as the look-up has it (`sender_settled`, `receiver_settled`, `both_settled`).
use Rattle.std.proofs.Common.{rules, ◌≡◌, ◌∙◌, sym, w64, to_z, of_z}
use Rattle.settlement.specs.inside.MergingLaws.{both_settled, sender_settled, receiver_settled}
use Rattle.settlement.proofs.merge.Records.advance.Goals as goal

pub returns-then-earliest-clause-merging : goal.returns-then-earliest-clause-merging
returns-then-earliest-clause-merging c =
    let e = sym c.earliest.ensures ∙ c.if-earliest.true in
    let f = simp c.mass_of.ensures at c.with_row.ensures in
    rw c.passed.ensures (sender_settled c.args.self.kept c.requires.0 e c.with_row.result f)

pub returns-then-earliest-2-clause-merging : goal.returns-then-earliest-2-clause-merging
returns-then-earliest-2-clause-merging c =
    let e = sym c.earliest-else-earliest.ensures ∙ c.if-earliest-2.true in
    let f = simp c.mass_of-then-earliest-2.ensures at c.with_row-then-earliest-2.ensures in
    rw c.passed-then-earliest-2.ensures (receiver_settled c.args.self.kept c.requires.0 e c.with_row-then-earliest-2.result f)

pub returns-else-earliest-2-clause-merging : goal.returns-else-earliest-2-clause-merging
returns-else-earliest-2-clause-merging c =
    let p = c.args.self in
    let s = sym c.earliest.ensures ∙ c.if-earliest.false in
    let r = sym c.earliest-else-earliest.ensures ∙ c.if-earliest-2.false in
    let a : to_z w64 (of_z w64 p.agreed) ≡ p.agreed = search rules in
    let f = simp (c.mass_of-s.ensures, c.mass_of-r.ensures, a) at c.with_pair-g.ensures in
    rw c.passed-else-earliest-2.ensures (both_settled p.kept c.requires.0 c.requires.1 s r c.with_pair-g.result f)
