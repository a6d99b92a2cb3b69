-- The sender's mass is added where the two agree (`pair_agreed`), and else the smaller, which fits as either does (`pair_cut`, `smaller_grams`).
use Rattle.std.proofs.Common.{rules, ◌≡◌, ◌∙◌, sym, true, false, to_z-of_z, w64, to_z, of_z, ◌+ℤ◌}
use Rattle.settlement.specs.law.Settled.{agrees}
use Rattle.settlement.specs.inside.Adding.{pair_agreed, pair_cut}
use Rattle.settlement.proofs.merge.Growing.with_pair.Goals as goal

pub returns-then-agrees : goal.returns-then-agrees
returns-then-agrees c =
    let p = c.args in
    let f = p.self.sums in
    let a : agrees p.agreed p.s.grams p.r.grams ≡ true = sym (simp (to_z-of_z c.ranges.agreed) at c.agrees.ensures) ∙ c.if-agrees.true in
    let t : to_z w64 (of_z w64 (to_z w64 (of_z w64 f.total) +ℤ to_z w64 (of_z w64 p.s.grams))) ≡ f.total +ℤ p.s.grams = search rules in
    rw t (sym (pair_agreed f p.agreed p.s.grams p.r.grams a))

pub returns-else-agrees : goal.returns-else-agrees
returns-else-agrees c =
    let p = c.args in
    let f = p.self.sums in
    let a : agrees p.agreed p.s.grams p.r.grams ≡ false = sym (simp (to_z-of_z c.ranges.agreed) at c.agrees.ensures) ∙ c.if-agrees.false in
    let t : to_z w64 (of_z w64 (to_z w64 (of_z w64 f.total) +ℤ to_z w64 (of_z w64 c.smaller.result))) ≡ f.total +ℤ c.smaller.result = search rules in
    rw (t, c.smaller.ensures) (sym (pair_cut f p.agreed p.s.grams p.r.grams a))
