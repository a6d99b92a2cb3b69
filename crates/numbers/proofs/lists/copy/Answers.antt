-- Of the numbers those are copied that find room; the others would not be stored.
use Rattle.std.proofs.Common.{◌≡◌, refl, sym, ◌∙◌, arith, List, [], ◌∷◌, ℕ, zero, suc, ◌+◌, ◌-◌, ◌≤◌, min, length, take, set}
use Rattle.std.proofs.Common.{length-set, length-take-le}
use Rattle.std.proofs.Math.IntN.{ℤ}
use Rattle.std.proofs.lemmas.List.Edits.{sets, sets-eq}
use Rattle.std.proofs.Math.Seq.{take-length}
use Rattle.std.proofs.lemmas.Slice.{put_mid-paste}
use Rattle.numbers.specs.inside.Pieces.{stored_none}
use Rattle.numbers.proofs.lists.copy.Goals as goal

cut : (to from : List ℤ) (at n : ℕ) → min (at + length from) (length to) ≤ at + n → sets to at (take n from) ≡ sets to at from
cut to [] at zero h = refl
cut to [] at (suc n) h = refl
cut to (x ∷ from) at zero h = sym (stored_none to at (x ∷ from) (omega (arith, h)))
cut to (x ∷ from) at (suc n) h = cut (set to at x) from (suc at) n (omega (arith, h, length-set to at x))

pub returns-then-to-at-clause-to_after : goal.returns-then-to-at-clause-to_after
returns-then-to-at-clause-to_after c = sym (stored_none c.args.to.now c.args.at c.args.from.now (omega (arith, c.if-to-at.true)))

pub returns-clause-to_after : goal.returns-clause-to_after
returns-clause-to_after c =
    let to = c.args.to.now in
    let from = c.args.from.now in
    let at = c.args.at in
    let n = c.min-count.result in
    let k : at + n - at ≡ length (take n from) = omega (arith, length-take-le n from (omega arith)) in
    put_mid-paste at (at + n - at) to c.copy_from_slice.new.self (take n from) _ c.copy_from_slice.ensures.after refl k
    ∙ rw (k, take-length (take n from)) (sym (sets-eq (take n from) to at (omega (arith, k)))) ∙ cut to from at n (omega arith)
