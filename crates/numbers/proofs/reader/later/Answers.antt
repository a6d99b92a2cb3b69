-- A byte more is gathered at the scale, which is at most 2^56 before it and 128 times as large after it.
use Rattle.std.proofs.Common.{◌≡◌, ◌<◌, ◌≤◌, ◌+◌, ◌*◌, ◌-◌, ◌^◌, ℕ, arith, subst}
use Rattle.numbers.proofs.Gathered.{product_small, scale_most, gather_on}
use Rattle.numbers.proofs.reader.later.Goals as goal

next_at : (a k : ℕ) → a + (k + 1) ≡ a + k + 1
next_at a k = omega arith

-- the group of a byte that is not the last
group_small : (c : goal.Else-b-lt128) → c.loop-k.scale * (c.from-b.result - 128) ≤ 2 ^ 56 * 127
group_small c =
    let i = c.type_inv.bytes (c.args.start + c.loop-k.k) in
    let g : c.from-b.result - 128 < 128 = omega (arith, c.from-b.ensures, i.fits) in
    product_small g (omega (arith, scale_most _ c.loop-k.invariant (omega arith)))

pub last-requires : goal.last-requires
last-requires c =
    let g = c.loop-k.invariant in
    (c.if-b-lt128.true, g.below, omega (arith, scale_most _ g (omega arith)), omega arith)

pub overflow_mul-value : goal.overflow_mul-value
overflow_mul-value c = record { fits = omega (arith, group_small c) }

pub overflow_add-value : goal.overflow_add-value
overflow_add-value c =
    let g = c.loop-k.invariant in
    record { fits = omega (arith, group_small c, g.below, scale_most _ g (omega arith)) }

pub overflow_mul-scale : goal.overflow_mul-scale
overflow_mul-scale c = record { fits = omega (arith, scale_most _ c.loop-k.invariant (omega arith)) }

pub loop-k-preserved : goal.loop-k-preserved
loop-k-preserved c =
    let i = c.type_inv.bytes (c.args.start + c.loop-k.k) in
    let b = c.from-b.ensures in
    let e : 8 - (c.loop-k.k + 1) ≡ 8 - c.loop-k.k - 1 = omega arith in
    rw (e, next_at c.args.start c.loop-k.k, b)
    (gather_on _ c.loop-k.invariant (omega arith) (omega arith) (subst (λ (n : ℕ). 128 ≤ n) b c.if-b-lt128.false) (omega (arith, i.fits)))
