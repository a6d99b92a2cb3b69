-- A sum with a part more: what it is, that it fits, and what is read back of it; and a part that counts only where a test is true.
use Rattle.plan.proofs.Common.{◌≡◌, refl, sym, ap, ap₂, ◌∙◌, Bool, true, false, ℕ, ◌+◌, ◌*◌, ◌^◌, ◌<◌, ◌≤◌, arith, ℤ, pos, nat_abs, ◌+ℤ◌, w64, to_z, of_z}
use Rattle.plan.proofs.Common.{to_z-of_z, kept}
use native.Mathlib.Numerals.{add-one}
use lib.IntN.{+ℤ_idr}
use lib.Signed.{mag}
use mir.Val.{SFits}
use Rattle.numbers.specs.law.Signed.{pos_part}
use Rattle.numbers.specs.law.Sums.{sum, sum_n, only}
use Rattle.numbers.specs.inside.SignedBounds.{abs_add, mag≤}
use Rattle.case.specs.law.Extents.{arc_capacity}
use Rattle.plan.specs.inside.SumSizes.{most_part}

sum_more : (f : ℕ → ℤ) (i : ℕ) {a r : ℤ} → a ≡ sum i f → r ≡ f i → a +ℤ r ≡ sum (i + 1) f
unfolding sum
sum_more f i e d = rw (add-one i) (ap₂ ◌+ℤ◌ e d)

module _ (i : ℕ) (few : i < arc_capacity) (a r : ℤ) (sized : nat_abs a ≤ i * most_part) (part : nat_abs r ≤ most_part) where
  more_sized : nat_abs (a +ℤ r) ≤ (i + 1) * most_part
  more_sized = omega (arith, abs_add a r)

  read_back : to_z w64 (of_z w64 r) ≡ r
  read_back = to_z-of_z {w = w64} (record { sfits = omega (arith, part, mag≤ r) })

  pub more_fits : SFits w64 (a +ℤ to_z w64 (of_z w64 r))
  more_fits = record { sfits = rw read_back (omega (arith, few, more_sized, mag≤ (a +ℤ r))) }

  sum_back : to_z w64 (of_z w64 (a +ℤ to_z w64 (of_z w64 r))) ≡ a +ℤ r
  sum_back = to_z-of_z {w = w64} more_fits ∙ rw read_back

  pub back_sized : nat_abs (to_z w64 (of_z w64 (a +ℤ to_z w64 (of_z w64 r)))) ≤ (i + 1) * most_part
  back_sized = rw sum_back more_sized

  pub back_is : (f : ℕ → ℤ) → a ≡ sum i f → r ≡ f i → to_z w64 (of_z w64 (a +ℤ to_z w64 (of_z w64 r))) ≡ sum (i + 1) f
  back_is f e d = sum_back ∙ sum_more f i e d

-- a part that is nothing
pub sum_same : (f : ℕ → ℤ) (i : ℕ) {a : ℤ} → a ≡ sum i f → f i ≡ pos 0 → a ≡ sum (i + 1) f
unfolding sum
sum_same f i {a} e d = rw (add-one i) (sym (+ℤ_idr a) ∙ ap₂ ◌+ℤ◌ e (sym d))

-- a part that counts only where a test is true, by the code's answer to it
pub taken_part : (z : ℤ) {b w : Bool} → b ≡ w → b ≡ true → z ≡ only w z
taken_part z e t = ap (λ (y : Bool). only y z) (sym t ∙ e)

pub left_part : (z : ℤ) {b w : Bool} → b ≡ w → b ≡ false → only w z ≡ pos 0
left_part z e t = ap (λ (y : Bool). only y z) (sym e ∙ t)

-- ---- the same over ℕ

pub more_n : (f : ℕ → ℕ) (i : ℕ) {a r : ℕ} → a ≡ sum_n i f → r ≡ f i → a + r ≡ sum_n (i + 1) f
unfolding sum_n
more_n f i e d = rw (add-one i) (ap₂ ◌+◌ e d)

pub sum_n_none : (f : ℕ → ℕ) → sum_n 0 f ≡ 0
unfolding sum_n
sum_n_none f = refl

pub sum_n_more : (f : ℕ → ℕ) (e : ℕ) → sum_n (e + 1) f ≡ sum_n e f + f e
unfolding sum_n
sum_n_more f e = rw (add-one e)

-- ---- a count

-- a count that is read off a list of signed numbers
pub count_read : {n : ℕ} {z y : ℤ} → n ≡ pos_part (to_z w64 (of_z w64 z)) → mag z < 2 ^ 63 → z ≡ y → n ≡ pos_part y
count_read e h k = e ∙ ap pos_part (kept _ h ∙ k)
