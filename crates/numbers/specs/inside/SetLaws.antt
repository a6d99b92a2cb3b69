-- The tests on sets, by their items: a number is its bits, and a bit of a conjunction is the lesser of the two.
-- Assumes nothing.
use Rattle.std.specs.Prelude.{◌≡◌, refl, ℕ, zero, suc, ◌+◌, ◌/◌, ◌%◌, ◌^◌, ◌<◌, ◌≤◌, min}
use Rattle.std.proofs.Common.{sym, ap, ◌∙◌, arith, le_trans, pow_mono}
use Rattle.std.proofs.Math.Nat.{pow-succ', div-div-eq-div-mul, div-eq_of_lt}
use Rattle.std.specs.Int.Bits.{bit_and, and_step}
use Rattle.std.proofs.lemmas.Nat.{and_shr, and_le_l}
use Rattle.std.specs.Int.Count.{ones, ones_in, ones_step}
use Rattle.numbers.specs.law.Sums.{sum_n}
use Rattle.numbers.specs.law.Sets.{bit}

pub bit_and_lem : (a b i : ℕ) → bit (bit_and a b) i ≡ min (bit a i) (bit b i)
bit_and_lem a b i = rw and_shr (let k = and_step (a / 2 ^ i) (b / 2 ^ i) in omega arith)

pub bit_suc : (n i : ℕ) → bit n (suc i) ≡ bit (n / 2) i
bit_suc n i = rw (pow-succ' 2 i, ← div-div-eq-div-mul n 2 (2 ^ i))

pub bit_zero : (i : ℕ) → bit 0 i ≡ 0
bit_zero zero = refl
bit_zero (suc i) = bit_suc 0 i ∙ bit_zero i

-- two numbers with the same bits are one number
pub bit_ext : (k a b : ℕ) → a < 2 ^ k → b < 2 ^ k → ((i : ℕ) → bit a i ≡ bit b i) → a ≡ b
bit_ext zero a b h l f = omega arith
bit_ext (suc k) a b h l f =
    let e = bit_ext k (a / 2) (b / 2) (omega arith) (omega arith) (λ i. sym (bit_suc a i) ∙ f (suc i) ∙ bit_suc b i) in
    omega (arith, f 0)

pub subset_is : (a b : ℕ) → bit_and a b ≡ a → (i : ℕ) → bit a i ≤ bit b i
subset_is a b e i = omega (arith, bit_and_lem a b i, ap (λ (n : ℕ). bit n i) e)

pub is_subset : (k a b : ℕ) → a < 2 ^ k → ((i : ℕ) → bit a i ≤ bit b i) → bit_and a b ≡ a
is_subset k a b h f = bit_ext k (bit_and a b) a (omega (arith, and_le_l a b)) h (λ i. omega (arith, bit_and_lem a b i, f i))

pub disjoint_is : (a b : ℕ) → bit_and a b ≡ 0 → (i : ℕ) → min (bit a i) (bit b i) ≡ 0
disjoint_is a b e i = omega (arith, bit_and_lem a b i, ap (λ (n : ℕ). bit n i) e, bit_zero i)

pub is_disjoint : (k a b : ℕ) → a < 2 ^ k → ((i : ℕ) → min (bit a i) (bit b i) ≡ 0) → bit_and a b ≡ 0
is_disjoint k a b h f =
    let l = and_le_l a b in
    bit_ext k (bit_and a b) 0 (omega arith) (omega arith) (λ i. omega (arith, bit_and_lem a b i, f i, bit_zero i))

-- a number below 2^k has no item from k on
pub bit_high : (k n i : ℕ) → n < 2 ^ k → k ≤ i → bit n i ≡ 0
bit_high k n i h l = let e : n / 2 ^ i ≡ 0 = div-eq_of_lt (le_trans h (pow_mono l)) in rw e

-- the count of ones is the count of items
ones_none : ones 0 ≡ 0
unfolding ones ones_in
ones_none = refl

from_low : (n j : ℕ) → sum_n (suc j) (bit n) ≡ n % 2 + sum_n j (bit (n / 2))
unfolding sum_n
from_low n zero = omega arith
from_low n (suc j) = omega (arith, from_low n j, bit_suc n j, bit_suc n (suc j))

pub ones_sum : (k n : ℕ) → n < 2 ^ k → ones n ≡ sum_n k (bit n)
unfolding sum_n
ones_sum zero n h = let e : n ≡ 0 = omega arith in rw e ones_none
ones_sum (suc k) n h = ones_step n ∙ ap (λ (m : ℕ). n % 2 + m) (ones_sum k (n / 2) (omega arith)) ∙ sym (from_low n k)
