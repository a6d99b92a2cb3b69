-- How many groups a 64-bit number has, by its length in bits: each group takes seven of them.
-- Assumes nothing.
use mathlib.Core.Path.{◌≡◌, refl, ap, subst, ◌∙◌}
use mathlib.Core.Bool.{Bool, true, false}
use Prim.Native.Nat.{ℕ, zero, suc, ◌+◌, ◌*◌, ◌-◌, ◌/◌, ◌^◌, ◌≤◌, ◌<◌}
use native.Mathlib.Nat.{pow-suc}
use lib.Count.{count_leading_zeros, leading_length}
use lib.Pow.{pow_mono}
use native.Mathlib.Omega.{arith}
use borrow.Author.Tests.{ltb-true, ltb-false, leb-true, leb-false}
use lib.Dec.{ltb, leb}
use lib.ListN.{length}
use Rattle.numbers.specs.law.Groups.{groups, groups_up_to}
use Rattle.numbers.specs.inside.GroupLaws.{one_group, more_groups}

-- m has k binary digits
pub record Long (m k : ℕ) : Type 0 where
  pub below : m < 2 ^ k
  pub top : 2 ^ k ≤ 2 * m + 1

-- seven digits fewer without the lowest group
long_next : (m j : ℕ) → Long m (suc (suc (suc (suc (suc (suc (suc j))))))) → Long (m / 128) j
long_next m j l =
    let eight : (k : ℕ) → 2 ^ suc (suc (suc k)) ≡ 8 * 2 ^ k = λ k. omega (arith, pow-suc 2 (suc (suc k)), pow-suc 2 (suc k), pow-suc 2 k) in
    let e : 2 ^ suc (suc (suc (suc (suc (suc (suc j)))))) ≡ 128 * 2 ^ j =
    omega (arith, eight (suc (suc (suc (suc j)))), eight (suc j), pow-suc 2 j) in
    record { below = omega (arith, l.below); top = omega (arith, l.top) }

long_short : (m k : ℕ) → Long m k → m < 128 → k ≤ 7
long_short m k l h = go (leb k 7) refl
  where
    go : (b : Bool) → leb k 7 ≡ b → k ≤ 7
    go true t = leb-true k 7 t
    go false t = let f : ⊥ = omega (arith, l.top, pow_mono {i = 8} {j = k} (leb-false k 7 t)) in absurd f

long_some : (m k : ℕ) → Long m k → 1 ≤ m → 1 ≤ k
long_some m zero l h = let f : ⊥ = omega (arith, l.below) in absurd f
long_some m (suc k) l h = omega arith

long_more : (m k : ℕ) → Long m k → 128 ≤ m → (j : ℕ) × (k ≡ suc (suc (suc (suc (suc (suc (suc j)))))))
long_more m k l h = go (leb k 7) refl
  where
    go : (b : Bool) → leb k 7 ≡ b → (j : ℕ) × (k ≡ suc (suc (suc (suc (suc (suc (suc j)))))))
    go true t = let f : ⊥ = omega (arith, l.below, pow_mono {i = k} {j = 7} (leb-true k 7 t)) in absurd f
    go false t = (k - 7, omega (arith, leb-false k 7 t))

count_long : (more m k : ℕ) → m < 2 * 128 ^ more → 1 ≤ m → Long m k → length (groups_up_to more m) ≡ (k + 6) / 7
count_long zero m k h s l = let a = long_short m k l (omega (arith, h)) in let b = long_some m k l s in omega arith
count_long (suc more) m k h s l = go (ltb m 128) refl (count_long more (m / 128))
  where
    go : (t : Bool) → ltb m 128 ≡ t
        → ((j : ℕ) → m / 128 < 2 * 128 ^ more → 1 ≤ m / 128 → Long (m / 128) j → length (groups_up_to more (m / 128)) ≡ (j + 6) / 7)
        → length (groups_up_to (suc more) m) ≡ (k + 6) / 7
    go true t again =
        let n = ltb-true m 128 t in
        let a = long_short m k l n in
        let b = long_some m k l s in
        ap length (one_group (suc more) m n) ∙ omega arith
    go false t again =
        let n = ltb-false m 128 t in
        let j = long_more m k l n in
        let r = again j.0 (omega (arith, h, pow-suc 128 more)) (omega arith) (long_next m j.0 (subst (Long m) j.1 l)) in
        omega (arith, ap length (more_groups more m n), r, j.1)

-- a number and the odd one beside it have equally many
odd_groups : (more m : ℕ) → length (groups_up_to more (m / 2 * 2 + 1)) ≡ length (groups_up_to more m)
odd_groups zero m = refl
odd_groups (suc more) m = go (ltb m 128) refl
  where
    go : (b : Bool) → ltb m 128 ≡ b → length (groups_up_to (suc more) (m / 2 * 2 + 1)) ≡ length (groups_up_to (suc more) m)
    go true t =
        let h = ltb-true m 128 t in
        rw (one_group (suc more) m h, one_group (suc more) (m / 2 * 2 + 1) (omega arith))
    go false t =
        let h = ltb-false m 128 t in
        let e : (m / 2 * 2 + 1) / 128 ≡ m / 128 = omega arith in
        rw (more_groups more m h, more_groups more (m / 2 * 2 + 1) (omega arith), e)

-- by the zeros above the odd number's highest digit, of which it has one
pub record Zeros (m zeros : ℕ) : Type 0 where
  pub fewer : zeros ≤ 63
  pub count : length (groups m) ≡ (70 - zeros) / 7

pub zeros_count : (m zeros : ℕ) → m < 2 ^ 64 → zeros ≡ count_leading_zeros 64 (m / 2 * 2 + 1) → Zeros m zeros
unfolding groups
zeros_count m n l e =
    let d = leading_length 64 (m / 2 * 2 + 1) (omega (arith, l)) in
    let k : Long (m / 2 * 2 + 1) d.0 = record { below = d.2; top = d.3 } in
    let some = long_some _ _ k (omega arith) in
    record {
      fewer = omega (arith, e, d.1, some);
      count = omega (arith, e, d.1, count_long 9 (m / 2 * 2 + 1) d.0 (omega (arith, l)) (omega arith) k, odd_groups 9 m);
    }
