-- Equations and orders of signed sums, differences and products, put together as the expression is: `v a ⊞ v b ⊠ v c`.
-- Assumes nothing.
use Rattle.std.specs.Prelude.{◌≡◌, ℕ, ◌+◌, ◌*◌, ◌≤◌, ℤ, neg_ℤ, ◌+ℤ◌, ◌-ℤ◌, ◌*ℤ◌, ◌≤ℤ◌}
use Rattle.std.proofs.Common.{ap, arith}
use Rattle.numbers.specs.law.Signed.{pos_part}
use Rattle.numbers.specs.inside.SignedParts.{neg_part, added, taken, pos_part_neg, neg_part_neg, pos_part_mul, neg_part_mul, ints}

-- z is p - n
pub record Is (z : ℤ) (p n : ℕ) : Type 0 where
  pub is : pos_part z + n ≡ neg_part z + p

pub v : (z : ℤ) → Is z (pos_part z) (neg_part z)
v z = omega arith

infixl 6 ◌⊞◌ ◌⊟◌
infixl 7 ◌⊠◌
pub ◌⊞◌ : {x y : ℤ} {p n q m : ℕ} → Is x p n → Is y q m → Is (x +ℤ y) (p + q) (n + m)
◌⊞◌ {x} {y} h k = omega (arith, added x y)

pub ◌⊟◌ : {x y : ℤ} {p n q m : ℕ} → Is x p n → Is y q m → Is (x -ℤ y) (p + m) (n + q)
◌⊟◌ {x} {y} h k = omega (arith, taken x y)

pub ng : {x : ℤ} {p n : ℕ} → Is x p n → Is (neg_ℤ x) n p
ng {x} h = omega (arith, pos_part_neg x, neg_part_neg x)

pub ◌⊠◌ : {x y : ℤ} {p n q m : ℕ} → Is x p n → Is y q m → Is (x *ℤ y) (p * q + n * m) (p * m + n * q)
◌⊠◌ {x} {y} {p} {n} {q} {m} h k =
    omega (arith, pos_part_mul x y, neg_part_mul x y, by (pos_part y) h.is, by (neg_part y) h.is, by p k.is, by n k.is)
  where
    by : {a b : ℕ} (c : ℕ) → a ≡ b → a * c ≡ b * c
    by c e = ap (λ (t : ℕ). t * c) e

pub eq! : {a b : ℤ} {p n q m : ℕ} → Is a p n → Is b q m → p + m ≡ n + q → a ≡ b
eq! {a} {b} h k e = omega ints

pub le! : {a b : ℤ} {p n q m : ℕ} → Is a p n → Is b q m → p + m ≤ n + q → a ≤ℤ b
le! {a} {b} h k e = omega ints
