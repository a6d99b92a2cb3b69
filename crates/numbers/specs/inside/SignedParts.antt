-- Signed arithmetic by the naturals: a number's positive and negative part, and the rules by which `omega` reads ℤ.
-- Assumes nothing.
use Rattle.std.specs.Prelude.{◌≡◌, refl, Bool, true, false, not, cond, ℕ, zero, suc, ◌+◌, ◌*◌, ◌-◌, ◌<◌}
use Rattle.std.specs.Prelude.{◌≤◌, max, T, ltb, ℤ, pos, negsuc, neg_ℤ, nat_abs, ◌+ℤ◌, ◌-ℤ◌, ◌*ℤ◌, ◌≤ℤ◌, ◌<ℤ◌}
use Rattle.std.proofs.Common.{sym, ap, subst, arith, ltb→lt, nltb→le, leb→le, le→leb, lt→ltb}
use Rattle.std.proofs.Math.Dec.{nleb→lt}
use Rattle.std.proofs.Math.IntN.{sub_ℕ}
use Rattle.std.specs.Int.Signed.{le_z, lt_z, lt_z_no}
use Rattle.numbers.specs.law.Signed.{pos_part}

abbrev pub neg_part : ℤ → ℕ
neg_part (pos n) = 0
neg_part (negsuc n) = suc n

-- ---- the two parts of a difference, a negation, a sum, a product
by_ltb : (a b : ℕ) (P : ℤ → Type 0) → (a < b → P (negsuc (b - suc a))) → (b ≤ a → P (pos (a - b))) → P (sub_ℕ a b)
by_ltb a b P f g = go (ltb a b) (λ t. f (ltb→lt a b t)) (λ t. g (nltb→le a b t))
  where
    go : (c : Bool) → (T c → P (negsuc (b - suc a))) → (T (not c) → P (pos (a - b))) → P (cond c (negsuc (b - suc a)) (pos (a - b)))
    go true f g = f tt
    go false f g = g tt

pub pos_part_subℕ : (a b : ℕ) → pos_part (sub_ℕ a b) ≡ a - b
pos_part_subℕ a b = by_ltb a b (λ z. pos_part z ≡ a - b) (λ h. omega arith) (λ h. refl)

pub neg_part_subℕ : (a b : ℕ) → neg_part (sub_ℕ a b) ≡ b - a
neg_part_subℕ a b = by_ltb a b (λ z. neg_part z ≡ b - a) (λ h. omega arith) (λ h. omega arith)

pub pos_part_neg : (z : ℤ) → pos_part (neg_ℤ z) ≡ neg_part z
pos_part_neg (pos zero) = refl
pos_part_neg (pos (suc n)) = refl
pos_part_neg (negsuc n) = refl

pub neg_part_neg : (z : ℤ) → neg_part (neg_ℤ z) ≡ pos_part z
neg_part_neg (pos zero) = refl
neg_part_neg (pos (suc n)) = refl
neg_part_neg (negsuc n) = refl

-- what a sum says of the parts: list `added x y` in omega's list
pub record Added (x y z : ℤ) : Type 0 where
  pub bal : pos_part z + (neg_part x + neg_part y) ≡ neg_part z + (pos_part x + pos_part y)
  pub pos≤ : pos_part z ≤ pos_part x + pos_part y
  pub neg≤ : neg_part z ≤ neg_part x + neg_part y

pub added : (x y : ℤ) → Added x y (x +ℤ y)
added (pos a) (pos b) = omega arith
added (pos a) (negsuc b) = omega (arith, pos_part_subℕ a (suc b), neg_part_subℕ a (suc b))
added (negsuc a) (pos b) = omega (arith, pos_part_subℕ b (suc a), neg_part_subℕ b (suc a))
added (negsuc a) (negsuc b) = omega arith

pub record Taken (x y z : ℤ) : Type 0 where
  pub bal : pos_part z + (neg_part x + pos_part y) ≡ neg_part z + (pos_part x + neg_part y)
  pub pos≤ : pos_part z ≤ pos_part x + neg_part y
  pub neg≤ : neg_part z ≤ neg_part x + pos_part y

pub taken : (x y : ℤ) → Taken x y (x -ℤ y)
taken x y = omega (arith, added x (neg_ℤ y), pos_part_neg y, neg_part_neg y)

pub pos_part_mul : (x y : ℤ) → pos_part (x *ℤ y) ≡ pos_part x * pos_part y + neg_part x * neg_part y
pos_part_mul (pos a) (pos b) = omega arith
pos_part_mul (pos a) (negsuc b) = omega (arith, pos_part_neg (pos (a * suc b)))
pos_part_mul (negsuc a) (pos b) = omega (arith, pos_part_neg (pos (suc a * b)))
pos_part_mul (negsuc a) (negsuc b) = omega arith

pub neg_part_mul : (x y : ℤ) → neg_part (x *ℤ y) ≡ pos_part x * neg_part y + neg_part x * pos_part y
neg_part_mul (pos a) (pos b) = omega arith
neg_part_mul (pos a) (negsuc b) = omega (arith, neg_part_neg (pos (a * suc b)))
neg_part_mul (negsuc a) (pos b) = omega (arith, neg_part_neg (pos (suc a * b)))
neg_part_mul (negsuc a) (negsuc b) = omega arith

pub size_parts : (z : ℤ) → nat_abs z ≡ pos_part z + neg_part z
size_parts (pos n) = omega arith
size_parts (negsuc n) = omega arith

-- one of the parts is 0, as a `max`, on which omega splits
pub record Size (z : ℤ) : Type 0 where
  pub both : nat_abs z ≡ pos_part z + neg_part z
  pub most : nat_abs z ≡ max (pos_part z) (neg_part z)

pub size : (z : ℤ) → Size z
size (pos n) = omega arith
size (negsuc n) = omega arith

-- ---- rules for omega: hypotheses and goals of ℤ's order and equality, as facts of the parts
pub le→ : (a b : ℤ) → a ≤ℤ b → pos_part a + neg_part b ≤ neg_part a + pos_part b
le→ (pos a) (pos b) h = omega (arith, leb→le a b h.le)
le→ (pos a) (negsuc b) h = absurd h.le
le→ (negsuc a) (pos b) h = omega arith
le→ (negsuc a) (negsuc b) h = omega (arith, leb→le b a h.le)

le_t : (a b : ℤ) → pos_part a + neg_part b ≤ neg_part a + pos_part b → T (le_z a b)
le_t (pos a) (pos b) h = le→leb a b (omega arith)
le_t (pos a) (negsuc b) h = let f : ⊥ = omega arith in absurd f
le_t (negsuc a) (pos b) h = tt
le_t (negsuc a) (negsuc b) h = le→leb b a (omega arith)

pub →le : (a b : ℤ) → pos_part a + neg_part b ≤ neg_part a + pos_part b → a ≤ℤ b
→le a b h = record { le = le_t a b h }

pub lt→ : (a b : ℤ) → a <ℤ b → pos_part a + neg_part b < neg_part a + pos_part b
lt→ (pos a) (pos b) h = omega (arith, ltb→lt a b h.lt)
lt→ (pos a) (negsuc b) h = absurd h.lt
lt→ (negsuc a) (pos b) h = omega arith
lt→ (negsuc a) (negsuc b) h = omega (arith, ltb→lt b a h.lt)

lt_t : (a b : ℤ) → pos_part a + neg_part b < neg_part a + pos_part b → T (lt_z a b)
lt_t (pos a) (pos b) h = lt→ltb a b (omega arith)
lt_t (pos a) (negsuc b) h = let f : ⊥ = omega arith in absurd f
lt_t (negsuc a) (pos b) h = tt
lt_t (negsuc a) (negsuc b) h = lt→ltb b a (omega arith)

pub →lt : (a b : ℤ) → pos_part a + neg_part b < neg_part a + pos_part b → a <ℤ b
→lt a b h = record { lt = lt_t a b h }

pub eq→ : (a b : ℤ) → a ≡ b → pos_part a + neg_part b ≡ neg_part a + pos_part b
eq→ a b e = subst (λ (z : ℤ). pos_part a + neg_part z ≡ neg_part a + pos_part z) e (omega arith)

pub →eq : (a b : ℤ) → pos_part a + neg_part b ≡ neg_part a + pos_part b → a ≡ b
→eq (pos a) (pos b) h = ap pos (omega arith)
→eq (pos a) (negsuc b) h = let f : ⊥ = omega arith in absurd f
→eq (negsuc a) (pos b) h = let f : ⊥ = omega arith in absurd f
→eq (negsuc a) (negsuc b) h = ap negsuc (omega arith)

-- the tests, as equations of the flag
pub le_z_t : (a b : ℤ) → le_z a b ≡ true → pos_part a + neg_part b ≤ neg_part a + pos_part b
le_z_t a b e = le→ a b (record { le = subst T (sym e) tt })

pub lt_z_t : (a b : ℤ) → lt_z a b ≡ true → pos_part a + neg_part b < neg_part a + pos_part b
lt_z_t a b e = lt→ a b (record { lt = subst T (sym e) tt })

is_true : (t : Bool) → T t → t ≡ true
is_true true h = refl
is_true false h = absurd h

pub t_le_z : (a b : ℤ) → pos_part a + neg_part b ≤ neg_part a + pos_part b → le_z a b ≡ true
t_le_z a b h = is_true (le_z a b) (le_t a b h)

pub t_lt_z : (a b : ℤ) → pos_part a + neg_part b < neg_part a + pos_part b → lt_z a b ≡ true
t_lt_z a b h = is_true (lt_z a b) (lt_t a b h)

not_t : (t : Bool) → t ≡ false → T (not t)
not_t t e = subst (λ (b : Bool). T (not b)) (sym e) tt

nle : (a b : ℤ) → T (not (le_z a b)) → pos_part b + neg_part a < neg_part b + pos_part a
nle (pos a) (pos b) t = omega (arith, nleb→lt a b t)
nle (pos a) (negsuc b) t = omega arith
nle (negsuc a) (pos b) t = absurd t
nle (negsuc a) (negsuc b) t = omega (arith, nleb→lt b a t)

pub le_z_f : (a b : ℤ) → le_z a b ≡ false → pos_part b + neg_part a < neg_part b + pos_part a
le_z_f a b e = nle a b (not_t (le_z a b) e)

pub lt_z_f : (a b : ℤ) → lt_z a b ≡ false → pos_part b + neg_part a ≤ neg_part b + pos_part a
lt_z_f a b e = le→ b a (lt_z_no {a = a} {b = b} (not_t (lt_z a b) e))

-- `omega (ints, added a b, taken c d)`: all of it
pub ruleset ints = (arith, le→, →le, lt→, →lt, eq→, →eq, le_z_t, le_z_f, lt_z_t, lt_z_f, t_le_z, t_lt_z)
