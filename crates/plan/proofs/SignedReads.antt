-- Signed values read back out of locals: what was read is what stood there, and it is as large as that.
use Rattle.plan.proofs.Common.{◌≡◌, sym, ap, ◌∙◌, ℕ, ◌^◌, ◌<◌, ◌≤◌, arith, eqb, ℤ, nat_abs, w64, to_z, of_z, to_z-of_z, Held, held, held_fits, kept}
use mathlib.Core.Path.{subst}
use mir.Val.{SFits}
use lib.Dec.{T, ltb}
use lib.Signed.{mag}
use Rattle.numbers.specs.inside.SignedBounds.{Bounded}
use Rattle.numbers.specs.inside.SignedParts.{ints}
use Rattle.numbers.specs.inside.SignedLocals.{plain}
use Rattle.plan.specs.law.Compared.{within, same}

-- a value in a local, of which it is known what it is and how large
pub read : {r z : ℤ} {n : ℕ} → r ≡ z → Bounded z n → T (ltb n (2 ^ 63)) → Held (to_z w64 (of_z w64 r)) z n
read e b t = held (record { val = e; bound = b.bound }) t

pub read_bounded : {r z : ℤ} {n : ℕ} → Held r z n → Bounded r n
read_bounded {n = n} h = record { bound = subst (λ (y : ℤ). nat_abs y ≤ n) (sym h.val) h.bound }

pub sized : {z : ℤ} {n : ℕ} → Bounded z n → Held z z n
sized b = plain b.bound

-- a result that fits, by what was promised of it
pub as_told : {z y : ℤ} → mag z < 2 ^ 63 → z ≡ y → to_z w64 (of_z w64 z) ≡ y
as_told {z} h e = kept z h ∙ e

-- a test of a range, by what was read of its three numbers
pub within_read : {a b x y c d : ℤ} → a ≡ b → x ≡ y → c ≡ d → within a x c ≡ within b y d
within_read p q r = rw (p, q, r)

-- `==` compares the bits of two signed numbers, which are the same where the numbers are
same_test : (m n : ℕ) (a b : ℤ) → (m ≡ n → a ≡ b) → (a ≡ b → m ≡ n) → eqb m n ≡ same a b
same_test m n a b back forth = grind (arith, ints)

pub same_read : {a b : ℤ} → SFits w64 a → SFits w64 b → eqb (of_z w64 a) (of_z w64 b) ≡ same a b
same_read {a} {b} f g = same_test _ _ a b (λ e. sym (to_z-of_z f) ∙ ap (to_z w64) e ∙ to_z-of_z g) (ap (of_z w64))

-- the same, where it is known what the left one is
pub same_held : {r z b : ℤ} {n : ℕ} → Held r z n → T (ltb n (2 ^ 63)) → SFits w64 b → eqb (of_z w64 r) (of_z w64 b) ≡ same z b
same_held {b = b} h t g = same_read (held_fits h t) g ∙ ap (λ (x : ℤ). same x b) h.val
