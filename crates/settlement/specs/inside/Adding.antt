-- One row or one pair more: what it adds to the sums, and the room that it needs.
-- Assumes nothing.
use Rattle.std.specs.Prelude.{Bool, true, false, not, cond, int_lt, ◌≡◌, refl, ℕ, ◌+◌, ◌≤◌, ℤ, pos, nat_abs, ◌+ℤ◌}
use Rattle.std.proofs.Common.{arith}
use Rattle.std.specs.Int.Signed.{le_z, lt_z}
use Rattle.std.specs.Int.{int_min}
use Rattle.numbers.specs.law.Sums.{only_n}
use Rattle.numbers.specs.inside.QuestionLaws.{and_first, and_second}
use Rattle.numbers.specs.inside.SignedParts.{ints, size}
use Rattle.numbers.specs.inside.SignedBounds.{Bounded}
use Rattle.settlement.specs.declared.merge.Sums.{Sums}
use Rattle.settlement.specs.law.RecordRules.{in_grams}
use Rattle.settlement.specs.law.Settled.{agrees, settled_pair}

-- a mass in its range
pub record Grams (x : ℤ) : Type 0 where
  pub in_range : in_grams x ≡ true

-- sums of at most 10,000 rows
pub record Room (f : Sums) : Type 0 where
  pub total : nat_abs f.total ≤ 10000000000000000
  pub agreed : f.agreed ≤ 10000
  pub cut : f.cut ≤ 10000

abbrev pub pair_added : Sums → ℤ → ℤ → ℤ → Sums
pair_added f agreed s r = record {
  total = f.total +ℤ settled_pair agreed s r;
  agreed = f.agreed + only_n (agrees agreed s r) 1;
  cut = f.cut + only_n (not (agrees agreed s r)) 1;
}

abbrev pub row_added : Sums → ℤ → Sums
row_added f x = record { total = f.total +ℤ x; agreed = f.agreed; cut = f.cut }

-- ---- sizes

pub grams_small : {x : ℤ} → Grams x → Bounded x 1000000000000
grams_small {x} g =
    let l = and_first (le_z (pos 0) x) (le_z x (pos 1000000000000)) g.in_range in
    let m = and_second (le_z (pos 0) x) (le_z x (pos 1000000000000)) g.in_range in
    record { bound = omega (ints, size x, l, m) }

-- ---- a pair, by whether the two agree

pub smaller_grams : {s r : ℤ} → Grams s → Grams r → Grams (cond (le_z s r) s r)
smaller_grams {s} {r} g h = go (le_z s r)
  where
    go : (b : Bool) → Grams (cond b s r)
    go true = g
    go false = h

pub pair_grams : (agreed : ℤ) {s r : ℤ} → Grams s → Grams r → Grams (settled_pair agreed s r)
unfolding settled_pair
pair_grams agreed {s} {r} g h = go (agrees agreed s r)
  where
    go : (b : Bool) → Grams (cond b s (cond (le_z s r) s r))
    go true = g
    go false = smaller_grams g h

-- the smaller of two, as the law has it
pub min_is : (s r : ℤ) → int_min s r ≡ cond (le_z s r) s r
min_is s r = go (le_z s r) (int_lt r s) refl refl
  where
    go : (a b : Bool) → le_z s r ≡ a → int_lt r s ≡ b → cond b r s ≡ cond a s r
    go true true e f = absurd (omega (ints, e, f))
    go true false e f = refl
    go false true e f = refl
    go false false e f = absurd (omega (ints, e, f))

add_none : (n : ℕ) → n + 0 ≡ n
add_none n = omega arith

module _ (f : Sums) (agreed s r : ℤ) where
  pub pair_agreed : agrees agreed s r ≡ true → pair_added f agreed s r ≡ record {
    total = f.total +ℤ s;
    agreed = f.agreed + 1;
    cut = f.cut;
  }
  unfolding settled_pair
  pair_agreed e = rw (e, add_none)

  pub pair_cut : agrees agreed s r ≡ false → pair_added f agreed s r ≡ record {
    total = f.total +ℤ cond (le_z s r) s r;
    agreed = f.agreed;
    cut = f.cut + 1;
  }
  unfolding settled_pair
  pair_cut e = rw (e, add_none)
