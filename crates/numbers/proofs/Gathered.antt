-- The bytes of a number, gathered one after the other: those before make up a value, and those after stand at a scale, a power of 128.
-- Assumes nothing.
use mathlib.Core.Path.{◌≡◌, ap, sym, ◌∙◌}
use mathlib.Core.List.{List}
use Prim.Native.Nat.{ℕ, zero, suc, ◌+◌, ◌*◌, ◌-◌, ◌^◌, ◌≤◌, ◌<◌}
use native.Mathlib.Nat.{mul-le-mul, mul-le-mul_left, mul_assoc, pow-succ', one-le-pow}
use native.Mathlib.Numerals.{add-one}
use native.Mathlib.Omega.{arith}
use borrow.Author.Tests.{lt-ltb, le-ltb}
use lib.ListN.{length, get_or, drop}
use lib.Seq.{drop-cons}
use Rattle.numbers.specs.law.Reading.{later_bytes, last_byte, in_front, number_of, whole}
use Rattle.numbers.specs.inside.Shifted.{shifted, shifted_more}

pub product_small : {b scale : ℕ} → b < 128 → scale ≤ 2 ^ 56 → scale * b ≤ 2 ^ 56 * 127
product_small {b} h k = let g : b ≤ 127 = omega (arith, h) in mul-le-mul k g

-- ---- the bytes at `at`, by what stands there

module _ (bytes : List ℕ) (at : ℕ) (h : at < length bytes) where
  pub later_last : (more : ℕ) → get_or bytes at 0 < 128 → later_bytes (suc more) (drop at bytes) ≡ last_byte (get_or bytes at 0)
  later_last more k = rw (drop-cons bytes at 0 h, lt-ltb _ _ k)

  pub later_more : (more : ℕ) → 128 ≤ get_or bytes at 0
      → later_bytes (suc more) (drop at bytes) ≡ in_front (get_or bytes at 0 - 128) (later_bytes more (drop (at + 1) bytes))
  later_more more k = rw (drop-cons bytes at 0 h, le-ltb _ _ k, add-one at)

  pub number_one : get_or bytes at 0 < 128 → number_of (drop at bytes) ≡ whole (get_or bytes at 0) 1
  unfolding number_of
  number_one k = rw (drop-cons bytes at 0 h, lt-ltb _ _ k)

  pub number_more : 128 ≤ get_or bytes at 0 → number_of (drop at bytes) ≡ in_front (get_or bytes at 0 - 128) (later_bytes 8 (drop (at + 1) bytes))
  unfolding number_of
  number_more k = rw (drop-cons bytes at 0 h, le-ltb _ _ k, add-one at)

-- ---- the loop over the bytes after the first

-- the bytes before `at` make up `value`, and what follows stands at `scale`, with `more` bytes before the tenth
pub record Gathering (bytes : List ℕ) (start group value scale at more : ℕ) : Type 0 where
  pub few : more ≤ 8
  pub inside : at ≤ length bytes
  pub below : value < scale
  pub power : scale * 128 ^ more ≡ 128 ^ 9
  pub result : in_front group (later_bytes 8 (drop start bytes)) ≡ shifted value scale (9 - more) (later_bytes more (drop at bytes))

-- with a byte before the tenth still to come
module _ {bytes : List ℕ} {start group value scale at : ℕ} (less : ℕ) (g : Gathering bytes start group value scale at (suc less)) where
  power_next : scale * 128 * 128 ^ less ≡ 128 ^ 9
  power_next = mul_assoc scale 128 (128 ^ less) ∙ ap (λ (p : ℕ). scale * p) (sym (pow-succ' 128 less)) ∙ g.power

  pub scale_small : scale * 128 ≤ 2 ^ 63
  scale_small = omega (arith, power_next, mul-le-mul_left (scale * 128) (one-le-pow less 128 (omega arith)))

  pub gather_more : at < length bytes → 128 ≤ get_or bytes at 0 → get_or bytes at 0 < 256
      → Gathering bytes start group (value + scale * (get_or bytes at 0 - 128)) (scale * 128) (at + 1) less
  gather_more h k l = record {
    few = omega (arith, g.few);
    inside = omega arith;
    below = omega (arith, g.below, mul-le-mul_left scale top);
    power = power_next;
    result =
        let e : 9 - suc less + 1 ≡ 9 - less = omega (arith, g.few) in
        g.result
        ∙ ap (shifted value scale (9 - suc less)) (later_more bytes at h less k)
        ∙ shifted_more value scale (9 - suc less) (get_or bytes at 0 - 128) (later_bytes less (drop (at + 1) bytes))
        ∙ ap (λ (n : ℕ). shifted (value + scale * (get_or bytes at 0 - 128)) (scale * 128) n (later_bytes less (drop (at + 1) bytes))) e;
  }
    where
      top : get_or bytes at 0 - 128 ≤ 127
      top = omega (arith, l)

-- the same, of the loop's own count
module _ {bytes : List ℕ} {start group value scale at : ℕ} where
  pub scale_most : (more : ℕ) → Gathering bytes start group value scale at more → 0 < more → scale * 128 ≤ 2 ^ 63
  scale_most zero g s = let f : ⊥ = omega (arith, s) in absurd f
  scale_most (suc less) g s = scale_small less g

  pub gather_on : (more : ℕ) → Gathering bytes start group value scale at more
      → 0 < more → at < length bytes → 128 ≤ get_or bytes at 0 → get_or bytes at 0 < 256
      → Gathering bytes start group (value + scale * (get_or bytes at 0 - 128)) (scale * 128) (at + 1) (more - 1)
  gather_on zero g s h k l = let f : ⊥ = omega (arith, s) in absurd f
  gather_on (suc less) g s h k l = let e : suc less - 1 ≡ less = omega arith in rw e (gather_more less g h k l)
