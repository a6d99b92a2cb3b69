-- Digits are counted by the power of 10 below, and written the last one first: once the digits of `rest` are written too, the line holds those of n.
use Rattle.line.proofs.Common.{◌≡◌, refl, sym, ap, ◌∙◌, List, [], ◌∷◌, ℕ, ◌+◌, ◌-◌, ◌/◌, ◌^◌, ◌<◌, ◌≤◌, arith}
use Rattle.line.proofs.Common.{length, set, length-set}
use Prim.Native.Nat.{zero, suc, ◌*◌}
use Rattle.std.proofs.Common.{pow-suc, Bool, true, false, ltb, ltb-true, ltb-false}
use native.Mathlib.Nat.{one-le-pow}
use lib.ListN.{length-append}
use lib.Seq.{sets, set_comm}
use Rattle.numbers.specs.inside.OverlayLaws.{sets_append}
use Rattle.line.specs.law.Decimal.{last_digit, decimal}
use Rattle.line.specs.claims.Decimal.{few_digits}
use Rattle.line.specs.inside.DigitLaws.{one_digit, more_digits, some_digit}

-- an item that stands after a text may be stored before it
set_first : (l : List ℕ) (i : ℕ) (xs : List ℕ) (j d : ℕ) → i + length xs ≤ j → set (sets l i xs) j d ≡ sets (set l j d) i xs
set_first l i [] j d h = refl
set_first l i (x ∷ xs) j d h =
    set_first (set l i x) (suc i) xs j d (omega arith) ∙ ap (λ (m : List ℕ). sets m (suc i) xs) (set_comm l i j x d (λ e. omega arith))

-- the digits of `rest` are still to be written, up to i; where i is `at`, all are
pub record Writing (old : List ℕ) (at n : ℕ) (line : List ℕ) (rest i : ℕ) : Type 0 where
  pub whole : length line ≡ length old
  pub low : at ≤ i
  pub room : i ≤ length line
  pub here : at < i → i ≡ at + length (decimal rest)
  pub result : at < i → sets line at (decimal rest) ≡ sets old at (decimal n)
  pub ended : i ≡ at → line ≡ sets old at (decimal n)

pub writing : (old : List ℕ) (at n i : ℕ) → i ≡ at + length (decimal n) → at + length (decimal n) ≤ length old → Writing old at n old n i
writing old at n i h k = record {
  whole = refl;
  low = omega arith;
  room = omega arith;
  here = λ l. h;
  result = λ l. refl;
  ended = λ e. let f : ⊥ = omega (arith, some_digit n) in absurd f;
}

-- one digit more before the last
pub longer : (n : ℕ) → 10 ≤ n → length (decimal n) ≡ length (decimal (n / 10)) + 1
longer n h = ap length (more_digits n h) ∙ length-append (decimal (n / 10)) (last_digit n ∷ [])

-- the size of 64 bits with a sign has at most 19
pub few : (n : ℕ) → n ≤ 2 ^ 63 → length (decimal n) ≤ 19
few n h = few_digits n 18 (omega arith)

-- so it has room past a sign
pub ruleset past_sign = (few, length-set)

-- a number of at least 10^k has more than k
many_digits : (k n : ℕ) → 10 ^ k ≤ n → k + 1 ≤ length (decimal n)
many_digits zero n h = some_digit n
many_digits (suc k) n h =
    let t : 10 ≤ n = omega (arith, pow-suc 10 k, one-le-pow k 10 (omega arith)) in
    omega (arith, longer n t, many_digits k (n / 10) (omega (arith, pow-suc 10 k)))

-- so of a number between two powers of 10 there are as many as the lower one says
pub digits_of_log : (n k : ℕ) → 10 ^ k ≤ n → n < 10 * 10 ^ k → k + 1 ≡ length (decimal n)
digits_of_log n k h l = omega (arith, many_digits k n h, few_digits n k (omega (arith, pow-suc 10 k)))

module _ {old : List ℕ} {at n : ℕ} {line : List ℕ} {rest i : ℕ} (w : Writing old at n line rest i) (l : at < i) where
  write_more : 10 ≤ rest → Writing old at n (set line (i - 1) (last_digit rest)) (rest / 10) (i - 1)
  write_more h =
      let d = decimal (rest / 10) in
      let e : i - 1 ≡ at + length d = omega (arith, w.here l, longer rest h) in
      record {
        whole = length-set line (i - 1) (last_digit rest) ∙ w.whole;
        low = omega arith;
        room = omega (arith, w.room, length-set line (i - 1) (last_digit rest));
        here = λ m. e;
        result = λ m.
            sym (set_first line at d (i - 1) (last_digit rest) (omega arith))
            ∙ ap (λ (j : ℕ). set (sets line at d) j (last_digit rest)) e
            ∙ sym (sets_append line at d (last_digit rest ∷ []))
            ∙ ap (sets line at) (sym (more_digits rest h))
            ∙ w.result l;
        ended = λ q. let f : ⊥ = omega (arith, e, some_digit (rest / 10)) in absurd f;
      }

  write_first : rest < 10 → Writing old at n (set line (i - 1) (last_digit rest)) (rest / 10) (i - 1)
  write_first h =
      let e : i - 1 ≡ at = omega (arith, w.here l, ap length (one_digit rest h)) in
      record {
        whole = length-set line (i - 1) (last_digit rest) ∙ w.whole;
        low = omega arith;
        room = omega (arith, w.room, length-set line (i - 1) (last_digit rest));
        here = λ m. let f : ⊥ = omega arith in absurd f;
        result = λ m. let f : ⊥ = omega arith in absurd f;
        ended = λ q. rw e (ap (sets line at) (sym (one_digit rest h)) ∙ w.result l);
      }

  pub write_turn : Writing old at n (set line (i - 1) (last_digit rest)) (rest / 10) (i - 1)
  write_turn = go (ltb rest 10) refl
    where
      go : (b : Bool) → ltb rest 10 ≡ b → Writing old at n (set line (i - 1) (last_digit rest)) (rest / 10) (i - 1)
      go true e = write_first (ltb-true rest 10 e)
      go false e = write_more (ltb-false rest 10 e)
