-- Digits are right: they read back as the number, no 0 stands in front, and a number below 10^k has at most k.
-- Assumes nothing.
use Rattle.std.specs.Prelude.{◌≡◌, refl, List, [], ◌∷◌, ◌++◌, ℕ, zero, suc, ◌+◌, ◌*◌, ◌-◌, ◌/◌, ◌^◌, ◌≤◌, ◌<◌}
use Rattle.std.specs.Prelude.{length, get_or}
use Rattle.std.proofs.Common.{ap, sym, ◌∙◌, pow-suc, arith, length-append}
use Rattle.line.specs.law.Decimal.{last_digit, decimal}
use Rattle.line.specs.inside.DigitLaws.{one_digit, more_digits, by_digits, some_digit}

-- ---- they read back as the number

-- the number of the digits, with `front` in front of them
abbrev pub value_after : ℕ → List ℕ → ℕ
value_after front [] = front
value_after front (d ∷ digits) = value_after (10 * front + (d - 48)) digits

value_append : (front : ℕ) (xs ys : List ℕ) → value_after front (xs ++ ys) ≡ value_after (value_after front xs) ys
value_append front [] ys = refl
value_append front (x ∷ xs) ys = value_append (10 * front + (x - 48)) xs ys

pub value_of : (n : ℕ) → value_after 0 (decimal n) ≡ n
value_of = by_digits (λ n. value_after 0 (decimal n) ≡ n) short more
  where
    short : (n : ℕ) → n < 10 → value_after 0 (decimal n) ≡ n
    short n h = rw (one_digit n h) (omega arith)

    more : (n : ℕ) → 10 ≤ n → value_after 0 (decimal (n / 10)) ≡ n / 10 → value_after 0 (decimal n) ≡ n
    more n h e = rw (more_digits n h, value_append 0 (decimal (n / 10)) (last_digit n ∷ []), e) (omega arith)

-- so no two numbers have the same digits
pub same_digits : (m n : ℕ) → decimal m ≡ decimal n → m ≡ n
same_digits m n e = sym (value_of m) ∙ ap (value_after 0) e ∙ value_of n

-- ---- how many there are

pub few_digits : (n k : ℕ) → n < 10 ^ suc k → length (decimal n) ≤ suc k
few_digits = by_digits (λ n. (k : ℕ) → n < 10 ^ suc k → length (decimal n) ≤ suc k) (λ n h k l. omega (arith, ap length (one_digit n h))) more
  where
    more : (n : ℕ) → 10 ≤ n → ((k : ℕ) → n / 10 < 10 ^ suc k → length (decimal (n / 10)) ≤ suc k) → (k : ℕ) → n < 10 ^ suc k → length (decimal n) ≤ suc k
    more n h p zero l = let f : ⊥ = omega arith in absurd f
    more n h p (suc k) l =
        let e = ap length (more_digits n h) ∙ length-append (decimal (n / 10)) (last_digit n ∷ []) in
        omega (arith, e, p k (omega (arith, pow-suc 10 (suc k))))

-- ---- no 0 stands in front

pub no_zero : (n : ℕ) → 1 ≤ n → 49 ≤ get_or (decimal n) 0 0
no_zero = by_digits (λ n. 1 ≤ n → 49 ≤ get_or (decimal n) 0 0) (λ n h k. rw (one_digit n h) (omega arith)) more
  where
    more : (n : ℕ) → 10 ≤ n → (1 ≤ n / 10 → 49 ≤ get_or (decimal (n / 10)) 0 0) → 1 ≤ n → 49 ≤ get_or (decimal n) 0 0
    more n h p k = rw (more_digits n h) (front (decimal (n / 10)) (some_digit (n / 10)) (p (omega arith)))
      where
        front : (l : List ℕ) → 1 ≤ length l → 49 ≤ get_or l 0 0 → 49 ≤ get_or (l ++ (last_digit n ∷ [])) 0 0
        front [] s q = let f : ⊥ = omega arith in absurd f
        front (d ∷ l) s q = q
