-- The digits of n are those of n / 10, if n has more than one, and then the last.
use Rattle.std.specs.Prelude.{◌≡◌, refl, Bool, true, false, [], ◌∷◌, ◌++◌, ℕ, zero, suc, ◌/◌, ◌≤◌, ◌<◌, ltb, length}
use Rattle.std.proofs.Common.{ap, arith, lt-ltb, le-ltb, ltb-true, ltb-false, length-append}
use Rattle.line.specs.law.Decimal.{last_digit, digits_up_to, decimal}

-- any count that is no smaller than n leaves room for all of them
enough : (f g n : ℕ) → n ≤ f → n ≤ g → digits_up_to f n ≡ digits_up_to g n
enough zero zero n h k = refl
enough zero (suc g) n h k = let e : n ≡ 0 = omega arith in rw e
enough (suc f) zero n h k = let e : n ≡ 0 = omega arith in rw e
enough (suc f) (suc g) n h k = let e = enough f g (n / 10) (omega arith) (omega arith) in rw e

pub one_digit : (n : ℕ) → n < 10 → decimal n ≡ last_digit n ∷ []
unfolding decimal
one_digit zero h = refl
one_digit (suc n) h = rw (lt-ltb (suc n) 10 h)

pub more_digits : (n : ℕ) → 10 ≤ n → decimal n ≡ decimal (n / 10) ++ (last_digit n ∷ [])
unfolding decimal
more_digits zero h = let f : ⊥ = omega arith in absurd f
more_digits (suc n) h = rw (le-ltb (suc n) 10 h, enough n (suc n / 10) (suc n / 10) (omega arith) (omega arith))

-- what holds of numbers below 10, and of n where it holds of n / 10, holds of every number
pub by_digits : (P : ℕ → Type 0) → ((n : ℕ) → n < 10 → P n) → ((n : ℕ) → 10 ≤ n → P (n / 10) → P n) → (n : ℕ) → P n
by_digits P short more n = go n n (omega arith)
  where
    go : (f n : ℕ) → n ≤ f → P n
    go zero n h = short n (omega arith)
    go (suc f) n h = at (ltb n 10) refl (go f (n / 10) (omega arith))
      where
        at : (b : Bool) → ltb n 10 ≡ b → P (n / 10) → P n
        at true e p = short n (ltb-true n 10 e)
        at false e p = more n (ltb-false n 10 e) p

pub some_digit : (n : ℕ) → 1 ≤ length (decimal n)
some_digit = by_digits (λ n. 1 ≤ length (decimal n)) (λ n h. omega (arith, ap length (one_digit n h)))
    (λ n h p. omega (arith, ap length (more_digits n h), length-append (decimal (n / 10)) (last_digit n ∷ [])))
