-- Sums and counts over the indices 0 .. k - 1, the last term added last.
-- Assumes nothing.
use Rattle.std.specs.Prelude.{ℕ, zero, suc, ◌+◌, Bool, true, false, ℤ, pos, ◌+ℤ◌}

-- the sum of f 0 .. f (k - 1)
unfoldable pub sum : ℕ → (ℕ → ℤ) → ℤ
sum zero f = pos zero
sum (suc k) f = sum k f +ℤ f k

-- the same over ℕ
unfoldable pub sum_n : ℕ → (ℕ → ℕ) → ℕ
sum_n zero f = zero
sum_n (suc k) f = sum_n k f + f k

-- x where the test passes, and nothing where it fails
abbrev pub only : Bool → ℤ → ℤ
only true x = x
only false x = pos zero

abbrev pub only_n : Bool → ℕ → ℕ
only_n true x = x
only_n false x = zero

-- how many of 0 .. k - 1 are in w
unfoldable pub count : ℕ → (ℕ → Bool) → ℕ
count k w = sum_n k (λ i. only_n (w i) 1)
