-- "A number n becomes 2n, or -2n - 1 if negative", and back.
-- Assumes nothing.
use Rattle.std.specs.Prelude.{cond, ℕ, ◌+◌, ◌*◌, ◌/◌, ◌%◌, eqb, ℤ, pos, negsuc}

-- `negsuc n` is -(n + 1), and -2 × -(n + 1) - 1 = 2n + 1
abbrev pub unsigned_of : ℤ → ℕ
unsigned_of (pos n) = 2 * n
unsigned_of (negsuc n) = 2 * n + 1

abbrev pub signed_of : ℕ → ℤ
signed_of m = cond (eqb (m % 2) 0) (pos (m / 2)) (negsuc (m / 2))
