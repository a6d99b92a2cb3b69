-- A one shifted by n places: the set of item n, and by one less the set of the first n items.
-- Assumes nothing.
use Rattle.std.specs.Prelude.{◌≡◌, ℕ, ◌*◌, ◌-◌, ◌%◌, ◌^◌, ◌<◌}
use Rattle.std.proofs.Common.{mod-eq_of_lt, one-mul, arith}
use Rattle.std.proofs.Math.Pow.{pow-lt}

-- it does not leave the word
pub shifted : (n : ℕ) → n < 64 → 1 * 2 ^ n % 18446744073709551616 ≡ 2 ^ n
shifted n h = let p : 2 ^ n < 2 ^ 64 = pow-lt h in rw (one-mul, mod-eq_of_lt p)

-- nor do the first n items
pub items_fit : (n : ℕ) → n < 62 → 2 ^ n - 1 < 2 ^ 63
items_fit n h = let p : 2 ^ n < 2 ^ 62 = pow-lt h in omega arith
