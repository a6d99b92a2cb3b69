-- "All numbers are written in decimal": the digits as they are printed, the highest first.
-- Assumes nothing.
use Rattle.std.specs.Prelude.{cond, List, [], ◌∷◌, ◌++◌, ℕ, zero, suc, ◌+◌, ◌/◌, ◌%◌, ltb, ℤ, pos, negsuc}

-- the character of the last digit: `0` to `9` are 48 to 57
abbrev pub last_digit : ℕ → ℕ
last_digit n = 48 + n % 10

-- the digits of n, where at most `more` come before the last: those of n / 10, if n has more than one, and then the last
abbrev pub digits_up_to : ℕ → ℕ → List ℕ
digits_up_to zero n = last_digit n ∷ []
digits_up_to (suc more) n = let higher = digits_up_to more (n / 10) in cond (ltb n 10) [] higher ++ (last_digit n ∷ [])

-- a number has no more digits before the last than it says itself
unfoldable pub decimal : ℕ → List ℕ
decimal n = digits_up_to n n

-- with a sign, 45, where it is negative: `negsuc n` is -(n + 1)
abbrev pub signed : ℤ → List ℕ
signed (pos n) = decimal n
signed (negsuc n) = 45 ∷ decimal (suc n)
