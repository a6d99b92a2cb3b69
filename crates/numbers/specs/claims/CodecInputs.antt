-- What a list and a byte string are to the round trip: signed 64-bit numbers, and bytes.
-- Assumes nothing.
use Rattle.std.specs.Prelude.{List, [], ◌∷◌, ℕ, ◌^◌, ◌<◌, ℤ}
use Rattle.std.specs.Int.Signed.{mag}

-- every number is a signed 64-bit number
abbrev pub Numbers : List ℤ → Type 0
Numbers [] = Unit {0}
Numbers (n ∷ list) = (mag n < 2 ^ 63) × Numbers list

-- every item is a byte
abbrev pub Bytes : List ℕ → Type 0
Bytes [] = Unit {0}
Bytes (b ∷ bytes) = (b < 256) × Bytes bytes
