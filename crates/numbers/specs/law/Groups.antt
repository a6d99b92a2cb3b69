-- "in groups of seven bits, lowest first, 80 added to all but the last": how a list is written (80 is hexadecimal, 128).
-- Assumes nothing.
use Rattle.std.specs.Prelude.{cond, List, [], ◌∷◌, ◌++◌, ℕ, zero, suc, ◌+◌, ◌/◌, ◌%◌, ltb, leb, ℤ, pos, length}
use Rattle.numbers.specs.law.Mapping.{unsigned_of}
use Rattle.numbers.specs.law.Told.{Told, gives, refuses, overlay}

-- the groups of m, of which at most `more` come before the last
abbrev pub groups_up_to : ℕ → ℕ → List ℕ
groups_up_to zero m = m ∷ []
groups_up_to (suc more) m = cond (ltb m 128) (m ∷ []) ((m % 128 + 128) ∷ groups_up_to more (m / 128))

-- ten groups hold 64 bits
unfoldable pub groups : ℕ → List ℕ
groups m = groups_up_to 9 m

abbrev pub encode : List ℤ → List ℕ
encode [] = []
encode (n ∷ list) = groups (unsigned_of n) ++ encode list

-- ---- writing: "4 do all bytes fit? If not nothing is written (place 0)."

unfoldable pub write_told : List ℤ → ℕ → Told
write_told list room = cond (leb (length (encode list)) room) (gives (pos (length (encode list)) ∷ [])) (refuses 4 0 0)

unfoldable pub written : List ℤ → List ℕ → List ℕ
written list bytes = cond (leb (length (encode list)) (length bytes)) (overlay (encode list) bytes) bytes
