-- What the other side is told: a number, and values at the front of `out`.
-- Assumes nothing.
use Rattle.std.specs.Prelude.{Bool, cond, List, leb, ℤ, pos, negsuc, length}
use Rattle.numbers.specs.law.Told.{Told, overlay}

-- `out` has at least 6 places
abbrev pub enough : List ℤ → Bool
enough out = leb 6 (length out)

-- what is done where `out` is long enough, and what stays where it is not
abbrev pub if_room {ℓ} : {A : Type ℓ} → List ℤ → A → A → A
if_room out done stays = cond (enough out) done stays

-- the number, or -1
abbrev pub code_of : List ℤ → Told → ℤ
code_of out t = if_room out (pos t.number) (negsuc 0)

abbrev pub out_of : List ℤ → Told → List ℤ
out_of out t = if_room out (overlay t.values out) out
