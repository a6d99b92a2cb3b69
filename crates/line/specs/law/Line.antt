-- The program "prints one line": of what is told, `accepted` with the values or `refused` with the number and the values.
-- Assumes nothing.
use Rattle.std.specs.Prelude.{◌≡◌, cond, List, [], ◌∷◌, ◌++◌, ℕ, ◌≤◌, eqb, leb, ℤ, pos, length, take}
use Rattle.numbers.specs.law.Told.{Told, overlay}
use Rattle.line.specs.law.Decimal.{signed}

-- `accepted`
abbrev pub accepted : List ℕ
accepted = 97 ∷ 99 ∷ 99 ∷ 101 ∷ 112 ∷ 116 ∷ 101 ∷ 100 ∷ []

-- `refused`
abbrev pub refused : List ℕ
refused = 114 ∷ 101 ∷ 102 ∷ 117 ∷ 115 ∷ 101 ∷ 100 ∷ []

-- each number after a space, 32
abbrev pub spaced : List ℤ → List ℕ
spaced [] = []
spaced (x ∷ list) = (32 ∷ signed x) ++ spaced list

-- a word, numbers, and the end of the line, 10
unfoldable pub sentence_of : List ℕ → List ℤ → List ℕ
sentence_of word list = word ++ (spaced list ++ (10 ∷ []))

-- the number 0 tells that no question has a "no": `accepted T0 T1 T2 T3 T4 T5`, or `refused NUMBER STEP PLACE`
abbrev pub line_of : Told → List ℕ
line_of t = cond (eqb t.number 0) (sentence_of accepted t.values) (sentence_of refused (pos t.number ∷ t.values))

-- ---- a lent line

-- room for every line
abbrev pub line_bytes : ℕ
line_bytes = 160

-- what is done where the lent line has that room, and what stays where it has not
abbrev pub if_long {ℓ} : {A : Type ℓ} → List ℕ → A → A → A
if_long line done stays = cond (leb line_bytes (length line)) done stays

-- the count of bytes that is answered, and the lent line then
abbrev pub count_in : List ℕ → List ℕ → ℕ
count_in line text = if_long line (length text) 0

abbrev pub line_with : List ℕ → List ℕ → List ℕ
line_with line text = if_long line (overlay text line) line

-- n counts places of the line from its front: what a caller shows to hand on `&line[..n]`
abbrev pub Counts : ℕ → List ℕ → Type 0
Counts n line = (n ≤ length line) × (n ≡ length (take n line))
