-- "Reading into a lent list goes on while bytes are left".
-- Assumes nothing.
use Rattle.std.specs.Prelude.{cond, List, [], ◌∷◌, ℕ, zero, suc, ◌+◌, ◌*◌, ◌-◌, ltb, leb, eqb, ℤ, pos, length, drop, Result, Ok, Err}
use Rattle.numbers.specs.law.Mapping.{signed_of}
use Rattle.numbers.specs.law.Told.{Told, gives, refuses}
use Rattle.numbers.specs.declared.reader.Number.{Number}
use Rattle.numbers.specs.declared.reader.Wrong.{Wrong}

-- a number at the front of some bytes, or what is wrong there
abbrev pub NumberRead : Type 0
NumberRead = Result Number Wrong

abbrev pub whole : ℕ → ℕ → NumberRead
whole value used = Ok (record { value = value; used = used })

abbrev pub wrong : ℕ → ℕ → NumberRead
wrong number asked = Err (record { number = number; asked = asked })

-- ---- one number at the front of the bytes: its value and how many bytes it takes, or the question that has a "no" and how many bytes were asked for, the
-- last of them the one "at which the question had no yes"

-- a last byte after the first: "a last byte after the first not 0?"
abbrev pub last_byte : ℕ → NumberRead
last_byte b = cond (eqb b 0) (wrong 2 1) (whole b 1)

-- a group in front of a number that was read or refused: a byte more
abbrev pub in_front : ℕ → NumberRead → NumberRead
in_front group (Ok one) = whole (group + 128 * one.value) (1 + one.used)
in_front group (Err bad) = wrong bad.number (1 + bad.asked)

-- the bytes after the first, of which `more` may come before the tenth of the number: "1 is there one? 2 is a tenth byte 0 or 1"
abbrev pub later_bytes : ℕ → List ℕ → NumberRead
later_bytes more [] = wrong 1 1
later_bytes zero (b ∷ bytes) = cond (leb b 1) (last_byte b) (wrong 2 1)
later_bytes (suc more) (b ∷ bytes) = cond (ltb b 128) (last_byte b) (in_front (b - 128) (later_bytes more bytes))

unfoldable pub number_of : List ℕ → NumberRead
number_of [] = wrong 1 1
number_of (b ∷ bytes) = cond (ltb b 128) (whole b 1) (in_front (b - 128) (later_bytes 8 bytes))

-- ---- all numbers

-- how a reading ends: all bytes were read, or a question has a "no"; of 1 and 2 the place is "the index of the byte at which the question had no yes; where
-- bytes ran out it is the length of the data", of 3 "the number's first byte"
pub data Ending : Type 0 where
  all : Ending
  no : (number place : ℕ) → Ending

pub record Read : Type 0 where
  pub stored : List ℤ
  pub ended : Ending

abbrev pub stopped : Ending → Read
stopped e = record { stored = []; ended = e }

abbrev pub with_first : ℤ → Read → Read
with_first n r = record { stored = n ∷ r.stored; ended = r.ended }

-- what follows from the number at `place`, where `rest used` reads on after it, and of `asked` bytes the last is at place + asked - 1
abbrev pub after_number : ℕ → NumberRead → (ℕ → Read) → Read
after_number place (Ok one) rest = with_first (signed_of one.value) (rest one.used)
after_number place (Err bad) rest = stopped (no bad.number (place + bad.asked - 1))

-- the bytes from `place` on, with `room` places free in the list: "3 is a place free?"
abbrev pub read_from : ℕ → ℕ → List ℕ → Read
read_from zero place [] = stopped all
read_from zero place (b ∷ bytes) = stopped (no 3 place)
read_from (suc room) place [] = stopped all
read_from (suc room) place (b ∷ bytes) =
    after_number place (number_of (b ∷ bytes)) (λ used. read_from room (place + used) (drop used (b ∷ bytes)))

unfoldable pub read_of : List ℕ → ℕ → Read
read_of bytes room = read_from room 0 bytes

-- the count of numbers, or the refusal
abbrev pub end_told : Ending → ℕ → Told
end_told all count = gives (pos count ∷ [])
end_told (no number place) count = refuses number 0 place

unfoldable pub read_told : Read → Told
read_told r = end_told r.ended (length r.stored)
