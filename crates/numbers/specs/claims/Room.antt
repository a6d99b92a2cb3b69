-- How much room is enough, as include/gasplan.h has it: "A list of n numbers always fits into n * 10 bytes, and n bytes never hold more than n numbers."
-- It is carried by two counts: a number has at most ten groups, and takes at least one byte.
-- Assumes nothing.
use Rattle.std.specs.Prelude.{◌≡◌, true, List, [], ◌∷◌, ℕ, zero, suc, ◌+◌, ◌*◌, ◌≤◌, leb, ℤ, pos, length, drop, Ok, Err}
use Rattle.std.proofs.Common.{ap, ◌∙◌, arith, le-leb, length-drop, length-append}
use Rattle.numbers.specs.law.Told.{Told, gives, refuses, overlay}
use Rattle.numbers.specs.law.Mapping.{unsigned_of}
use Rattle.numbers.specs.law.Groups.{groups_up_to, groups, encode, write_told, written}
use Rattle.numbers.specs.law.Reading.{number_of, Ending, all, no, after_number, read_from, read_of, end_told, read_told, NumberRead}
use Rattle.numbers.specs.inside.GroupLaws.{most_groups}
use Rattle.numbers.specs.inside.ReadingBounds.{Within, within_number}
use Rattle.numbers.specs.law.CodecTold.{Count}
use Rattle.numbers.specs.law.Question.{no_at}
use Rattle.numbers.specs.claims.CallsRoundTrip.{WriteCall, ReadCall, no_count, took, count_answered}

-- ---- writing

-- "A list of n numbers always fits into n * 10 bytes"
pub list_fits : (list : List ℤ) → length (encode list) ≤ 10 * length list
unfolding groups
list_fits [] = omega arith
list_fits (n ∷ list) =
    omega (arith, length-append (groups_up_to 9 (unsigned_of n)) (encode list), most_groups 9 (unsigned_of n), list_fits list)

module _ (list : List ℤ) (room : ℕ) (h : 10 * length list ≤ room) where
  fits : leb (length (encode list)) room ≡ true
  fits = le-leb (length (encode list)) room (omega (arith, list_fits list))

  -- so the writer gives a count where there are ten bytes for each number
  pub told_fits : write_told list room ≡ gives (pos (length (encode list)) ∷ [])
  unfolding write_told
  told_fits = rw fits

-- of the call: with ten bytes for each number it answers a count, and the bytes begin with those of the list
pub write_fits : {list : List ℤ} {bytes left : List ℕ} {answer : Count} → 10 * length list ≤ length bytes → WriteCall list bytes answer left
    → (answer ≡ Ok (length (encode list))) × (left ≡ overlay (encode list) bytes)
unfolding written
write_fits {list = list} {bytes = bytes} {answer = answer} h w =
    (count_answered answer (length (encode list)) (w.answered ∙ told_fits list (length bytes) h), w.lent ∙ rw (fits list (length bytes) h))

-- ---- reading

-- the numbers that are stored are no more than the bytes
stored_within : (room place : ℕ) (bytes : List ℕ) → length (read_from room place bytes).stored ≤ length bytes
stored_within zero place [] = omega arith
stored_within zero place (b ∷ bytes) = omega arith
stored_within (suc room) place [] = omega arith
stored_within (suc room) place (b ∷ bytes) = go (λ p l. stored_within room p l) (number_of (b ∷ bytes)) (within_number (b ∷ bytes))
  where
    go : ((p : ℕ) (l : List ℕ) → length (read_from room p l).stored ≤ length l) → (r : NumberRead) → Within (suc (length bytes)) r
        → length (after_number place r (λ used. read_from room (place + used) (drop used (b ∷ bytes)))).stored ≤ suc (length bytes)
    go again (Ok one) w = omega (arith, again (place + one.used) (drop one.used (b ∷ bytes)), length-drop one.used (b ∷ bytes), w.0, w.1)
    go again (Err bad) w = omega arith

-- "n bytes never hold more than n numbers"
pub bytes_hold : (bytes : List ℕ) (room : ℕ) → length (read_of bytes room).stored ≤ length bytes
unfolding read_of
bytes_hold bytes room = stored_within room 0 bytes

-- of the call: a count that it answers is no more than the count of bytes
pub read_count : {bytes : List ℕ} {list left : List ℤ} {n : ℕ} → ReadCall bytes list (Ok n) left → n ≤ length bytes
read_count {bytes = bytes} {list = list} {n = n} r =
    omega (arith, (took (read_of bytes (length list)) n r.answered).0, bytes_hold bytes (length list))

-- a reading that has a place for each byte ends in no 3
abbrev NotFull : Ending → Type 0
NotFull all = Unit {0}
NotFull (no number place) = number ≤ 2

ends_not_full : (room place : ℕ) (bytes : List ℕ) → length bytes ≤ room → NotFull (read_from room place bytes).ended
ends_not_full zero place [] h = tt
ends_not_full zero place (b ∷ bytes) h = omega arith
ends_not_full (suc room) place [] h = tt
ends_not_full (suc room) place (b ∷ bytes) h = go (λ p l. ends_not_full room p l) (number_of (b ∷ bytes)) (within_number (b ∷ bytes))
  where
    go : ((p : ℕ) (l : List ℕ) → length l ≤ room → NotFull (read_from room p l).ended) → (r : NumberRead) → Within (suc (length bytes)) r
        → NotFull (after_number place r (λ used. read_from room (place + used) (drop used (b ∷ bytes)))).ended
    go again (Ok one) w = again (place + one.used) (drop one.used (b ∷ bytes)) (omega (arith, length-drop one.used (b ∷ bytes), w.0, w.1))
    go again (Err bad) w = w.0

-- of the call: a list with a place for each byte is never full: it does not refuse by 3
pub never_full : {bytes : List ℕ} {list left : List ℤ} {number place : ℕ} → length bytes ≤ length list
    → ReadCall bytes list (Err (no_at number 0 place)) left → ¬ (number ≡ 3)
unfolding read_told read_of
never_full {bytes = bytes} {list = list} {number = number} {place = place} h r =
    go (read_from (length list) 0 bytes).ended (ends_not_full (length list) 0 bytes h) r.answered
  where
    go : (d : Ending) → NotFull d → refuses number 0 place ≡ end_told d (length (read_from (length list) 0 bytes).stored) → ¬ (number ≡ 3)
    go all w e full = no_count e
    go (no n p) w e full = let m = ap (λ (t : Told). t.number) e in omega (arith, w)
