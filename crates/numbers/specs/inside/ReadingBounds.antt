-- Bounds of a reading: a number takes a byte at least, counts are within the room, places are bytes or their end, and the numbers of refusals are 1 to 3.
-- Assumes nothing.
use Rattle.std.specs.Prelude.{◌≡◌, Bool, true, false, cond, List, [], ◌∷◌, ℕ, zero, suc, ◌+◌, ◌-◌, ◌≤◌, ltb, leb, eqb, pos, get_or}
use Rattle.std.specs.Prelude.{drop, Ok, Err}
use Rattle.std.proofs.Math.Path.{ap, subst}
use native.Mathlib.Omega.{arith}
use Rattle.std.proofs.Math.IntN.{nat_abs}
use Rattle.std.proofs.Math.ListN.{length}
use Rattle.std.proofs.Common.{length-drop}
use Rattle.numbers.specs.law.Told.{Told, gives, refuses}
use Rattle.numbers.specs.law.Reading.{number_of, later_bytes, last_byte, in_front, Ending, all, no}
use Rattle.numbers.specs.law.Reading.{after_number, read_from, read_of, end_told, read_told, NumberRead, whole, wrong}

-- ---- a number takes at least one byte and no more than there are; its refusal is 1 or 2, with at least one asked for and at most one more than there are

abbrev pub Within : ℕ → NumberRead → Type 0
Within n (Ok one) = (1 ≤ one.used) × (one.used ≤ n)
Within n (Err bad) = (bad.number ≤ 2) × (bad.asked ≤ suc n) × (1 ≤ bad.number) × (1 ≤ bad.asked)

within_front : (group n : ℕ) (r : NumberRead) → Within n r → Within (suc n) (in_front group r)
within_front group n (Ok one) w = (omega arith, omega (arith, w.1))
within_front group n (Err bad) w = (w.0, omega (arith, w.1), w.2, omega arith)

within_last : (b n : ℕ) → Within (suc n) (last_byte b)
within_last b n = go (eqb b 0)
  where
    go : (t : Bool) → Within (suc n) (cond t (wrong 2 1) (whole b 1))
    go true = (omega arith, omega arith, omega arith, omega arith)
    go false = (omega arith, omega arith)

within_later : (more : ℕ) (bytes : List ℕ) → Within (length bytes) (later_bytes more bytes)
within_later zero [] = (omega arith, omega arith, omega arith, omega arith)
within_later zero (b ∷ bytes) = go (leb b 1)
  where
    go : (t : Bool) → Within (suc (length bytes)) (cond t (last_byte b) (wrong 2 1))
    go true = within_last b (length bytes)
    go false = (omega arith, omega arith, omega arith, omega arith)
within_later (suc more) [] = (omega arith, omega arith, omega arith, omega arith)
within_later (suc more) (b ∷ bytes) = go (within_later more bytes) (ltb b 128)
  where
    go : Within (length bytes) (later_bytes more bytes) → (t : Bool)
        → Within (suc (length bytes)) (cond t (last_byte b) (in_front (b - 128) (later_bytes more bytes)))
    go w true = within_last b (length bytes)
    go w false = within_front (b - 128) (length bytes) (later_bytes more bytes) w

pub within_number : (bytes : List ℕ) → Within (length bytes) (number_of bytes)
unfolding number_of
within_number [] = (omega arith, omega arith, omega arith, omega arith)
within_number (b ∷ bytes) = go (ltb b 128)
  where
    go : (t : Bool) → Within (suc (length bytes)) (cond t (whole b 1) (in_front (b - 128) (later_bytes 8 bytes)))
    go true = (omega arith, omega arith)
    go false = within_front (b - 128) (length bytes) (later_bytes 8 bytes) (within_later 8 bytes)

pub used_some : (bytes : List ℕ) {v u : ℕ} → number_of bytes ≡ whole v u → (1 ≤ u) × (u ≤ length bytes)
used_some bytes e = subst (Within (length bytes)) e (within_number bytes)

pub asked_some : (bytes : List ℕ) {n k : ℕ} → number_of bytes ≡ wrong n k → (1 ≤ k) × (k ≤ suc (length bytes))
asked_some bytes e = let w = subst (Within (length bytes)) e (within_number bytes) in (w.3, w.1)

-- ---- readings

-- an ending's number is 1 to 3, and its place is one of the bytes or their end
abbrev Placed : ℕ → Ending → Type 0
Placed end all = Unit {0}
Placed end (no number at) = (number ≤ 3) × (at ≤ end) × (1 ≤ number)

module _ (end : ℕ) where
  read_placed : (room place : ℕ) (bytes : List ℕ) → place + length bytes ≤ end → Placed end (read_from room place bytes).ended
  read_placed zero place [] h = tt
  read_placed zero place (b ∷ bytes) h = (omega arith, omega arith, omega arith)
  read_placed (suc room) place [] h = tt
  read_placed (suc room) place (b ∷ bytes) h = go (λ p l. read_placed room p l) (number_of (b ∷ bytes)) (within_number (b ∷ bytes))
    where
      go : ((p : ℕ) (l : List ℕ) → p + length l ≤ end → Placed end (read_from room p l).ended) → (r : NumberRead) → Within (suc (length bytes)) r
          → Placed end (after_number place r (λ used. read_from room (place + used) (drop used (b ∷ bytes)))).ended
      go again (Ok one) s = again (place + one.used) (drop one.used (b ∷ bytes)) (omega (arith, length-drop one.used (b ∷ bytes), s.1))
      go again (Err bad) s = (omega (arith, s.0), omega (arith, s.1, s.3), s.2)

count_room : (room place : ℕ) (bytes : List ℕ) → length (read_from room place bytes).stored ≤ room
count_room zero place [] = omega arith
count_room zero place (b ∷ bytes) = omega arith
count_room (suc room) place [] = omega arith
count_room (suc room) place (b ∷ bytes) = go (λ p l. count_room room p l) (number_of (b ∷ bytes))
  where
    go : ((p : ℕ) (l : List ℕ) → length (read_from room p l).stored ≤ room) → (r : NumberRead)
        → length (after_number place r (λ used. read_from room (place + used) (drop used (b ∷ bytes)))).stored ≤ suc room
    go again (Ok one) = omega (arith, again (place + one.used) (drop one.used (b ∷ bytes)))
    go again (Err bad) = omega arith

-- ---- what is told of a reading

module _ (bytes : List ℕ) (room : ℕ) where
  pub count_within : (count : ℕ) → gives (pos count ∷ []) ≡ read_told (read_of bytes room) → count ≤ room
  unfolding read_told read_of
  count_within count e = go (read_from room 0 bytes).ended e
    where
      go : (d : Ending) → gives (pos count ∷ []) ≡ end_told d (length (read_from room 0 bytes).stored) → count ≤ room
      go all e = let v = ap (λ (t : Told). nat_abs (get_or t.values 0 (pos 0))) e in omega (arith, count_room room 0 bytes)
      go (no n p) e = let v = ap (λ (t : Told). length t.values) e in omega arith

  -- what is told tells how it ended
  pub read_no : {n s p : ℕ} → refuses n s p ≡ read_told (read_of bytes room) → (read_of bytes room).ended ≡ no n p
  unfolding read_told
  read_no {n} {s} {p} e = go (read_of bytes room).ended e
    where
      go : (d : Ending) → refuses n s p ≡ end_told d (length (read_of bytes room).stored) → d ≡ no n p
      go all e = let v = ap (λ (t : Told). length t.values) e in let f : ⊥ = omega arith in absurd f
      go (no m q) e =
          let a : n ≡ m = ap (λ (t : Told). t.number) e in
          let b : p ≡ q = ap (λ (t : Told). nat_abs (get_or t.values 1 (pos 0))) e in
          rw (a, b)

  pub refusal_within : (number place : ℕ) → refuses number 0 place ≡ read_told (read_of bytes room)
      → (number ≤ 3) × (place ≤ length bytes) × (1 ≤ number)
  unfolding read_of
  refusal_within number place e = subst (Placed (length bytes)) (read_no e) (read_placed (length bytes) room 0 bytes (omega arith))
