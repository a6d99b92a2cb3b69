-- The numbers of the bytes, stored one after the other in the lent list: what is stored, and what is still read, make up the whole reading.
-- Assumes nothing.
use mathlib.Core.Path.{◌≡◌, ap, ◌∙◌}
use mathlib.Core.List.{List}
use Prim.Native.Nat.{ℕ, zero, suc, ◌+◌, ◌-◌, ◌≤◌, ◌<◌}
use native.Mathlib.Omega.{arith}
use lib.IntN.{ℤ}
use lib.ListN.{length, drop, set, length-drop, drop_of_length-le}
use lib.Seq.{drop-cons, drop-drop}
use Rattle.numbers.specs.law.Mapping.{signed_of}
use Rattle.numbers.specs.law.Told.{overlay}
use Rattle.numbers.specs.inside.OverlayLaws.{overlay_sets}
use Rattle.numbers.specs.inside.Pieces.{Placing, placing, place_one, place_end}
use Rattle.numbers.specs.inside.ReadingBounds.{used_some}
use Rattle.numbers.specs.law.Reading.{number_of, Read, Ending, all, no, stopped, with_first}
use Rattle.numbers.specs.law.Reading.{after_number, read_from, read_of, read_told, end_told, whole, wrong}

-- ---- what is read from `at` on, by what stands there

pub read_end : (room at : ℕ) (bytes : List ℕ) → length bytes ≤ at → read_from room at (drop at bytes) ≡ stopped all
read_end zero at bytes h = rw (drop_of_length-le bytes h)
read_end (suc room) at bytes h = rw (drop_of_length-le bytes h)

pub read_full : (at : ℕ) (bytes : List ℕ) → at < length bytes → read_from 0 at (drop at bytes) ≡ stopped (no 3 at)
read_full at bytes h = rw (drop-cons bytes at 0 h)

pub read_number : (room at : ℕ) (bytes : List ℕ) → at < length bytes
    → read_from (suc room) at (drop at bytes)
    ≡ after_number at (number_of (drop at bytes)) (λ used. read_from room (at + used) (drop used (drop at bytes)))
read_number room at bytes h = rw (drop-cons bytes at 0 h)

-- ---- the loop over the numbers

-- what is to be stored from `count` on is what is read from `at` on
pub record Storing (bytes : List ℕ) (old list : List ℤ) (at count : ℕ) : Type 0 where
  pub inside : at ≤ length bytes
  pub upto : count ≤ length old
  pub ended : (read_of bytes (length old)).ended ≡ (read_from (length old - count) at (drop at bytes)).ended
  pub placed : Placing old list 0 (read_of bytes (length old)).stored count (read_from (length old - count) at (drop at bytes)).stored

pub storing : (bytes : List ℕ) (old : List ℤ) → Storing bytes old old 0 0
unfolding read_of
storing bytes old =
    let e : length old - 0 ≡ length old = omega arith in
    record { inside = omega arith; upto = omega arith; ended = rw e; placed = rw e (placing _ _ _) }

-- a reading that stops at `at`
pub record Stopped (bytes : List ℕ) (old list : List ℤ) (e : Ending) (count : ℕ) : Type 0 where
  pub told : end_told e count ≡ read_told (read_of bytes (length old))
  pub stored : list ≡ overlay (read_of bytes (length old)).stored old

module _ {bytes : List ℕ} {old list : List ℤ} {at count : ℕ} (s : Storing bytes old list at count) where
  store_stop : {e : Ending} → read_from (length old - count) at (drop at bytes) ≡ stopped e → Stopped bytes old list e count
  unfolding read_told
  store_stop {e} r =
      let d : (read_of bytes (length old)).ended ≡ e = s.ended ∙ ap (λ (x : Read). x.ended) r in
      let p = place_end s.placed (ap (λ (x : Read). x.stored) r) in
      let n : length (read_of bytes (length old)).stored ≡ count = omega (arith, p.0) in
      record { told = rw (d, n); stored = p.1 ∙ overlay_sets (read_of bytes (length old)).stored old (omega (arith, n, s.upto)) }

  pub store_end : length bytes ≤ at → Stopped bytes old list all count
  store_end h = store_stop (read_end (length old - count) at bytes h)

  pub store_full : at < length bytes → length list ≤ count → Stopped bytes old list (no 3 at) count
  store_full h k =
      let e : length old - count ≡ 0 = omega (arith, s.placed.kept) in
      store_stop (rw e (read_full at bytes h))

  -- one number more to read
  read_one : at < length bytes → count < length list
      → read_from (length old - count) at (drop at bytes)
      ≡ after_number at (number_of (drop at bytes)) (λ used. read_from (length old - (count + 1)) (at + used) (drop used (drop at bytes)))
  read_one h k =
      let e : length old - count ≡ suc (length old - (count + 1)) = omega (arith, s.placed.kept) in
      rw e (read_number (length old - (count + 1)) at bytes h)

  pub store_no : {n m : ℕ} → at < length bytes → count < length list → number_of (drop at bytes) ≡ wrong n m
      → Stopped bytes old list (no n (at + m - 1)) count
  store_no h k e = store_stop (read_one h k ∙ rw e)

  pub store_turn : {v u : ℕ} → at < length bytes → count < length list → number_of (drop at bytes) ≡ whole v u
      → Storing bytes old (set list count (signed_of v)) (at + u) (count + 1)
  store_turn {v} {u} h k e =
      let rest = read_from (length old - (count + 1)) (at + u) (drop (at + u) bytes) in
      let r : read_from (length old - count) at (drop at bytes) ≡ with_first (signed_of v) rest = read_one h k ∙ rw (e, drop-drop u at bytes) in
      record {
        inside = omega (arith, used_some (drop at bytes) e, length-drop at bytes);
        upto = omega (arith, s.placed.kept);
        ended = s.ended ∙ ap (λ (x : Read). x.ended) r;
        placed = place_one s.placed (ap (λ (x : Read). x.stored) r);
      }

-- the loop's beginning, and its ends but the one at a number that is refused
pub ruleset stored = (storing, store_end, store_full)
