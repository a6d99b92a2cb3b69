-- The numbers of a list, counted and placed one after the other: what is done, and the encoding of what is left, make up the whole encoding.
-- Assumes nothing.
use Rattle.std.specs.Prelude.{Some, None}
use mathlib.Core.Path.{◌≡◌, refl, ap, ◌∙◌}
use mathlib.Core.Bool.{Bool, true, false, cond}
use mathlib.Core.List.{List, [], ◌∷◌, ◌++◌}
use Prim.Native.Nat.{ℕ, ◌+◌, ◌-◌, ◌≤◌, ◌<◌}
use native.Mathlib.Omega.{arith}
use borrow.Author.Tests.{le-leb, lt-leb, leb-true, leb-false}
use lib.IntN.{ℤ, pos}
use lib.Dec.{leb}
use lib.ListN.{length, get_or, drop, length-append, drop_of_length-le}
use lib.Seq.{sets}
use Rattle.numbers.specs.law.Told.{gives, refuses}
use Rattle.numbers.specs.inside.OverlayLaws.{overlay_sets}
use Rattle.numbers.specs.inside.Pieces.{drop_next, Placing, place_turn}
use Rattle.numbers.specs.law.Groups.{groups, encode, write_told, written}
use Rattle.numbers.specs.inside.GroupLaws.{size_of}
use Rattle.numbers.specs.law.Mapping.{unsigned_of}

-- the groups of the number at i
abbrev pub groups_at : List ℤ → ℕ → List ℕ
groups_at list i = groups (unsigned_of (get_or list i (pos 0)))

encode_from : (list : List ℤ) (i : ℕ) → i < length list → encode (drop i list) ≡ groups_at list i ++ encode (drop (i + 1) list)
encode_from list i h = rw (drop_next list i (pos 0))

length_from : (list : List ℤ) (i : ℕ) → i < length list
    → length (encode (drop i list)) ≡ length (groups_at list i) + length (encode (drop (i + 1) list))
length_from list i h = ap length (encode_from list i h) ∙ length-append (groups_at list i) (encode (drop (i + 1) list))

encode_past : (list : List ℤ) (i : ℕ) → length list ≤ i → encode (drop i list) ≡ []
encode_past list i h = rw (drop_of_length-le list h)

-- ---- counting

-- the first i numbers take `total` bytes, for which there is room
pub record Sizing (list : List ℤ) (room total i : ℕ) : Type 0 where
  pub upto : i ≤ length list
  pub held : total ≤ room
  pub sum : total + length (encode (drop i list)) ≡ length (encode list)

module _ {list : List ℤ} {room total i w : ℕ} (s : Sizing list room total i) (h : i < length list) (e : w ≡ length (groups_at list i)) where
  pub size_over : room - total < w → None ≡ size_of list room
  unfolding size_of
  size_over k = rw (lt-leb (length (encode list)) room (omega (arith, s.held, s.sum, length_from list i h)))

pub size_end : {list : List ℤ} {room total i : ℕ} → Sizing list room total i → length list ≤ i → Some total ≡ size_of list room
unfolding size_of
size_end {list} {room} {total} {i} s h =
    let e : total ≡ length (encode list) = omega (arith, s.sum, ap length (encode_past list i h)) in
    rw (e, le-leb (length (encode list)) room (omega (arith, s.held)))

-- ---- placing

-- what is to be placed from `at` on is the numbers from i on
pub record Filling (list : List ℤ) (old bytes : List ℕ) (at i : ℕ) : Type 0 where
  pub upto : i ≤ length list
  pub placed : Placing old bytes 0 (encode list) at (encode (drop i list))

module _ {list : List ℤ} {old bytes : List ℕ} {at i : ℕ} (f : Filling list old bytes at i) where
  pub fill_turn : i < length list → {next : List ℕ} {after : ℕ} → next ≡ sets bytes at (groups_at list i)
      → after ≡ at + length (groups_at list i) → Filling list old next after (i + 1)
  fill_turn h e d = record { upto = omega arith; placed = place_turn f.placed (groups_at list i) _ (encode_from list i h) e d }

-- ---- writing

module _ (list : List ℤ) (bytes : List ℕ) where
  -- all bytes fit
  pub record Fitting (n : ℕ) : Type 0 where
    pub fits : length (encode list) ≤ length bytes
    pub count : n ≡ length (encode list)

  pub fitting : {n : ℕ} → size_of list (length bytes) ≡ Some n → Fitting n
  unfolding size_of
  fitting {n} e = go (leb (length (encode list)) (length bytes)) refl e
    where
      go : (b : Bool) → leb (length (encode list)) (length bytes) ≡ b → cond b (Some (length (encode list))) None ≡ Some n → Fitting n
      go true t e = record { fits = leb-true _ _ t; count = cc }
      go false t e = let z : ◌≡◌ {A = ℕ} 0 1 = cc in let f : ⊥ = omega arith in absurd f

  pub too_long : size_of list (length bytes) ≡ None → length bytes < length (encode list)
  unfolding size_of
  too_long e = go (leb (length (encode list)) (length bytes)) refl e
    where
      go : (b : Bool) → leb (length (encode list)) (length bytes) ≡ b → cond b (Some (length (encode list))) None ≡ None
          → length bytes < length (encode list)
      go true t e = let z : ◌≡◌ {A = ℕ} 0 1 = cc in let f : ⊥ = omega arith in absurd f
      go false t e = leb-false _ _ t

  pub told_fits : {n : ℕ} → Fitting n → gives (pos n ∷ []) ≡ write_told list (length bytes)
  unfolding write_told
  told_fits f = rw (le-leb _ _ f.fits, f.count)

  pub written_fits : {n : ℕ} → Fitting n → sets bytes 0 (encode list) ≡ written list bytes
  unfolding written
  written_fits f = rw (le-leb _ _ f.fits) (overlay_sets (encode list) bytes f.fits)

  pub told_over : length bytes < length (encode list) → refuses 4 0 0 ≡ write_told list (length bytes)
  unfolding write_told
  told_over h = rw (lt-leb _ _ h)

  pub written_over : length bytes < length (encode list) → bytes ≡ written list bytes
  unfolding written
  written_over h = rw (lt-leb _ _ h)

-- both, by what was counted
pub ruleset fits_or_not = (fitting, too_long, told_fits, written_fits, told_over, written_over)
