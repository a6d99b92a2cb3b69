-- A list written piece by piece: what was stored reads back and other places are as before; one piece after another makes up the whole; and rows that
-- stand one after the other are found by their index.
-- Assumes nothing.
use Rattle.std.specs.Prelude.{◌≡◌, refl, List, [], ◌∷◌, ◌++◌, ℕ, zero, suc, ◌+◌, ◌-◌, ◌*◌, ◌≤◌, ◌<◌, min, length, get_or, take, drop, set}
use Rattle.std.proofs.Common.{ap, sym, ◌∙◌, append_assoc, add-one, arith, length-set}
use Rattle.std.proofs.Common.{length-append, drop-cons, get_or-set_same, get_or-set_other, get_or-append-add, drop_at}
use Rattle.std.proofs.Math.ListN.{get_or-append}
use Rattle.std.proofs.lemmas.List.Edits.{sets}
use Rattle.std.proofs.Math.Seq.{length-sets, set_out, take-append_seam}
use Rattle.numbers.specs.law.Items.{over}
use Rattle.numbers.specs.inside.OverlayLaws.{sets_append}

-- ---- what stands where, after xs were stored from i on

module _ {ℓ} {A : Type ℓ} where
  pub stored_before : (old : List A) (i : ℕ) (xs : List A) (j : ℕ) (d : A) → j < i → get_or (sets old i xs) j d ≡ get_or old j d
  stored_before old i [] j d h = refl
  stored_before old i (x ∷ xs) j d h =
      stored_before (set old i x) (suc i) xs j d (omega (arith, h)) ∙ get_or-set_other old i j x d (λ e. let f : ⊥ = omega (arith, h, e) in f)

  pub stored_after : (old : List A) (i : ℕ) (xs : List A) (j : ℕ) (d : A) → i + length xs ≤ j → get_or (sets old i xs) j d ≡ get_or old j d
  stored_after old i [] j d h = refl
  stored_after old i (x ∷ xs) j d h =
      stored_after (set old i x) (suc i) xs j d (omega (arith, h)) ∙ get_or-set_other old i j x d (λ e. let f : ⊥ = omega (arith, h, e) in f)

  pub stored_at : (old : List A) (i : ℕ) (xs : List A) (k : ℕ) (d : A) → k < length xs → i + k < length old
      → get_or (sets old i xs) (i + k) d ≡ get_or xs k d
  stored_at old i [] k d h r = let f : ⊥ = omega (arith, h) in absurd f
  stored_at old i (x ∷ xs) zero d h r =
      let e : i + 0 ≡ i = omega arith in
      rw e (stored_before (set old i x) (suc i) xs i d (omega arith) ∙ get_or-set_same old i x d (omega (arith, r)))
  stored_at old i (x ∷ xs) (suc k) d h r =
      let e : i + suc k ≡ suc i + k = omega arith in
      rw e (stored_at (set old i x) (suc i) xs k d (omega (arith, h)) (omega (arith, r, length-set old i x)))

  -- past the end nothing is stored
  pub stored_none : (old : List A) (i : ℕ) (xs : List A) → min (i + length xs) (length old) ≤ i → sets old i xs ≡ old
  stored_none old i [] h = refl
  stored_none old i (x ∷ xs) h = rw (set_out old i x (omega (arith, h))) (stored_none old (suc i) xs (omega (arith, h)))

-- ---- one piece after another

pub drop_next {ℓ} : {A : Type ℓ} (xs : List A) (i : ℕ) (d : A) → i < length xs → drop i xs ≡ get_or xs i d ∷ drop (i + 1) xs
drop_next xs i d h = rw (add-one, drop-cons xs i d)

-- what is placed, and `rest` that is still to be placed from `at` on, make up `whole` placed from `start` on
pub record Placing {ℓ} {A : Type ℓ} (old now : List A) (start : ℕ) (whole : List A) (at : ℕ) (rest : List A) : Type ℓ where
  pub kept : length now ≡ length old
  pub ends : at + length rest ≡ start + length whole
  pub result : sets now at rest ≡ sets old start whole

pub placing {ℓ} : {A : Type ℓ} (old : List A) (start : ℕ) (whole : List A) → Placing old old start whole start whole
placing old start whole = record { kept = refl; ends = refl; result = refl }

module _ {ℓ} {A : Type ℓ} {old now : List A} {start : ℕ} {whole : List A} {at : ℕ} {rest : List A} (p : Placing old now start whole at rest) where
  module _ (piece left : List A) (e : rest ≡ piece ++ left) where
    sized : length rest ≡ length piece + length left
    sized = ap length e ∙ length-append piece left

    pub place_room : start + length whole ≤ length old → at + length piece ≤ length now
    place_room h = omega (arith, h, p.kept, p.ends, sized)

    pub place_turn : {next : List A} {after : ℕ} → next ≡ sets now at piece → after ≡ at + length piece → Placing old next start whole after left
    place_turn {next} {after} n a = record {
      kept = ap length n ∙ length-sets now at piece ∙ p.kept;
      ends = omega (arith, a, p.ends, sized);
      result = rw (n, a) (sym (sets_append now at piece left)) ∙ ap (sets now at) (sym e) ∙ p.result;
    }

  pub place_end : rest ≡ [] → (at ≡ start + length whole) × (now ≡ sets old start whole)
  place_end e = (omega (arith, p.ends, ap length e), ap (sets now at) (sym e) ∙ p.result)

  -- where there is no more room the rest is left out
  pub place_full : min (at + length rest) (length old) ≤ at → now ≡ sets old start whole
  place_full h = sym (stored_none now at rest (omega (arith, h, p.kept))) ∙ p.result

-- one item
pub place_one {ℓ} : {A : Type ℓ} {old now : List A} {start : ℕ} {whole : List A} {at : ℕ} {x : A} {rest left : List A}
    → Placing old now start whole at rest → rest ≡ x ∷ left → Placing old (set now at x) start whole (at + 1) left
place_one p e = place_turn p (_ ∷ []) _ e refl refl

-- ---- rows one after the other

module _ {ℓ} {A : Type ℓ} (f : ℕ → List A) where
  pub rows_turn : (i n : ℕ) → i < n → over f i (n - i) ≡ f i ++ over f (i + 1) (n - (i + 1))
  rows_turn i n h = let e : n - i ≡ suc (n - (i + 1)) = omega arith in rw (e, add-one i)

  pub rows_done : (i n : ℕ) → n ≤ i → over f i (n - i) ≡ []
  rows_done i n h = let e : n - i ≡ 0 = omega arith in rw e

  pub rows_split : (i a b : ℕ) → over f i (a + b) ≡ over f i a ++ over f (i + a) b
  rows_split i zero b = let e : 0 + b ≡ b = omega arith in let z : i + 0 ≡ i = omega arith in rw (e, z)
  rows_split i (suc a) b =
      let e : suc a + b ≡ suc (a + b) = omega arith in
      let z : i + suc a ≡ suc i + a = omega arith in
      rw (e, z, rows_split (suc i) a b) (sym (append_assoc (f i) (over f (suc i) a) (over f (suc i + a) b)))

-- a loop at row i of n
pub record PlacingRows {ℓ} {A : Type ℓ} (old now : List A) (start : ℕ) (f : ℕ → List A) (n at i : ℕ) : Type ℓ where
  pub upto : i ≤ n
  pub placed : Placing old now start (over f 0 n) at (over f i (n - i))

pub placing_rows {ℓ} : {A : Type ℓ} (old : List A) (start : ℕ) (f : ℕ → List A) (n : ℕ) → PlacingRows old old start f n start 0
placing_rows old start f n = record { upto = omega arith; placed = let e : n - 0 ≡ n = omega arith in rw e (placing old start (over f 0 n)) }

module _ {ℓ} {A : Type ℓ} {old now : List A} {start : ℕ} {f : ℕ → List A} {n at i : ℕ} (p : PlacingRows old now start f n at i) where
  pub row_room : i < n → start + length (over f 0 n) ≤ length old → at + length (f i) ≤ length now
  row_room h = place_room p.placed (f i) _ (rows_turn f i n h)

  pub row_turn : i < n → {next : List A} {after : ℕ} → next ≡ sets now at (f i) → after ≡ at + length (f i)
      → PlacingRows old next start f n after (i + 1)
  row_turn h e a = record { upto = omega arith; placed = place_turn p.placed (f i) _ (rows_turn f i n h) e a }

  pub row_end : n ≤ i → (at ≡ start + length (over f 0 n)) × (now ≡ sets old start (over f 0 n))
  row_end h = place_end p.placed (rows_done f i n h)

-- row j of the first n begins at `place j`
pub record Rows {ℓ} {A : Type ℓ} (f : ℕ → List A) (n : ℕ) (place : ℕ → ℕ) : Type ℓ where
  pub first : place 0 ≡ 0
  pub next : (j : ℕ) → j < n → place (suc j) ≡ place j + length (f j)

pub even_rows {ℓ} : {A : Type ℓ} (f : ℕ → List A) (n width : ℕ) → ((j : ℕ) → j < n → length (f j) ≡ width) → Rows f n (λ j. j * width)
even_rows f n width h = record { first = omega arith; next = λ j l. omega (arith, h j l) }

module _ {ℓ} {A : Type ℓ} {f : ℕ → List A} {n : ℕ} {place : ℕ → ℕ} (r : Rows f n place) where
  pub rows_length : (i c : ℕ) → i + c ≤ n → place i + length (over f i c) ≡ place (i + c)
  rows_length i zero h = let e : i + 0 ≡ i = omega arith in omega (arith, ap place e)
  rows_length i (suc c) h =
      let e : i + suc c ≡ suc i + c = omega arith in
      let all = length-append (f i) (over f (suc i) c) in
      omega (arith, ap place e, all, r.next i (omega (arith, h)), rows_length (suc i) c (omega (arith, h)))

  -- row j stands between those before it and those after it
  record Within (j : ℕ) : Type ℓ where
    parts : over f 0 n ≡ over f 0 j ++ (f j ++ over f (j + 1) (n - (j + 1)))
    before : length (over f 0 j) ≡ place j
    ends : place j + length (f j) ≤ length (over f 0 n)

  within : (j : ℕ) → j < n → Within j
  within j h =
      let e : n ≡ j + (n - j) = omega arith in
      let z : 0 + j ≡ j = omega arith in
      let parts : over f 0 n ≡ over f 0 j ++ (f j ++ over f (j + 1) (n - (j + 1))) =
      ap (over f 0) e ∙ rows_split f 0 j (n - j) ∙ rw (z, rows_turn f j n h) in
      let before : length (over f 0 j) ≡ place j = omega (arith, r.first, rows_length 0 j (omega arith), ap place z) in
      record { parts = parts; before = before; ends = omega (arith, simp length-append at (ap length parts)) }

  pub row_at : (j k : ℕ) (d : A) → j < n → k < length (f j) → get_or (over f 0 n) (place j + k) d ≡ get_or (f j) k d
  row_at j k d h l = let w = within j h in rw (w.parts, sym w.before, get_or-append-add (over f 0 j)) (get_or-append (f j) _ d k l)

  pub row_part : (j : ℕ) → j < n → take (length (f j)) (drop (place j) (over f 0 n)) ≡ f j
  row_part j h = let w = within j h in rw (w.parts, drop_at (over f 0 j) _ (place j) w.before) (take-append_seam (f j) _)

  -- item k of row j, where all rows are stored from `start` on
  pub stored_row : (old : List A) (start j k : ℕ) (d : A) → j < n → k < length (f j) → start + (place j + k) < length old
      → get_or (sets old start (over f 0 n)) (start + (place j + k)) d ≡ get_or (f j) k d
  stored_row old start j k d h l room = stored_at old start (over f 0 n) (place j + k) d (omega (arith, l, (within j h).ends)) room ∙ row_at j k d h l
