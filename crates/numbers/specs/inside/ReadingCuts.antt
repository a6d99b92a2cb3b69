-- Bytes that are cut short or followed by others: a reading goes by the bytes up to its place, and of those after it says nothing. Where they end inside a
-- number, a byte 1 more ends that number; where a byte is wrong, those before it end inside a number; where the list is full, those before are read whole.
-- Assumes nothing.
use Rattle.std.specs.Prelude.{◌≡◌, refl, Bool, true, false, cond, List, [], ◌∷◌, ◌++◌, ℕ, zero, suc, Ok, Err}
use Rattle.std.specs.Prelude.{◌+◌, ◌*◌, ◌-◌, ◌≤◌, ◌<◌, ltb, leb, eqb, ℤ, length, take, drop}
use Rattle.std.proofs.Common.{ap, sym, subst, ◌∙◌, append_assoc, arith, length-append}
use Rattle.std.proofs.Common.{length-drop, take-append-drop, drop_of_length-le, length-take-le, drop_at, take-add}
use Rattle.numbers.specs.law.Mapping.{signed_of}
use Rattle.numbers.specs.law.Reading.{number_of, later_bytes, last_byte, in_front, Read, Ending, all}
use Rattle.numbers.specs.law.Reading.{no, with_first, after_number, read_from, NumberRead, whole, wrong}
use Rattle.numbers.specs.inside.ReadingBounds.{Within, within_number, used_some}
use Rattle.numbers.specs.inside.RoundTripLaws.{read_some}

-- ---- one number, as `read` reads it

-- the bytes end inside it, and a byte 1 more ends it
pub record NumberEnds (read : List ℕ → NumberRead) (bytes : List ℕ) (asked : ℕ) : Type 0 where
  pub upto : asked ≡ suc (length bytes)
  pub value : ℕ
  pub mended : read (bytes ++ (1 ∷ [])) ≡ whole value asked

-- the first `count` bytes end inside it, and the one after them, the last that was asked for, is wrong, whatever follows
pub record NumberWrong (read : List ℕ → NumberRead) (bytes : List ℕ) (least asked : ℕ) : Type 0 where
  pub count : ℕ
  pub asked_is : asked ≡ suc count
  pub some : least ≤ count
  pub inside : count < length bytes
  pub before : read (take count bytes) ≡ wrong 1 asked
  pub after : (rest : List ℕ) → read (take (suc count) bytes ++ rest) ≡ wrong 2 asked

abbrev Local : (List ℕ → NumberRead) → List ℕ → ℕ → NumberRead → Type 0
Local read bytes least (Ok one) = (rest : List ℕ) → read (take one.used bytes ++ rest) ≡ whole one.value one.used
Local read bytes least (Err bad) = (bad.number ≡ 1 → NumberEnds read bytes bad.asked) × (bad.number ≡ 2 → NumberWrong read bytes least bad.asked)

never_both {ℓ} : {X : Type ℓ} {n : ℕ} → n ≡ 1 → n ≡ 2 → X
never_both e f = let z : ⊥ = omega arith in absurd z

-- a byte that decides by itself
abbrev One : NumberRead → Type 0
One (Ok one) = one.used ≡ 1
One (Err bad) = (bad.number ≡ 2) × (bad.asked ≡ 1)

one_last : (b : ℕ) → One (last_byte b)
one_last b = go (eqb b 0)
  where
    go : (t : Bool) → One (cond t (wrong 2 1) (whole b 1))
    go true = (refl, refl)
    go false = refl

one_tenth : (b : ℕ) → One (cond (leb b 1) (last_byte b) (wrong 2 1))
one_tenth b = go (leb b 1)
  where
    go : (t : Bool) → One (cond t (last_byte b) (wrong 2 1))
    go true = one_last b
    go false = (refl, refl)

module _ (read : List ℕ → NumberRead) (b : ℕ) (bytes : List ℕ) (none : read [] ≡ wrong 1 1) where
  one_local : (r : NumberRead) → One r → ((rest : List ℕ) → read (b ∷ rest) ≡ r) → Local read (b ∷ bytes) 0 r
  one_local (Ok one) o same = λ rest. rw o (same rest ∙ ap (whole one.value) o)
  one_local (Err bad) o same = (
    λ e. never_both e o.0,
    λ e. record {
      count = 0;
      asked_is = o.1;
      some = omega arith;
      inside = omega arith;
      before = none ∙ ap (wrong 1) (sym o.1);
      after = λ rest. same rest ∙ ap (λ (m : ℕ). wrong m bad.asked) o.0;
    },
  )

-- a group in front of the number
module _ (read front : List ℕ → NumberRead) (b group : ℕ) (step : (rest : List ℕ) → front (b ∷ rest) ≡ in_front group (read rest)) where
  front_take : (n : ℕ) (bytes rest : List ℕ) → front (take (1 + n) (b ∷ bytes) ++ rest) ≡ in_front group (read (take n bytes ++ rest))
  front_take n bytes rest = let s : 1 + n ≡ suc n = omega arith in rw s (step (take n bytes ++ rest))

  local_front : (bytes : List ℕ) (least : ℕ) → least ≤ 1 → (r : NumberRead) → Local read bytes 0 r
      → Local front (b ∷ bytes) least (in_front group r)
  local_front bytes least h (Ok one) w = λ rest. front_take one.used bytes rest ∙ ap (in_front group) (w rest)
  local_front bytes least h (Err bad) w = (
    λ e. let x = w.0 e in record {
      upto = omega (arith, x.upto);
      value = group + 128 * x.value;
      mended = step (bytes ++ (1 ∷ [])) ∙ ap (in_front group) x.mended;
    },
    λ e. let x = w.1 e in record {
      count = suc x.count;
      asked_is = omega (arith, x.asked_is);
      some = omega (arith, h);
      inside = omega (arith, x.inside);
      before = step (take x.count bytes) ∙ ap (in_front group) x.before;
      after = λ rest. step (take (suc x.count) bytes ++ rest) ∙ ap (in_front group) (x.after rest);
    },
  )

later_local : (more : ℕ) (bytes : List ℕ) → Local (later_bytes more) bytes 0 (later_bytes more bytes)
later_local zero [] = (λ e. record { upto = refl; value = 1; mended = refl }, λ e. never_both refl e)
later_local zero (b ∷ bytes) = one_local (later_bytes zero) b bytes refl _ (one_tenth b) (λ rest. refl)
later_local (suc more) [] = (λ e. record { upto = refl; value = 1; mended = refl }, λ e. never_both refl e)
later_local (suc more) (b ∷ bytes) = go (ltb b 128) refl (later_local more bytes)
  where
    go : (t : Bool) → ltb b 128 ≡ t → Local (later_bytes more) bytes 0 (later_bytes more bytes)
        → Local (later_bytes (suc more)) (b ∷ bytes) 0 (cond t (last_byte b) (in_front (b - 128) (later_bytes more bytes)))
    go true t w = one_local (later_bytes (suc more)) b bytes refl (last_byte b) (one_last b) (λ rest. rw t)
    go false t w = local_front (later_bytes more) (later_bytes (suc more)) b (b - 128) (λ rest. rw t) bytes 0 (omega arith) (later_bytes more bytes) w

number_local : (b : ℕ) (bytes : List ℕ) → Local number_of (b ∷ bytes) 1 (number_of (b ∷ bytes))
unfolding number_of
number_local b bytes = go (ltb b 128) refl
  where
    go : (t : Bool) → ltb b 128 ≡ t → Local number_of (b ∷ bytes) 1 (cond t (whole b 1) (in_front (b - 128) (later_bytes 8 bytes)))
    go true t = λ rest. rw t
    go false t = local_front (later_bytes 8) number_of b (b - 128) (λ rest. rw t) bytes 1 (omega arith) (later_bytes 8 bytes) (later_local 8 bytes)

-- ---- a reading from `place` on, which stores `stored`

module _ (room place : ℕ) (bytes : List ℕ) (stored : List ℤ) where
  -- the bytes end inside a number, and a byte 1 more ends it
  pub record ReadingEnds (at : ℕ) : Type 0 where
    pub upto : at ≡ place + length bytes
    pub mended : (read_from room place (bytes ++ (1 ∷ []))).ended ≡ all

  -- the first `count` bytes end inside a number, and the one after them is wrong, whatever follows
  pub record ReadingWrong (at : ℕ) : Type 0 where
    pub count : ℕ
    pub at_is : at ≡ place + count
    pub inside : count < length bytes
    pub before : read_from room place (take count bytes) ≡ record { stored = stored; ended = no 1 at }
    pub after : (rest : List ℕ) → read_from room place (take (suc count) bytes ++ rest) ≡ record { stored = stored; ended = no 2 at }

  -- the first `count` bytes are read whole and fill the list, and there are more
  pub record ReadingFull (at : ℕ) : Type 0 where
    pub count : ℕ
    pub at_is : at ≡ place + count
    pub inside : count < length bytes
    pub before : read_from room place (take count bytes) ≡ record { stored = stored; ended = all }
    pub full : length stored ≡ room

  abbrev pub Cut : Ending → Type 0
  Cut all = Unit {0}
  Cut (no number at) = (number ≡ 1 → ReadingEnds at) × (number ≡ 2 → ReadingWrong at) × (number ≡ 3 → ReadingFull at)

-- a whole number in front
module _ (room place b : ℕ) (bytes : List ℕ) {v u : ℕ} (is : number_of (b ∷ bytes) ≡ whole v u) where
  fits : u ≤ length (b ∷ bytes)
  fits = (used_some (b ∷ bytes) is).1

  local : (rest : List ℕ) → number_of (take u (b ∷ bytes) ++ rest) ≡ whole v u
  local = subst (Local number_of (b ∷ bytes) 1) is (number_local b bytes)

  read_on : (rest : List ℕ) → read_from (suc room) place (take u (b ∷ bytes) ++ rest) ≡ with_first (signed_of v) (read_from room (place + u) rest)
  read_on rest =
      let n = length-take-le u (b ∷ bytes) fits in
      read_some room place (take u (b ∷ bytes) ++ rest) (omega (arith, length-append (take u (b ∷ bytes)) rest, n, (used_some (b ∷ bytes) is).0))
      ∙ rw (local rest, drop_at (take u (b ∷ bytes)) rest u n)

  before_on : (count : ℕ) {r : Read} → read_from room (place + u) (take count (drop u (b ∷ bytes))) ≡ r
      → read_from (suc room) place (take (u + count) (b ∷ bytes)) ≡ with_first (signed_of v) r
  before_on count e = rw (take-add u count (b ∷ bytes)) (read_on (take count (drop u (b ∷ bytes))) ∙ ap (with_first (signed_of v)) e)

  cut_on : (stored : List ℤ) (e : Ending) → Cut room (place + u) (drop u (b ∷ bytes)) stored e
      → Cut (suc room) place (b ∷ bytes) (signed_of v ∷ stored) e
  cut_on stored all c = tt
  cut_on stored (no n at) c = (
    λ e. let x = c.0 e in record {
      upto = omega (arith, x.upto, length-drop u (b ∷ bytes), fits);
      mended = ap (λ (l : List ℕ). (read_from (suc room) place (l ++ (1 ∷ []))).ended) (sym (take-append-drop u (b ∷ bytes)))
          ∙ ap (λ (l : List ℕ). (read_from (suc room) place l).ended) (append_assoc (take u (b ∷ bytes)) (drop u (b ∷ bytes)) (1 ∷ []))
          ∙ ap (λ (r : Read). r.ended) (read_on (drop u (b ∷ bytes) ++ (1 ∷ []))) ∙ x.mended;
    },
    λ e. let x = c.1 e in record {
      count = u + x.count;
      at_is = omega (arith, x.at_is);
      inside = omega (arith, x.inside, length-drop u (b ∷ bytes));
      before = before_on x.count x.before;
      after = λ rest.
          let s : suc (u + x.count) ≡ u + suc x.count = omega arith in
          ap (λ (n : ℕ). read_from (suc room) place (take n (b ∷ bytes) ++ rest)) s
          ∙ rw (take-add u (suc x.count) (b ∷ bytes), append_assoc (take u (b ∷ bytes)) (take (suc x.count) (drop u (b ∷ bytes))) rest)
          (read_on (take (suc x.count) (drop u (b ∷ bytes)) ++ rest) ∙ ap (with_first (signed_of v)) (x.after rest));
    },
    λ e. let x = c.2 e in record {
      count = u + x.count;
      at_is = omega (arith, x.at_is);
      inside = omega (arith, x.inside, length-drop u (b ∷ bytes));
      before = before_on x.count x.before;
      full = ap suc x.full;
    },
  )

read_none : (room place : ℕ) → (read_from room place []).ended ≡ all
read_none zero place = refl
read_none (suc room) place = refl

-- a number in front that is refused
module _ (room place b : ℕ) (bytes : List ℕ) {n k : ℕ} (refused : number_of (b ∷ bytes) ≡ wrong n k) where
  cut_here : Cut (suc room) place (b ∷ bytes) [] (no n (place + k - 1))
  cut_here =
      let w = subst (Local number_of (b ∷ bytes) 1) refused (number_local b bytes) in (
        λ e. let x = w.0 e in record {
          upto = omega (arith, x.upto);
          mended =
              let h : length (b ∷ bytes ++ (1 ∷ [])) ≤ k = omega (arith, length-append bytes (1 ∷ []), x.upto) in
              let d : drop k (b ∷ bytes ++ (1 ∷ [])) ≡ [] = drop_of_length-le (b ∷ bytes ++ (1 ∷ [])) h in
              rw (x.mended, d) (read_none room _);
        },
        λ e. let x = w.1 e in record {
          count = x.count;
          at_is = omega (arith, x.asked_is);
          inside = x.inside;
          before =
              let m = length-take-le x.count (b ∷ bytes) (omega (arith, x.inside)) in
              read_some room place (take x.count (b ∷ bytes)) (omega (arith, m, x.some)) ∙ rw x.before;
          after = λ rest. rw (x.after rest);
        },
        λ e. let f : ⊥ = omega (arith, e, (subst (Within (length (b ∷ bytes))) refused (within_number (b ∷ bytes))).0) in absurd f,
      )

pub read_cut : (room place : ℕ) (bytes : List ℕ) → Cut room place bytes (read_from room place bytes).stored (read_from room place bytes).ended
read_cut zero place [] = tt
read_cut zero place (b ∷ bytes) = (
  λ e. let f : ⊥ = omega (arith, e) in absurd f,
  λ e. let f : ⊥ = omega (arith, e) in absurd f,
  λ e. record { count = 0; at_is = omega arith; inside = omega arith; before = refl; full = refl },
)
read_cut (suc room) place [] = tt
read_cut (suc room) place (b ∷ bytes) = go (λ p l. read_cut room p l) (number_of (b ∷ bytes)) refl
  where
    go : ((p : ℕ) (l : List ℕ) → Cut room p l (read_from room p l).stored (read_from room p l).ended) → (r : NumberRead)
        → number_of (b ∷ bytes) ≡ r
        → Cut (suc room) place (b ∷ bytes) (after_number place r (λ used. read_from room (place + used) (drop used (b ∷ bytes)))).stored
        (after_number place r (λ used. read_from room (place + used) (drop used (b ∷ bytes)))).ended
    go again (Ok one) n =
        let next = read_from room (place + one.used) (drop one.used (b ∷ bytes)) in
        cut_on room place b bytes n next.stored next.ended (again (place + one.used) (drop one.used (b ∷ bytes)))
    go again (Err bad) n = cut_here room place b bytes n
