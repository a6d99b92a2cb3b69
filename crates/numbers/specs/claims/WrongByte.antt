-- The byte that is wrong: what the place of a refusal by 1, 2 or 3 says of a file that was transferred. `read_of bytes room` is the reading of all the bytes
-- into a list with `room` places; `no 1 p`, `no 2 p` and `no 3 p` are its refusals by 1, 2 and 3 at the place p.
--
-- By 1: the bytes are a good beginning and end inside a number. The place is their length: the byte that is due there is missing.
-- By 2: the bytes before the place are a good beginning, and with the byte at the place they are none: whatever follows it, they are refused there.
-- By 3: the bytes before the place are whole numbers, as many as the list has places. The byte at the place is the first of a number more.
--
-- A good beginning is meant in full: the bytes end inside a number, and with a byte 01 after them all are read without refusal. Which byte was changed on
-- the way is not said: where 02 has become 82 and 00 follows, 00 is the byte at the place.
-- Carried by a look at one number: it goes by the bytes up to its own end or its refusal, and never by those after.
-- Assumes nothing.
use Rattle.std.specs.Prelude.{◌≡◌, List, [], ◌∷◌, ◌++◌, ℤ, pos, length, take, Ok, Err}
use Rattle.std.proofs.Math.Path.{refl, ap, sym, subst}
use Rattle.std.proofs.Common.{◌∙◌, append-nil, arith}
use Prim.Native.Nat.{ℕ, suc, ◌+◌, ◌<◌}
use Rattle.numbers.specs.law.Told.{gives, overlay}
use Rattle.numbers.specs.law.Reading.{Read, Ending, all, no, read_of, read_told}
use Rattle.numbers.specs.inside.ReadingBounds.{read_no}
use Rattle.numbers.specs.inside.ReadingCuts.{Cut, read_cut}
use Rattle.numbers.specs.law.CodecTold.{Count}
use Rattle.numbers.specs.law.Question.{no_at}
use Rattle.numbers.specs.claims.CallsRoundTrip.{ReadCall, count_answered, refusal_answered}

module _ (bytes : List ℕ) (room : ℕ) {p : ℕ} where
  cut_at : {n : ℕ} → (read_of bytes room).ended ≡ no n p → Cut room 0 bytes (read_of bytes room).stored (no n p)
  unfolding read_of
  cut_at e = subst (Cut room 0 bytes (read_of bytes room).stored) e (read_cut room 0 bytes)

  -- ---- 1, bytes that end too early

  -- The place is the length of the data.
  pub end_place : (read_of bytes room).ended ≡ no 1 p → p ≡ length bytes
  end_place e = omega (arith, ((cut_at e).0 refl).upto)

  -- The bytes are a good beginning: with a byte 01 after them they are read to their end.
  pub end_mended : (read_of bytes room).ended ≡ no 1 p → (read_of (bytes ++ (0x01 ∷ [])) room).ended ≡ all
  unfolding read_of
  end_mended e = ((cut_at e).0 refl).mended

  -- ---- 2, a byte that is wrong

  -- It is one of the bytes.
  pub bad_inside : (read_of bytes room).ended ≡ no 2 p → p < length bytes
  bad_inside e = let w = (cut_at e).1 refl in omega (arith, w.at_is, w.inside)

  -- What comes before it is a good beginning: it ends inside a number, with the same numbers stored.
  pub before_bad : (read_of bytes room).ended ≡ no 2 p → read_of (take p bytes) room ≡ record { stored = (read_of bytes room).stored; ended = no 1 p }
  unfolding read_of
  before_bad e =
      let w = (cut_at e).1 refl in
      let c : p ≡ w.count = omega (arith, w.at_is) in
      ap (λ (n : ℕ). read_of (take n bytes) room) c ∙ w.before

  -- Whatever follows it, the reading is the same: it ends there, with the same numbers stored.
  pub bad_for_good : (read_of bytes room).ended ≡ no 2 p → (rest : List ℕ) → read_of (take (p + 1) bytes ++ rest) room ≡ read_of bytes room
  unfolding read_of
  bad_for_good e rest =
      let w = (cut_at e).1 refl in
      let c : p + 1 ≡ suc w.count = omega (arith, w.at_is) in
      ap (λ (n : ℕ). read_of (take n bytes ++ rest) room) c ∙ w.after rest
      ∙ ap (λ (d : Ending). record { stored = (read_of bytes room).stored; ended = d }) (sym e)

  -- All before it is a good beginning, and with it the bytes are refused there.
  pub first_bad : (read_of bytes room).ended ≡ no 2 p
      → ((read_of (take p bytes) room).ended ≡ no 1 p) × ((read_of (take (p + 1) bytes) room).ended ≡ no 2 p)
  first_bad e =
      let last = ap (λ (l : List ℕ). (read_of l room).ended) (sym (append-nil (take (p + 1) bytes))) in
      (ap ended (before_bad e), last ∙ ap ended (bad_for_good e []) ∙ e)
    where
      ended : Read → Ending
      ended r = r.ended

  -- ---- 3, a list that is full

  -- The place is a number's first byte: all before it is read, into every place of the list, and a byte stands there.
  pub full_place : (read_of bytes room).ended ≡ no 3 p
      → (p < length bytes) × (read_of (take p bytes) room ≡ record { stored = (read_of bytes room).stored; ended = all })
      × (length (read_of bytes room).stored ≡ room)
  unfolding read_of
  full_place e =
      let w = (cut_at e).2 refl in
      let c : p ≡ w.count = omega (arith, w.at_is) in
      (omega (arith, w.inside), ap (λ (n : ℕ). read_of (take n bytes) room) c ∙ w.before, w.full)

-- ---- the same of the call `read`, as it promises (`ReadCall` of `CallsRoundTrip`)

module _ {bytes : List ℕ} {list left : List ℤ} {p : ℕ} where
  -- 1: the place is the length of the data.
  pub read_end_place : ReadCall bytes list (Err (no_at 1 0 p)) left → p ≡ length bytes
  read_end_place r = end_place bytes (length list) (read_no bytes (length list) r.answered)

  -- 2: a call on the bytes before the place, with the same lent list, answers 1 at that place and leaves the same in the list.
  pub read_before_bad : {answer : Count} {back : List ℤ} → ReadCall bytes list (Err (no_at 2 0 p)) left → ReadCall (take p bytes) list answer back
      → (answer ≡ Err (no_at 1 0 p)) × (back ≡ left)
  unfolding read_told
  read_before_bad {answer} r again =
      let e = read_no bytes (length list) r.answered in
      let b = before_bad bytes (length list) e in
      (refusal_answered answer 1 p (again.answered ∙ ap read_told b), again.lent ∙ ap (λ (x : Read). overlay x.stored list) b ∙ sym r.lent)

  -- 2: a call on any bytes that are the same up to the place and at it, with the same lent list, answers 2 at that place and leaves the same in the list.
  pub read_bad_for_good : (rest : List ℕ) {answer : Count} {back : List ℤ} → ReadCall bytes list (Err (no_at 2 0 p)) left
      → ReadCall (take (p + 1) bytes ++ rest) list answer back → (answer ≡ Err (no_at 2 0 p)) × (back ≡ left)
  read_bad_for_good rest {answer} r again =
      let b = bad_for_good bytes (length list) (read_no bytes (length list) r.answered) rest in (
        refusal_answered answer 2 p (again.answered ∙ ap read_told b ∙ sym r.answered),
        again.lent ∙ ap (λ (x : Read). overlay x.stored list) b ∙ sym r.lent,
      )

  -- 3: a byte stands at the place, and a call on those before it, with the same lent list, gives the list's length as the count and leaves the same in it.
  pub read_before_full : {answer : Count} {back : List ℤ} → ReadCall bytes list (Err (no_at 3 0 p)) left → ReadCall (take p bytes) list answer back
      → (p < length bytes) × (answer ≡ Ok (length list)) × (back ≡ left)
  unfolding read_told
  read_before_full {answer} r again =
      let f = full_place bytes (length list) (read_no bytes (length list) r.answered) in (
        f.0,
        count_answered answer (length list) (again.answered ∙ ap read_told f.1 ∙ ap (λ (n : ℕ). gives (pos n ∷ [])) f.2),
        again.lent ∙ ap (λ (x : Read). overlay x.stored list) f.1 ∙ sym r.lent,
      )
