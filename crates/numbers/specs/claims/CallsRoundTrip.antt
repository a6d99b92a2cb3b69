-- The round trip, said of the calls: what `write` leaves in the lent bytes, `read` takes back, and what `read` leaves in the lent list, `write` makes the
-- bytes of. It is carried by the round trip of the definitions (`RoundTrip`): a count that a call answers is the count of what it left at the front.
-- Assumes nothing.
use Rattle.std.specs.Prelude.{◌≡◌, refl, Bool, true, false, cond, List, [], ◌∷◌, ℕ, ◌≤◌, leb, ℤ, pos, nat_abs, length, get_or, take, drop}
use Rattle.std.specs.Prelude.{Ok, Err}
use Rattle.std.proofs.Common.{ap, sym, ◌∙◌, arith, le-leb}
use Rattle.std.proofs.Math.Seq.{take-append_seam}
use Rattle.numbers.specs.law.Told.{Told, gives, refuses, overlay}
use Rattle.numbers.specs.law.Groups.{encode, write_told, written}
use Rattle.numbers.specs.law.Reading.{Read, Ending, all, no, read_of, read_told, end_told}
use Rattle.numbers.specs.declared.answer.No.{No}
use Rattle.numbers.specs.law.CodecTold.{Count, count_told}
use Rattle.numbers.specs.law.Question.{no_at}
use Rattle.numbers.specs.claims.CodecInputs.{Numbers, Bytes}
use Rattle.numbers.specs.claims.RoundTrip.{written_read, read_written}

-- ---- the calls, as they promise (src/writer.rt, src/reader.rt)

-- `write(list, bytes)` answers `answer` and leaves `left` in the lent bytes
pub record WriteCall (list : List ℤ) (bytes : List ℕ) (answer : Count) (left : List ℕ) : Type 0 where
  pub answered : count_told answer ≡ write_told list (length bytes)
  pub lent : left ≡ written list bytes

-- `read(bytes, list)` answers `answer` and leaves `left` in the lent list
pub record ReadCall (bytes : List ℕ) (list : List ℤ) (answer : Count) (left : List ℤ) : Type 0 where
  pub answered : count_told answer ≡ read_told (read_of bytes (length list))
  pub lent : left ≡ overlay (read_of bytes (length list)).stored list

-- ---- answers and what is told of them: a refusal has two values and a count one

pub no_count {ℓ} : {X : Type ℓ} {number step place n : ℕ} → refuses number step place ≡ gives (pos n ∷ []) → X
no_count e = let v = ap (λ (t : Told). length t.values) e in let f : ⊥ = omega arith in absurd f

count_is : {m n : ℕ} → gives (pos m ∷ []) ≡ gives (pos n ∷ []) → m ≡ n
count_is e = ap (λ (t : Told). nat_abs (get_or t.values 0 (pos 0))) e

pub count_answered : (answer : Count) (n : ℕ) → count_told answer ≡ gives (pos n ∷ []) → answer ≡ Ok n
count_answered (Ok m) n e = ap Ok (count_is e)
count_answered (Err m) n e = no_count e

pub refusal_answered : (answer : Count) (number place : ℕ) → count_told answer ≡ refuses number 0 place → answer ≡ Err (no_at number 0 place)
refusal_answered (Ok m) number place e = no_count (sym e)
refusal_answered (Err m) number place e =
    let n : m.number ≡ number = ap (λ (t : Told). t.number) e in
    let s : m.step ≡ 0 = ap (λ (t : Told). nat_abs (get_or t.values 0 (pos 0))) e in
    let p : m.place ≡ place = ap (λ (t : Told). nat_abs (get_or t.values 1 (pos 0))) e in
    let same : ◌≡◌ {A = Count} (Err (no_at m.number m.step m.place)) (Err (no_at number 0 place)) = rw (n, s, p) in
    same

-- a count that the writer answers is that of the bytes, and they fit
gave : (list : List ℤ) (room n : ℕ) → gives (pos n ∷ []) ≡ write_told list room → (n ≡ length (encode list)) × (leb (length (encode list)) room ≡ true)
unfolding write_told
gave list room n e = go (leb (length (encode list)) room) (sym e)
  where
    go : (b : Bool) → cond b (gives (pos (length (encode list)) ∷ [])) (refuses 4 0 0) ≡ gives (pos n ∷ []) → (n ≡ length (encode list)) × (b ≡ true)
    go true e = (sym (count_is e), refl)
    go false e = no_count e

-- a count that the reader answers is that of the numbers stored, and all bytes were read
pub took : (r : Read) (n : ℕ) → gives (pos n ∷ []) ≡ read_told r → (n ≡ length r.stored) × (r.ended ≡ all)
unfolding read_told
took r n e = go r.ended (sym e)
  where
    go : (d : Ending) → end_told d (length r.stored) ≡ gives (pos n ∷ []) → (n ≡ length r.stored) × (d ≡ all)
    go all e = (sym (count_is e), refl)
    go (no x y) e = no_count e

-- ---- there and back

-- Numbers written, then read. Where `write` answered n, `read` of the first n bytes that it left, into a list with a place for each number, answers the count
-- of the list's numbers; they are the first of that list, which is unchanged past them. (`Numbers`: a lent list's numbers are signed 64-bit numbers.)
pub write_then_read : {list into back : List ℤ} {bytes left : List ℕ} {n : ℕ} {answer : Count}
    → Numbers list → WriteCall list bytes (Ok n) left
    → length list ≤ length into → ReadCall (take n left) into answer back
    → (answer ≡ Ok (length list)) × (back ≡ overlay list into)
unfolding written read_told
write_then_read {list = list} {into = into} {bytes = bytes} {left = left} {n = n} {answer = answer} fit w h r =
    let g = gave list (length bytes) n w.answered in
    let front : take n left ≡ encode list = rw (w.lent, g.1, g.0) (take-append_seam (encode list) (drop (length (encode list)) bytes)) in
    let same : read_of (take n left) (length into) ≡ record { stored = list; ended = all } = rw front (written_read list (length into) fit h) in
    (count_answered answer (length list) (r.answered ∙ ap read_told same), r.lent ∙ ap (λ (x : Read). overlay x.stored into) same)

-- Bytes read, then written. Where `read` answered n, `write` of the first n numbers that it left, into as many bytes as were read or more, answers the count
-- of those bytes; they are the first of the lent bytes, which are unchanged past them. (`Bytes`: lent bytes are below 256.)
pub read_then_write : {bytes into back : List ℕ} {list left : List ℤ} {n : ℕ} {answer : Count}
    → Bytes bytes → ReadCall bytes list (Ok n) left
    → length bytes ≤ length into → WriteCall (take n left) into answer back
    → (answer ≡ Ok (length bytes)) × (back ≡ overlay bytes into)
unfolding write_told written
read_then_write {bytes = bytes} {into = into} {list = list} {left = left} {n = n} {answer = answer} fit r h w =
    let s = (read_of bytes (length list)).stored in
    let g = took (read_of bytes (length list)) n r.answered in
    let front : take n left ≡ s = rw (r.lent, g.0) (take-append_seam s (drop (length s) list)) in
    let same : encode s ≡ bytes = read_written bytes (length list) fit g.1 in
    let fits : leb (length bytes) (length into) ≡ true = le-leb _ _ h in
    (count_answered answer (length bytes) (w.answered ∙ rw (front, same, fits)), w.lent ∙ rw (front, same, fits))

-- ---- a refusal by either call has step 0, and so is told by its number and place

step_of : {number step place m k : ℕ} → refuses number step place ≡ refuses m 0 k → step ≡ 0
step_of e = ap (λ (t : Told). nat_abs (get_or t.values 0 (pos 0))) e

pub read_refusal_step : {bytes : List ℕ} {list left : List ℤ} {n : No} → ReadCall bytes list (Err n) left → n.step ≡ 0
unfolding read_told
read_refusal_step {bytes} {list} {n = n} r = go (read_of bytes (length list)).ended r.answered
  where
    go : (d : Ending) → refuses n.number n.step n.place ≡ end_told d (length (read_of bytes (length list)).stored) → n.step ≡ 0
    go all e = no_count e
    go (no x y) e = step_of e

pub write_refusal_step : {list : List ℤ} {bytes left : List ℕ} {n : No} → WriteCall list bytes (Err n) left → n.step ≡ 0
unfolding write_told
write_refusal_step {list} {bytes} {n = n} w = go (leb (length (encode list)) (length bytes)) w.answered
  where
    go : (b : Bool) → refuses n.number n.step n.place ≡ cond b (gives (pos (length (encode list)) ∷ [])) (refuses 4 0 0) → n.step ≡ 0
    go true e = no_count e
    go false e = step_of e
