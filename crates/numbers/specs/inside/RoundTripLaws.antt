-- The round trip, number by number: what the claims of it stand on.
-- Assumes nothing.
use Rattle.std.specs.Prelude.{◌≡◌, refl, Bool, true, false, cond, List, [], ◌∷◌, ◌++◌, ℕ, zero, suc, ◌+◌, Ok, Err}
use Rattle.std.specs.Prelude.{◌*◌, ◌-◌, ◌/◌, ◌%◌, ◌^◌, ◌≤◌, ◌<◌, ltb, leb, eqb, ℤ, length, drop}
use Rattle.std.proofs.Common.{ap, ap₂, sym, ◌∙◌, pow-suc, arith, le-ltb, ne_eqb, ltb-true, ltb-false, leb-true, length-append}
use Rattle.std.proofs.Math.Nat.{one-le-pow}
use Rattle.std.proofs.lemmas.Bool.{eqb-false}
use Rattle.std.proofs.Math.Seq.{drop-append_seam}
use Rattle.numbers.specs.law.Mapping.{unsigned_of}
use Rattle.numbers.specs.inside.MappingLaws.{signed_unsigned, unsigned_signed, unsigned_fits}
use Rattle.numbers.specs.law.Groups.{groups, groups_up_to, encode}
use Rattle.numbers.specs.inside.GroupLaws.{one_group, more_groups, some_group}
use Rattle.numbers.specs.declared.reader.Number.{Number}
use Rattle.numbers.specs.law.Reading.{number_of, later_bytes, last_byte, in_front, all, no, after_number, read_from, NumberRead, whole, wrong}
use Rattle.numbers.specs.claims.CodecInputs.{Numbers, Bytes}

-- ---- from a number to bytes and back

-- the groups of a number, by whether it has only one
abbrev split : ℕ → ℕ → Bool → List ℕ
split more m b = cond b (m ∷ []) ((m % 128 + 128) ∷ groups_up_to more (m / 128))

-- those that come after the first
later_groups : (more m : ℕ) (rest : List ℕ) → 1 ≤ m → m < 2 * 128 ^ more
    → later_bytes more (groups_up_to more m ++ rest) ≡ whole m (length (groups_up_to more m))
later_groups zero m rest h l = let e : m ≡ 1 = omega (arith, h, l) in rw e
later_groups (suc more) m rest h l = go (ltb m 128) refl (later_groups more (m / 128) rest)
  where
    go : (b : Bool) → ltb m 128 ≡ b
        → (1 ≤ m / 128 → m / 128 < 2 * 128 ^ more → later_bytes more (groups_up_to more (m / 128) ++ rest)
        ≡ whole (m / 128) (length (groups_up_to more (m / 128))))
        → later_bytes (suc more) (split more m b ++ rest) ≡ whole m (length (split more m b))
    go true t again =
        let z : eqb m 0 ≡ false = ne_eqb m 0 (λ e. omega arith) in
        rw (t, z)
    go false t again =
        let k = ltb-false m 128 t in
        let r = again (omega arith) (let e = pow-suc 128 more in omega arith) in
        let n : ltb (m % 128 + 128) 128 ≡ false = le-ltb (m % 128 + 128) 128 (omega arith) in
        rw (n, r) (ap₂ whole (omega arith) (omega arith))

pub number_groups : (m : ℕ) (rest : List ℕ) → m < 2 ^ 64 → number_of (groups m ++ rest) ≡ whole m (length (groups m))
unfolding number_of groups
number_groups m rest h = go (ltb m 128) refl
  where
    go : (b : Bool) → ltb m 128 ≡ b → number_of (split 8 m b ++ rest) ≡ whole m (length (split 8 m b))
    go true t = rw t
    go false t =
        let k = ltb-false m 128 t in
        let r = later_groups 8 (m / 128) rest (omega arith) (omega arith) in
        let n : ltb (m % 128 + 128) 128 ≡ false = le-ltb (m % 128 + 128) 128 (omega arith) in
        rw (n, r) (ap₂ whole (omega arith) (omega arith))

-- one number more to read
pub read_some : (room place : ℕ) (bytes : List ℕ) → 1 ≤ length bytes
    → read_from (suc room) place bytes ≡ after_number place (number_of bytes) (λ used. read_from room (place + used) (drop used bytes))
read_some room place [] h = let f : ⊥ = omega arith in absurd f
read_some room place (b ∷ bytes) h = refl

unfoldable groups_nonempty : (m : ℕ) (rest : List ℕ) → 1 ≤ length (groups m ++ rest)
unfolding groups
groups_nonempty m rest = omega (arith, length-append (groups_up_to 9 m) rest, some_group 9 m)

pub read_encoded : (list : List ℤ) (room place : ℕ) → Numbers list → length list ≤ room
    → read_from room place (encode list) ≡ record { stored = list; ended = all }
read_encoded [] zero place f h = refl
read_encoded [] (suc room) place f h = refl
read_encoded (n ∷ list) zero place f h = let z : ⊥ = omega arith in absurd z
read_encoded (n ∷ list) (suc room) place f h =
    let m = unsigned_of n in
    let again = read_encoded list room (place + length (groups m)) f.1 (omega arith) in
    read_some room place (groups m ++ encode list) (groups_nonempty m (encode list))
    ∙ rw (number_groups m (encode list) (unsigned_fits n f.0), drop-append_seam (groups m) (encode list), again, signed_unsigned n)

-- ---- from bytes to a number and back

-- the bytes are the groups of v, and then what is left of them
pub record Regrouped (more v u : ℕ) (bytes : List ℕ) : Type 0 where
  pub some : 1 ≤ v
  pub small : v < 2 * 128 ^ more
  pub same : groups_up_to more v ++ drop u bytes ≡ bytes

abbrev number_in : NumberRead → Number
number_in (Ok one) = one
number_in (Err bad) = record { value = 0; used = 0 }

module _ {r : NumberRead} {v u : ℕ} (e : r ≡ whole v u) where
  value_is : (number_in r).value ≡ v
  value_is = ap (λ (x : NumberRead). (number_in x).value) e

  used_is : (number_in r).used ≡ u
  used_is = ap (λ (x : NumberRead). (number_in x).used) e

whole_last : (b v u : ℕ) → last_byte b ≡ whole v u → (1 ≤ b) × (b ≡ v) × (1 ≡ u)
whole_last b v u e = go (eqb b 0) refl e
  where
    go : (t : Bool) → eqb b 0 ≡ t → cond t (wrong 2 1) (whole b 1) ≡ whole v u → (1 ≤ b) × (b ≡ v) × (1 ≡ u)
    go true t e = let z : ◌≡◌ {A = ℕ} 0 1 = cc in let f : ⊥ = omega arith in absurd f
    go false t e = let n = eqb-false b 0 t in (omega arith, value_is e, used_is e)

never {ℓ} : {X : Type ℓ} {n k v u : ℕ} → wrong n k ≡ whole v u → X
never e = let z : ◌≡◌ {A = ℕ} 0 1 = cc in let f : ⊥ = omega arith in absurd f

-- a number whose first group is `group`, with the number that its other groups are
pub record Fronted (group v u : ℕ) (r : NumberRead) : Type 0 where
  pub value : ℕ
  pub used : ℕ
  pub rest : r ≡ whole value used
  pub v_is : v ≡ group + 128 * value
  pub u_is : u ≡ suc used

fronted : (group v u : ℕ) (r : NumberRead) → in_front group r ≡ whole v u → Fronted group v u r
fronted group v u (Ok one) e =
    let a : group + 128 * one.value ≡ v = value_is e in
    let b : 1 + one.used ≡ u = used_is e in
    record { value = one.value; used = one.used; rest = refl; v_is = sym a; u_is = omega arith }
fronted group v u (Err bad) e = never e

-- the first byte and the groups of the rest are the groups of the whole
regrouped : (more b v u value used : ℕ) (bytes : List ℕ) → 128 ≤ v → v % 128 + 128 ≡ b → v / 128 ≡ value → u ≡ suc used
    → groups_up_to more value ++ drop used bytes ≡ bytes → groups_up_to (suc more) v ++ drop u (b ∷ bytes) ≡ b ∷ bytes
regrouped more b v u value used bytes h lowest others n r = rw (more_groups more v h, lowest, others, n) (ap (λ (l : List ℕ). b ∷ l) r)

later_whole : (more : ℕ) (bytes : List ℕ) (v u : ℕ) → Bytes bytes → later_bytes more bytes ≡ whole v u → Regrouped more v u bytes
later_whole zero [] v u f e = never e
later_whole zero (b ∷ bytes) v u f e = go (leb b 1) refl e
  where
    go : (t : Bool) → leb b 1 ≡ t → cond t (last_byte b) (wrong 2 1) ≡ whole v u → Regrouped zero v u (b ∷ bytes)
    go true t e =
        let k = leb-true b 1 t in
        let w = whole_last b v u e in
        record { some = omega (arith, w.0, w.1); small = omega (arith, w.1); same = rw (← w.1, ← w.2) }
    go false t e = never e
later_whole (suc more) [] v u f e = never e
later_whole (suc more) (b ∷ bytes) v u f e = go (λ v' u'. later_whole more bytes v' u' f.1) (ltb b 128) refl e
  where
    go : ((v' u' : ℕ) → later_bytes more bytes ≡ whole v' u' → Regrouped more v' u' bytes) → (t : Bool) → ltb b 128 ≡ t
        → cond t (last_byte b) (in_front (b - 128) (later_bytes more bytes)) ≡ whole v u → Regrouped (suc more) v u (b ∷ bytes)
    go again true t e =
        let k = ltb-true b 128 t in
        let w = whole_last b v u e in
        let p = one-le-pow more 128 (omega arith) in
        record {
          some = omega (arith, w.0, w.1);
          small = omega (arith, w.1, pow-suc 128 more);
          same = rw (← w.1, ← w.2, one_group (suc more) b k);
        }
    go again false t e =
        let k = ltb-false b 128 t in
        let w = fronted (b - 128) v u (later_bytes more bytes) e in
        let r = again w.value w.used w.rest in
        let h : 128 ≤ v = omega (arith, w.v_is, r.some) in
        let lowest : v % 128 + 128 ≡ b = omega (arith, w.v_is, f.0) in
        let others : v / 128 ≡ w.value = omega (arith, w.v_is, f.0) in
        record {
          some = omega arith;
          small = omega (arith, w.v_is, r.small, pow-suc 128 more, f.0);
          same = regrouped more b v u w.value w.used bytes h lowest others w.u_is r.same;
        }

-- a number that is read is written as the bytes that were read
number_whole : (bytes : List ℕ) (v u : ℕ) → Bytes bytes → number_of bytes ≡ whole v u → groups v ++ drop u bytes ≡ bytes
unfolding number_of groups
number_whole [] v u f e = never e
number_whole (b ∷ bytes) v u f e = go (ltb b 128) refl e
  where
    go : (t : Bool) → ltb b 128 ≡ t → cond t (whole b 1) (in_front (b - 128) (later_bytes 8 bytes)) ≡ whole v u
        → groups_up_to 9 v ++ drop u (b ∷ bytes) ≡ b ∷ bytes
    go true t e =
        let w : b ≡ v = value_is e in
        let x : 1 ≡ u = used_is e in
        rw (← w, ← x, one_group 9 b (ltb-true b 128 t))
    go false t e =
        let k = ltb-false b 128 t in
        let w = fronted (b - 128) v u (later_bytes 8 bytes) e in
        let r = later_whole 8 bytes w.value w.used f.1 w.rest in
        let h : 128 ≤ v = omega (arith, w.v_is, r.some) in
        let lowest : v % 128 + 128 ≡ b = omega (arith, w.v_is, f.0) in
        let others : v / 128 ≡ w.value = omega (arith, w.v_is, f.0) in
        regrouped 8 b v u w.value w.used bytes h lowest others w.u_is r.same

bytes_drop : (u : ℕ) (bytes : List ℕ) → Bytes bytes → Bytes (drop u bytes)
bytes_drop zero bytes f = f
bytes_drop (suc u) [] f = tt
bytes_drop (suc u) (b ∷ bytes) f = bytes_drop u bytes f.1

ended_no {ℓ} : {X : Type ℓ} {n p : ℕ} → no n p ≡ all → X
ended_no e = let z : ◌≡◌ {A = ℕ} 0 1 = cc in let f : ⊥ = omega arith in absurd f

pub encode_read : (room place : ℕ) (bytes : List ℕ) → Bytes bytes → (read_from room place bytes).ended ≡ all
    → encode (read_from room place bytes).stored ≡ bytes
encode_read zero place [] f e = refl
encode_read zero place (b ∷ bytes) f e = ended_no e
encode_read (suc room) place [] f e = refl
encode_read (suc room) place (b ∷ bytes) f e = go (λ p l. encode_read room p l) (number_of (b ∷ bytes)) refl e
  where
    go : ((p : ℕ) (l : List ℕ) → Bytes l → (read_from room p l).ended ≡ all → encode (read_from room p l).stored ≡ l)
        → (r : NumberRead) → number_of (b ∷ bytes) ≡ r
        → (after_number place r (λ used. read_from room (place + used) (drop used (b ∷ bytes)))).ended ≡ all
        → encode (after_number place r (λ used. read_from room (place + used) (drop used (b ∷ bytes)))).stored ≡ b ∷ bytes
    go again (Ok one) n e =
        rw (unsigned_signed one.value, again (place + one.used) (drop one.used (b ∷ bytes)) (bytes_drop one.used (b ∷ bytes) f) e)
        (number_whole (b ∷ bytes) one.value one.used f n)
    go again (Err bad) n e = ended_no e
