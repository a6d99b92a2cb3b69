-- A record that 60 to 62 have passed: its times rise from row to row, by induction; and of two records, whose row is the earliest that is left.
-- Assumes nothing.
use Rattle.std.specs.Prelude.{Bool, true, false, ◌&&◌, ◌||◌, List, ◌≡◌, refl, ℕ, zero, suc, ◌+◌, ◌-◌, ◌<◌, leb, ltb, ℤ, ◌<ℤ◌, ◌≤ℤ◌}
use Rattle.std.proofs.lemmas.Bool.{false≢true}
use borrow.Author.Tests.{ltb-true, ltb-false}
use Rattle.std.proofs.Common.{⊎_elim, sym, subst, eq-or-lt_of_le, arith, leb-true, leb-false}
use Rattle.std.specs.Int.Signed.{≤ℤ_refl, lt_z}
use Rattle.numbers.specs.inside.QuestionLaws.{and_first, and_second}
use Rattle.numbers.specs.inside.SignedParts.{ints}
use Rattle.settlement.specs.law.Records.{rows_of, time_of}
use Rattle.settlement.specs.law.RecordRules.{rises}
use Rattle.settlement.specs.inside.Merging.{Meter, Left, Before, earliest}

module _ {meter : List ℤ} (m : Meter meter) where
  next_later : (i : ℕ) → suc i < rows_of meter → time_of meter i <ℤ time_of meter (suc i)
  unfolding rises
  next_later i h = let r = m.rising (suc i) h in omega (ints, r)

  pub earlier : (x y : ℕ) → x < y → y < rows_of meter → time_of meter x <ℤ time_of meter y
  earlier x zero l h = let f : ⊥ = omega (arith, l) in absurd f
  earlier x (suc y) l h =
      let n = next_later y h in
      ⊎_elim (λ e. subst (λ (z : ℕ). time_of meter z <ℤ time_of meter (suc y)) (sym e) n)
      (λ p. let r = earlier x y p (omega (arith, h)) in omega (ints, r, n))
      (eq-or-lt_of_le {n = x} {m = y} (omega (arith, l)))

  pub not_later : (x y : ℕ) → x < y + 1 → y < rows_of meter → time_of meter x ≤ℤ time_of meter y
  not_later x y l h =
      ⊎_elim (λ e. subst (λ (z : ℕ). time_of meter x ≤ℤ time_of meter z) e (≤ℤ_refl (time_of meter x)))
      (λ p. let r = earlier x y p h in omega (ints, r))
      (eq-or-lt_of_le {n = x} {m = y} (omega (arith, l)))

-- 61 of a row after the first
pub rises_later : (meter : List ℤ) (i : ℕ) → (i ≡ 0 → ⊥) → rises meter i ≡ lt_z (time_of meter (i - 1)) (time_of meter i)
unfolding rises
rises_later meter zero h = absurd (h refl)
rises_later meter (suc i) h = let e : suc i - 1 ≡ i = omega arith in rw e

-- ---- whose row is the earliest

module _ (meter other : List ℤ) (i j : ℕ) where
  pub is_left : earliest meter other i j ≡ true → i < rows_of meter
  is_left e = ltb-true i (rows_of meter) (and_first (ltb i (rows_of meter)) _ e)

  pub is_before : earliest meter other i j ≡ true → Before meter other i j
  is_before e h = go (leb (rows_of other) j) refl (and_second (ltb i (rows_of meter)) _ e)
    where
      go : (b : Bool) → leb (rows_of other) j ≡ b → (b || lt_z (time_of meter i) (time_of other j)) ≡ true → time_of meter i <ℤ time_of other j
      go true l e = absurd (omega (arith, h, leb-true (rows_of other) j l))
      go false l e = omega (ints, e)

  -- what a row that is not the earliest leaves
  not_earliest : earliest meter other i j ≡ false → i < rows_of meter → (j < rows_of other) × (time_of other j ≤ℤ time_of meter i)
  not_earliest e h = go (ltb i (rows_of meter)) (leb (rows_of other) j) (lt_z (time_of meter i) (time_of other j)) refl refl refl e
    where
      go : (a b c : Bool) → ltb i (rows_of meter) ≡ a → leb (rows_of other) j ≡ b → lt_z (time_of meter i) (time_of other j) ≡ c → (a && (b || c)) ≡ false
          → (j < rows_of other) × (time_of other j ≤ℤ time_of meter i)
      go false b c p q r e = absurd (omega (arith, h, ltb-false i (rows_of meter) p))
      go true true c p q r e = absurd (false≢true (sym e))
      go true false true p q r e = absurd (false≢true (sym e))
      go true false false p q r e = (omega (arith, leb-false (rows_of other) j q), omega (ints, r))

-- where neither record's row is the earliest, both are left, of one time
pub same_time : {sender receiver : List ℤ} {i j : ℕ} → Left sender receiver i j → earliest sender receiver i j ≡ false → earliest receiver sender j i ≡ false
    → (i < rows_of sender) × (j < rows_of receiver) × (time_of sender i ≡ time_of receiver j)
same_time {sender} {receiver} {i} {j} l a b = go (ltb i (rows_of sender)) refl
  where
    go : (t : Bool) → ltb i (rows_of sender) ≡ t → (i < rows_of sender) × (j < rows_of receiver) × (time_of sender i ≡ time_of receiver j)
    go true p =
        let h = ltb-true i (rows_of sender) p in
        let n = not_earliest sender receiver i j a h in
        let o = not_earliest receiver sender j i b n.0 in
        (h, n.0, omega (ints, n.1, o.1))
    go false p =
        let n = ltb-false i (rows_of sender) p in
        let o = not_earliest receiver sender j i b (omega (arith, n, l.upto_sender, l.more)) in
        absurd (omega (arith, n, o.0))
