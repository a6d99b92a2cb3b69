-- What a look-up finds, by induction on the rows: nothing where no row has the time, and in a record whose times rise the row that has it.
-- Assumes nothing.
use Rattle.std.specs.Prelude.{Bool, ◌&&◌, List, ◌≡◌, refl, ℕ, zero, suc, ◌<◌, ◌≤◌, ℤ, ◌<ℤ◌}
use Rattle.std.proofs.Math.Bool.{true, false}
use Rattle.std.proofs.Math.Logic.{⊎_elim}
use Rattle.std.proofs.Common.{sym, eq-or-lt_of_le, arith, leb-true, leb-false}
use Rattle.std.proofs.Math.Path.{subst}
use Rattle.std.proofs.Math.Dec.{leb}
use Rattle.std.specs.Int.Signed.{le_z}
use Rattle.numbers.specs.inside.SignedParts.{ints}
use Rattle.settlement.specs.law.Records.{rows_of, time_of, grams_of}
use Rattle.settlement.specs.law.LookUp.{found, missing, same_time, look_up_in, look_up}
use Rattle.settlement.specs.law.Settled.{opposite}
use Rattle.settlement.specs.inside.Merging.{Meter, Before}
use Rattle.settlement.specs.inside.RecordLaws.{earlier}

-- ---- two times

same_yes : {a b : ℤ} → a ≡ b → same_time a b ≡ true
same_yes {a} {b} e =
    let p : le_z a b ≡ true = omega (ints, e) in
    let q : le_z b a ≡ true = omega (ints, e) in
    rw (p, q)

above : {a b : ℤ} → a <ℤ b → le_z b a ≡ false
above {a} {b} h = go (le_z b a) refl
  where
    go : (t : Bool) → le_z b a ≡ t → le_z b a ≡ false
    go true e = let f : ⊥ = omega (ints, h, e) in absurd f
    go false e = e

pub earlier_differs : {a b : ℤ} → a <ℤ b → same_time a b ≡ false
earlier_differs {a} {b} h = go (le_z a b) (above h)
  where
    go : (t : Bool) {u : Bool} → u ≡ false → (t && u) ≡ false
    go true e = e
    go false e = refl

later_differs : {a b : ℤ} → a <ℤ b → same_time b a ≡ false
later_differs h = rw (above h)

-- ---- the rows of a record

pub none_found : (meter : List ℤ) (time : ℤ) (n : ℕ) → ((y : ℕ) → y < n → same_time (time_of meter y) time ≡ false)
    → look_up_in meter time n ≡ missing
unfolding look_up_in
none_found meter time zero h = refl
none_found meter time (suc n) h = rw (h n (omega arith)) (none_found meter time n (λ y l. h y (omega (arith, l))))

row_in : {meter : List ℤ} → Meter meter → (y n : ℕ) → y < n → n ≤ rows_of meter → look_up_in meter (time_of meter y) n ≡ found (grams_of meter y)
unfolding look_up_in
row_in m y zero l h = let f : ⊥ = omega (arith, l) in absurd f
row_in {meter} m y (suc n) l h =
    ⊎_elim (λ e. subst (λ (z : ℕ). look_up_in meter (time_of meter z) (suc n) ≡ found (grams_of meter z)) (sym e) (rw (same_yes {a = time_of meter n} refl)))
    (λ p. rw (later_differs (earlier m y n p (omega (arith, h)))) (row_in m y n p (omega (arith, h))))
    (eq-or-lt_of_le {n = y} {m = n} (omega (arith, l)))

module _ (meter : List ℤ) {other : List ℤ} (o : Meter other) (i j : ℕ) where
  -- a row whose time row j of the other record has
  pub row_found : j < rows_of other → time_of meter i ≡ time_of other j → opposite meter other i ≡ found (grams_of other j)
  unfolding opposite look_up
  row_found h e = rw e (row_in o j (rows_of other) h (omega arith))

  -- a row between row j of the other record and those before it
  pub row_missing : i < rows_of meter → ((y : ℕ) → y < j → Before other meter y i) → Before meter other i j → opposite meter other i ≡ missing
  unfolding opposite look_up
  row_missing l passed before = none_found other (time_of meter i) (rows_of other) (λ y h. go y h (leb j y) refl)
    where
      go : (y : ℕ) → y < rows_of other → (t : Bool) → leb j y ≡ t → same_time (time_of other y) (time_of meter i) ≡ false
      go y h true e = later_differs (after (leb-true j y e))
        where
          after : j ≤ y → time_of meter i <ℤ time_of other y
          after p =
              ⊎_elim (λ q. subst (λ (z : ℕ). time_of meter i <ℤ time_of other z) q (before (omega (arith, p, h))))
              (λ q. let b = before (omega (arith, q, h)) in let r = earlier o j y q h in omega (ints, b, r))
              (eq-or-lt_of_le {n = j} {m = y} p)
      go y h false e = earlier_differs (passed y (leb-false j y e) l)
