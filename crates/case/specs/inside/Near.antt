-- Reading at places that may lie past the end, where every number is 0: so a row may be read from its own beginning or from the end if that is nearer.
-- A machine's row is found so, each from the one before it.
-- Assumes nothing.
use Rattle.std.specs.Prelude.{◌≡◌, refl, Bool, true, false, List, ℕ, ◌+◌, ◌≤◌, min, leb, ℤ, pos, length, get_or}
use Rattle.std.proofs.Common.{◌∙◌, ap, sym, add-zero, arith, leb-true, leb-false}
use Rattle.std.proofs.Math.ListN.{get_or-eq_default}
use Rattle.case.specs.law.Layout.{machine_at, machine_width}
use Rattle.case.specs.law.Records.{machine_from, machine_row}
use Rattle.case.specs.inside.Places.{machine_next}

-- a number past the end
pub past : (case : List ℤ) (i : ℕ) → length case ≤ i → pos 0 ≡ get_or case i (pos 0)
past case i h = sym (get_or-eq_default case (pos 0) h)

-- what is read from a row on is the same from where the row begins, or from the end if that is nearer
pub near : (case : List ℤ) (offset j : ℕ) → get_or case (min offset (length case) + j) (pos 0) ≡ get_or case (offset + j) (pos 0)
near case offset j = go (leb offset (length case)) refl
  where
    go : (b : Bool) → leb offset (length case) ≡ b → get_or case (min offset (length case) + j) (pos 0) ≡ get_or case (offset + j) (pos 0)
    go true e = let h = leb-true offset (length case) e in let m : min offset (length case) ≡ offset = omega arith in rw m
    go false e =
        let h = leb-false offset (length case) e in
        let m : min offset (length case) ≡ length case = omega arith in
        rw m (sym (past case (length case + j) (omega arith)) ∙ past case (offset + j) (omega arith))

-- a number j places into a row, and its first, read from where `r` says that the row begins
module _ (case : List ℤ) (offset : ℕ) {r : ℕ} (e : r ≡ min offset (length case)) where
  pub row_number : (j : ℕ) → get_or case (r + j) (pos 0) ≡ get_or case (offset + j) (pos 0)
  row_number j = ap (λ (i : ℕ). get_or case (i + j) (pos 0)) e ∙ near case offset j

  pub row_first : get_or case r (pos 0) ≡ get_or case offset (pos 0)
  row_first = rw (add-zero r, add-zero offset) at (row_number 0)

-- ---- where the row of the station's machine m begins, or the end if that is nearer

pub record MachineHere (case : List ℤ) (offset m at : ℕ) : Type 0 where
  pub is : at ≡ min (machine_at case offset m) (length case)

-- a row past the end is as wide as one at the end
width_near : (case : List ℤ) (offset : ℕ) → machine_width case (min offset (length case)) ≡ machine_width case offset
unfolding machine_width
width_near case offset = refl

module _ {case : List ℤ} {offset m at : ℕ} (h : MachineHere case offset m at) where
  pub machine_here : machine_from case at ≡ machine_row case offset m
  machine_here = let row = machine_at case offset m in rw (row_first case row h.is, row_number case row h.is 1)

  pub machine_on : {next : ℕ} → next ≡ min (at + machine_width case at) (length case) → MachineHere case offset (m + 1) next
  machine_on e =
      let row = machine_at case offset m in
      let w : machine_width case at ≡ machine_width case row = ap (machine_width case) h.is ∙ width_near case row in
      record { is = omega (arith, e, w, h.is, machine_next case offset m) }
