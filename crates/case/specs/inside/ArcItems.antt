-- A set of a station's arcs beside those of its arcs that `w` names: whether it is within them or apart from them, arc by arc. Item j of either set is the
-- station's j-th arc.
-- Assumes nothing.
use Rattle.std.specs.Prelude.{◌≡◌, Bool, true, List, ℕ, ◌<◌, ℤ, pos}
use Rattle.std.proofs.Common.{sym}
use Rattle.numbers.specs.law.Sets.{member_of, subset_of, disjoint_of}
use Rattle.case.specs.law.Layout.{arcs_of}
use Rattle.case.specs.law.StationArcs.{belongs, arcs_before, station_arcs, arc_set}
use Rattle.case.specs.claims.Says.{Says}
use Rattle.case.specs.inside.SaysLaws.{means, subset_says, disjoint_says, nth}
use Rattle.case.specs.inside.SetLaws.{arc_member}

module _ (case : List ℤ) (s : ℕ) (w : ℕ → Bool) (set : ℤ) (own : (j : ℕ) → member_of set j ≡ true → j < station_arcs case s) where
  -- what Q says of each item, it says of each arc
  by_arc : (Q : Bool → Type 0) {t : Bool} → Says t ((j : ℕ) → member_of set j ≡ true → Q (member_of (pos (arc_set case s w (arcs_of case))) j))
      → Says t ((e : ℕ) → e < arcs_of case → belongs case s e ≡ true → member_of set (arcs_before case s e) ≡ true → Q (w e))
  unfolding arcs_before
  by_arc Q t =
      means t (λ f e p b m. rw (arc_member case s w (arcs_of case) e p b) at (f (arcs_before case s e) m))
      (λ f j m.
      let a = nth (belongs case s) (arcs_of case) j (own j m) in
      let q = f a.item a.early a.named (rw a.before m) in
      rw a.before at (rw (sym (arc_member case s w (arcs_of case) a.item a.early a.named)) at q))

  pub on_says : Says (subset_of set (pos (arc_set case s w (arcs_of case))))
      ((e : ℕ) → e < arcs_of case → belongs case s e ≡ true → member_of set (arcs_before case s e) ≡ true → w e ≡ true)
  on_says = by_arc (λ t. t ≡ true) (subset_says set (pos (arc_set case s w (arcs_of case))))

  pub off_says : Says (disjoint_of set (pos (arc_set case s w (arcs_of case))))
      ((e : ℕ) → e < arcs_of case → belongs case s e ≡ true → member_of set (arcs_before case s e) ≡ true → w e ≡ true → ⊥)
  off_says = by_arc (λ t. t ≡ true → ⊥) (disjoint_says set (pos (arc_set case s w (arcs_of case))))
