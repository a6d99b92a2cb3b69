-- What it is that a set names only nodes, by its items; and the array that says of each node whether it is in the set.
use Rattle.std.specs.Prelude.{◌≡◌, Bool, true, false, List, leb, eqb, get_or, ℤ, pos}
use Rattle.std.proofs.Math.Path.{refl, fun_ext}
use Rattle.std.proofs.Common.{◌∙◌, leb-true, leb-false, pow_mono}
use Prim.Native.Nat.{ℕ, zero, suc, ◌^◌, ◌≤◌, ◌<◌}
use native.Mathlib.Omega.{arith}
use Rattle.std.specs.Int.Signed.{le_z}
use Rattle.numbers.specs.law.Signed.{pos_part}
use Rattle.numbers.specs.inside.SignedParts.{size, ints}
use Rattle.numbers.specs.law.Sets.{bit, member_of, count_of, subset_of}
use Rattle.numbers.specs.inside.SetLaws.{bit_high, ones_sum}
use Rattle.numbers.specs.law.Sums.{only_n, count}
use Rattle.numbers.specs.inside.SumLaws.{sum_n_cong}
use Rattle.case.specs.law.Extents.{set_room}
use Rattle.case.specs.law.Layout.{nodes_of}
use Rattle.case.specs.law.LayoutOf.{Holds, Clear}
use Rattle.case.specs.inside.FieldLaws.{and_second}
use Rattle.case.specs.law.StationFields.{first_items}
use Rattle.case.specs.inside.SaysLaws.{first_says, first_below}
use Rattle.plan.specs.law.Ledger.{is_node_set, names_nodes}

module _ (case : List ℤ) (set : ℤ) (kept : names_nodes case set ≡ true) where
  pub within : subset_of set (first_items (nodes_of case)) ≡ true
  unfolding names_nodes
  within = and_second (is_node_set set) (subset_of set (first_items (nodes_of case))) kept

  -- the count of its items is that of the nodes in it
  pub nodes_counted : count_of set ≡ count (nodes_of case) (member_of set)
  unfolding count
  nodes_counted =
      ones_sum (nodes_of case) (pos_part set) (first_below set (nodes_of case) within)
      ∙ sum_n_cong (nodes_of case) _ _ (λ u l. one (bit (pos_part set) u) (omega arith))
    where
      one : (b : ℕ) → b < 2 → b ≡ only_n (eqb b 1) 1
      one zero h = refl
      one (suc zero) h = refl
      one (suc (suc b)) h = let f : ⊥ = omega arith in absurd f

-- ---- and the other way round: a set of nodes passes 40

pub nodes_pass : (case : List ℤ) (set : ℤ) → nodes_of case ≤ set_room → le_z (pos 0) set ≡ true → ((u : ℕ) → member_of set u ≡ true → u < nodes_of case)
    → names_nodes case set ≡ true
unfolding names_nodes
nodes_pass case set few whole items = rw (whole, top, inside)
  where
    inside : subset_of set (first_items (nodes_of case)) ≡ true
    inside = (first_says set (nodes_of case)).passed items

    top : le_z set (first_items set_room) ≡ true
    top =
        let p : 2 ^ nodes_of case ≤ 2 ^ set_room = pow_mono few in
        let q : pos_part set ≤ 1152921504606846975 = omega (arith, first_below set (nodes_of case) inside) in
        omega (ints, size set)

-- ---- the test that an array of bools is: no node past its end is inside

unfoldable pub inside_of : List Bool → ℕ → Bool
inside_of xs v = get_or xs v false

-- an array that holds the first n answers for a set of such items is the set's test
pub members_are : (set : ℤ) (n : ℕ) {xs : List Bool} → subset_of set (first_items n) ≡ true → Holds false xs (member_of set) n → Clear false xs n
    → inside_of xs ≡ member_of set
unfolding inside_of
members_are set n {xs} few holds clear = fun_ext (λ v. at v (leb n v) refl)
  where
    at : (v : ℕ) (b : Bool) → leb n v ≡ b → get_or xs v false ≡ member_of set v
    at v true e =
        let l : n ≤ v = leb-true n v e in
        let z : bit (pos_part set) v ≡ 0 = bit_high n (pos_part set) v (first_below set n few) l in
        rw z (clear.each v l)
    at v false e = holds.each v (leb-false n v e)
