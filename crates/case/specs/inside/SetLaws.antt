-- What the gathered sets have in them: a node set the ends of the arcs that it was gathered from and no other node, an arc set the arcs that were named.
-- And 16's test of a node set, by its members and as the code makes it: the set is within both of two sets.
-- Assumes nothing.
use Rattle.std.specs.Prelude.{◌≡◌, Bool, not, ◌&&◌, ◌||◌, List, ◌⊎◌, eqb, ltb, ℤ, pos}
use Rattle.std.proofs.Math.Path.{refl}
use Rattle.std.proofs.Common.{sym, ap, ◌∙◌, inl, inr, ⊎_elim, pow-suc, one-mul, add_comm}
use Rattle.std.proofs.Math.Bool.{true, false}
use Prim.Native.Nat.{ℕ, zero, suc, ◌+◌, ◌*◌, ◌/◌, ◌^◌, ◌<◌, ◌≤◌, max}
use native.Mathlib.Omega.{arith}
use borrow.Author.Tests.{ltb-true, ltb-false, lt-ltb, eqb-true, eq-eqb, ne_eqb}
use Rattle.std.specs.Int.Bits.{bit_or, or_step}
use Rattle.std.proofs.lemmas.Nat.{or_shr, or_shifted}
use Rattle.std.proofs.Math.Dec.{eqb-zero-suc, eqb-suc-zero, eqb-suc-suc}
use Rattle.numbers.specs.law.Signed.{pos_part}
use Rattle.numbers.specs.inside.SignedParts.{ints, size}
use Rattle.numbers.specs.law.Sets.{bit, member_of, subset_of}
use Rattle.numbers.specs.inside.SetLaws.{bit_suc, bit_zero, bit_high}
use Rattle.numbers.specs.law.Sums.{sum_n, only_n}
use Rattle.case.specs.law.Extents.{set_room}
use Rattle.case.specs.law.Layout.{arcs_of}
use Rattle.case.specs.law.Records.{arc_of}
use Rattle.case.specs.law.StationArcs.{belongs, arcs_before, arc_bit, arc_set}
use Rattle.case.specs.law.StationNodes.{with_node, ends_of, station_nodes, plain, plain_nodes, fence_node}
use Rattle.case.specs.law.StationFields.{first_items}
use Rattle.case.specs.law.Directions.{only_fence}
use Rattle.case.specs.inside.FieldLaws.{and_first, and_second}
use Rattle.case.specs.claims.Says.{Between}
use Rattle.case.specs.claims.CaseRules.{Ends}
use Rattle.case.specs.inside.SaysLaws.{subset_says}
use Rattle.case.specs.inside.CountLaws.{before_yes, before_mono, arcs_lt, every_at, at_every}

-- ---- items of a union, and of a set of one item

pub bit_or_lem : (a b i : ℕ) → bit (bit_or a b) i ≡ max (bit a i) (bit b i)
bit_or_lem a b i = rw or_shr (let k = or_step (a / 2 ^ i) (b / 2 ^ i) in omega arith)

pub bit_pow : (v i : ℕ) → bit (2 ^ v) i ≡ only_n (eqb v i) 1
bit_pow zero zero = refl
bit_pow zero (suc i) = rw eqb-zero-suc (bit_suc 1 i ∙ bit_zero i)
bit_pow (suc v) zero = rw (eqb-suc-zero, pow-suc 2 v) (omega arith)
bit_pow (suc v) (suc i) =
    let h : 2 ^ suc v / 2 ≡ 2 ^ v = rw (pow-suc 2 v) (omega arith) in
    rw eqb-suc-suc (bit_suc (2 ^ suc v) i ∙ ap (λ (n : ℕ). bit n i) h ∙ bit_pow v i)

-- a set with one item more at its upper end
top : (k x i : ℕ) → x < 2 ^ k → bit (x + 2 ^ k) i ≡ max (only_n (eqb k i) 1) (bit x i)
top k x i h =
    let e : x + 2 ^ k ≡ bit_or (1 * 2 ^ k) x = sym (or_shifted 1 k x h ∙ rw one-mul (add_comm (2 ^ k) x)) in
    rw e (bit_or_lem (1 * 2 ^ k) x i ∙ rw (one-mul, bit_pow))

-- ---- node sets

pub node_keeps : (set v i : ℕ) → bit set i ≤ bit (with_node set v) i
unfolding with_node
node_keeps set v i = go (ltb v set_room) refl
  where
    go : (b : Bool) → ltb v set_room ≡ b → bit set i ≤ bit (with_node set v) i
    go true e = rw e (omega (arith, bit_or_lem set (2 ^ v) i))
    go false e = rw e (omega arith)

pub node_in : (set v : ℕ) → v < set_room → bit (with_node set v) v ≡ 1
unfolding with_node
node_in set v h = rw (lt-ltb v set_room h) (omega (arith, bit_or_lem set (2 ^ v) v, bit_pow v v ∙ ap (λ (b : Bool). only_n b 1) (eq-eqb v v refl)))

pub node_only : (set v i : ℕ) → bit (with_node set v) i ≡ 1 → (bit set i ≡ 1) ⊎ (v ≡ i)
unfolding with_node
node_only set v i h = go (ltb v set_room) refl
  where
    by : (b : Bool) → eqb v i ≡ b → bit (bit_or set (2 ^ v)) i ≡ 1 → (bit set i ≡ 1) ⊎ (v ≡ i)
    by true e g = inr (eqb-true v i e)
    by false e g = inl (omega (arith, g, bit_or_lem set (2 ^ v) i, bit_pow v i ∙ ap (λ (b : Bool). only_n b 1) e))

    go : (b : Bool) → ltb v set_room ≡ b → (bit set i ≡ 1) ⊎ (v ≡ i)
    go true e = by (eqb v i) refl (rw e at h)
    go false e = inl (rw e at h)

module _ (case : List ℤ) (w : ℕ → Bool) where
  ends_keeps : (n v : ℕ) → bit (ends_of case w n) v ≤ bit (ends_of case w (suc n)) v
  unfolding ends_of
  ends_keeps n v = go (w n) refl
    where
      go : (b : Bool) → w n ≡ b → bit (ends_of case w n) v ≤ bit (ends_of case w (suc n)) v
      go true e =
          let from = (arc_of case n).from in
          rw e (omega (arith, node_keeps (ends_of case w n) from v, node_keeps (with_node (ends_of case w n) from) (arc_of case n).to v))
      go false e = rw e (omega arith)

  pub ends_in_lem : (n e v : ℕ) → e < n → w e ≡ true → v < set_room → ((arc_of case e).from ≡ v) ⊎ ((arc_of case e).to ≡ v)
      → bit (ends_of case w n) v ≡ 1
  unfolding ends_of
  ends_in_lem zero e v p h l d = let f : ⊥ = omega arith in absurd f
  ends_in_lem (suc n) e v p h l d = go (λ q. ends_in_lem n e v q h l d) (ltb e n) refl
    where
      last : w n ≡ true → ((arc_of case n).from ≡ v) ⊎ ((arc_of case n).to ≡ v) → bit (ends_of case w (suc n)) v ≡ 1
      last k x =
          rw k
          (⊎_elim
          (λ (y : (arc_of case n).from ≡ v). most (with_node (ends_of case w n) (arc_of case n).from) (rw y (node_in (ends_of case w n) v l)))
          (λ (y : (arc_of case n).to ≡ v). rw y (node_in _ v l))
          x)
        where
          most : (set : ℕ) → bit set v ≡ 1 → bit (with_node set (arc_of case n).to) v ≡ 1
          most set y = omega (arith, node_keeps set (arc_of case n).to v, y)

      go : (e < n → bit (ends_of case w n) v ≡ 1) → (b : Bool) → ltb e n ≡ b → bit (ends_of case w (suc n)) v ≡ 1
      go r true q = omega (arith, r (ltb-true e n q), ends_keeps n v)
      go r false q = let z : e ≡ n = omega (arith, ltb-false e n q) in last (rw z at h) (rw z at d)

  later : {n v : ℕ} → Ends case w n v → Ends case w (suc n) v
  later r = record { arc = r.arc; early = omega (arith, r.early); named = r.named; ends = r.ends }

  pub in_ends : (n v : ℕ) → bit (ends_of case w n) v ≡ 1 → Ends case w n v
  unfolding ends_of
  in_ends zero v h = let f : ⊥ = omega (arith, h, bit_zero v) in absurd f
  in_ends (suc n) v h = go (λ q. later (in_ends n v q)) (w n) refl
    where
      this : w n ≡ true → ((arc_of case n).from ≡ v) ⊎ ((arc_of case n).to ≡ v) → Ends case w (suc n) v
      this k x = record { arc = n; early = omega arith; named = k; ends = x }

      go : (bit (ends_of case w n) v ≡ 1 → Ends case w (suc n) v) → (b : Bool) → w n ≡ b → Ends case w (suc n) v
      go r true k =
          ⊎_elim
          (λ (y : bit (with_node (ends_of case w n) (arc_of case n).from) v ≡ 1).
          ⊎_elim r (λ (x : (arc_of case n).from ≡ v). this k (inl x)) (node_only (ends_of case w n) (arc_of case n).from v y))
          (λ (y : (arc_of case n).to ≡ v). this k (inr y))
          (node_only (with_node (ends_of case w n) (arc_of case n).from) (arc_of case n).to v (rw k at h))
      go r false k = r (rw k at h)

-- "A station's nodes are the ends of its artificial arcs."
module _ (case : List ℤ) (v : ℕ) where
  pub end_in_station : (s e : ℕ) → e < arcs_of case → belongs case s e ≡ true → v < set_room → ((arc_of case e).from ≡ v) ⊎ ((arc_of case e).to ≡ v)
      → member_of (station_nodes case s) v ≡ true
  unfolding station_nodes
  end_in_station s e p h l d = eq-eqb _ _ (ends_in_lem case (belongs case s) (arcs_of case) e v p h l d)

  pub station_end_of : (s : ℕ) → member_of (station_nodes case s) v ≡ true → Ends case (belongs case s) (arcs_of case) v
  unfolding station_nodes
  station_end_of s h = in_ends case (belongs case s) (arcs_of case) v (eqb-true _ _ h)

  -- the same of the arcs of kind 0 to 2
  pub end_in_plain : (e : ℕ) → e < arcs_of case → plain case e ≡ true → v < set_room → ((arc_of case e).from ≡ v) ⊎ ((arc_of case e).to ≡ v)
      → member_of (plain_nodes case) v ≡ true
  unfolding plain_nodes
  end_in_plain e p h l d = eq-eqb _ _ (ends_in_lem case (plain case) (arcs_of case) e v p h l d)

  pub plain_end_of : member_of (plain_nodes case) v ≡ true → Ends case (plain case) (arcs_of case) v
  unfolding plain_nodes
  plain_end_of h = in_ends case (plain case) (arcs_of case) v (eqb-true _ _ h)

-- ---- arc sets: the station's j-th arc is item j, and is in the set where w names it

module _ (case : List ℤ) (s : ℕ) (w : ℕ → Bool) where
  pub arc_in : (n e : ℕ) → e < n → belongs case s e ≡ true → bit (arc_set case s w n) (arcs_before case s e) ≡ only_n (w e) 1
  unfolding arc_set sum_n
  arc_in zero e p h = let f : ⊥ = omega arith in absurd f
  arc_in (suc n) e p h = go (λ q. arc_in n e q h) (ltb e n) refl
    where
      -- the item of a later arc is another
      others : e < n → (b v : Bool) → belongs case s n ≡ b → w n ≡ v → bit (arc_set case s w n) (arcs_before case s e) ≡ only_n (w e) 1
          → bit (arc_set case s w (suc n)) (arcs_before case s e) ≡ only_n (w e) 1
      others q true true y z r =
          let m : arcs_before case s e + 1 ≤ arcs_before case s n = omega (arith, before_yes case s e h, before_mono case s (e + 1) n (omega arith)) in
          let k = ne_eqb (arcs_before case s n) (arcs_before case s e) (λ x. omega arith) in
          rw (y, z) (omega (arith, r, rw k at (top (arcs_before case s n) (arc_set case s w n) (arcs_before case s e) (arcs_lt case s w n))))
      others q true false y z r = let o : sum_n n (arc_bit case s w) + 0 ≡ sum_n n (arc_bit case s w) = omega arith in rw (y, z, o) r
      others q false v y z r = let o : sum_n n (arc_bit case s w) + 0 ≡ sum_n n (arc_bit case s w) = omega arith in rw (y, o) r

      -- its own
      own : (v : Bool) → belongs case s n ≡ true → w n ≡ v → bit (arc_set case s w (suc n)) (arcs_before case s n) ≡ only_n (w n) 1
      own true y z =
          let k = eq-eqb (arcs_before case s n) (arcs_before case s n) refl in
          let x = bit_high (arcs_before case s n) (arc_set case s w n) (arcs_before case s n) (arcs_lt case s w n) (omega arith) in
          rw (y, z) (omega (arith, x, rw k at (top (arcs_before case s n) (arc_set case s w n) (arcs_before case s n) (arcs_lt case s w n))))
      own false y z =
          let o : sum_n n (arc_bit case s w) + 0 ≡ sum_n n (arc_bit case s w) = omega arith in
          rw (y, z, o) (bit_high (arcs_before case s n) (arc_set case s w n) (arcs_before case s n) (arcs_lt case s w n) (omega arith))

      go : (e < n → bit (arc_set case s w n) (arcs_before case s e) ≡ only_n (w e) 1) → (b : Bool) → ltb e n ≡ b
          → bit (arc_set case s w (suc n)) (arcs_before case s e) ≡ only_n (w e) 1
      go r true q = let l = ltb-true e n q in others l (belongs case s n) (w n) refl refl (r l)
      go r false q = let z : e ≡ n = omega (arith, ltb-false e n q) in rw z (own (w n) (rw z at h) refl)

  pub arc_member : (n e : ℕ) → e < n → belongs case s e ≡ true → member_of (pos (arc_set case s w n)) (arcs_before case s e) ≡ w e
  arc_member n e p h = rw (arc_in n e p h) (flag (w e))
    where
      flag : (b : Bool) → eqb (only_n b 1) 1 ≡ b
      flag true = refl
      flag false = refl

-- ---- a set that holds only fence nodes

either : (a b : Bool) → (a ≡ true → b ≡ true) → (b ≡ true → a ≡ true) → a ≡ b
either true b f g = sym (f refl)
either false true f g = g refl
either false false f g = refl

pub node_set : {set : ℤ} → Between (pos 0) set (first_items set_room) → pos_part set < 2 ^ set_room
node_set {set} r = omega (ints, r.most, size set)

module _ (fence : ℕ → Bool) (set : ℤ) where
  pub only_at : pos_part set < 2 ^ set_room → only_fence fence set ≡ true → (v : ℕ) → member_of set v ≡ true → fence v ≡ true
  unfolding only_fence
  only_at h e v m = go (ltb v set_room) refl
    where
      go : (b : Bool) → ltb v set_room ≡ b → fence v ≡ true
      go true l = rw m at (every_at set_room (λ i. not (member_of set i) || fence i) e v (ltb-true v set_room l))
      go false l = let f : ⊥ = omega (arith, bit_high set_room (pos_part set) v h (ltb-false v set_room l), eqb-true (bit (pos_part set) v) 1 m) in absurd f

  pub at_only : ((v : ℕ) → member_of set v ≡ true → fence v ≡ true) → only_fence fence set ≡ true
  unfolding only_fence
  at_only f = at_every set_room (λ i. not (member_of set i) || fence i) (λ i p. go i (member_of set i) refl)
    where
      go : (i : ℕ) (b : Bool) → member_of set i ≡ b → (not (member_of set i) || fence i) ≡ true
      go i true e = rw (e, f i e)
      go i false e = rw e

  pub only_members : Between (pos 0) set (first_items set_room) → only_fence fence set ≡ true → (v : ℕ) → member_of set v ≡ true → fence v ≡ true
  only_members r = only_at (node_set r)

-- by its members, or within the station's nodes and within those that end an arc of kind 0 to 2
pub fence_of : (case : List ℤ) (s : ℕ) (set : ℤ) → pos_part set < 2 ^ set_room
    → only_fence (fence_node case s) set ≡ (subset_of set (station_nodes case s) && subset_of set (plain_nodes case))
fence_of case s set h =
    let inside = station_nodes case s in
    let plain = plain_nodes case in
    either (only_fence (fence_node case s) set) (subset_of set inside && subset_of set plain)
    (λ e. both _ _ ((subset_says set inside).passed (λ v m. and_first _ _ (only_at (fence_node case s) set h e v m)))
    ((subset_says set plain).passed (λ v m. and_second (member_of inside v) _ (only_at (fence_node case s) set h e v m))))
    (λ e. at_only (fence_node case s) set (λ v m. both _ _
    ((subset_says set inside).fact (and_first _ _ e) v m)
    ((subset_says set plain).fact (and_second (subset_of set inside) _ e) v m)))
  where
    both : (a b : Bool) → a ≡ true → b ≡ true → (a && b) ≡ true
    both a b p q = rw (p, q)
