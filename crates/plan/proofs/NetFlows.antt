-- Net flows in an array, gathered arc by arc: one arc more is two stores, one at each of its ends.
use Rattle.case.specs.law.Extents.{arc_capacity, node_capacity}
use Rattle.plan.proofs.Common.{◌≡◌, refl, sym, ap, ◌∙◌, Bool, true, false, ℕ, ◌+◌, ◌<◌, ◌≤◌, arith, eqb, ℤ, pos, nat_abs, ◌+ℤ◌, ◌-ℤ◌, length, w64, to_z, of_z}
use Rattle.plan.proofs.Common.{Held, held, held_fits, param, ◌+ʳ◌, ◌-ʳ◌}
use mir.Val.{SFits}
use mathlib.Core.List.{List}
use Prim.Native.Nat.{zero, suc}
use native.Mathlib.Numerals.{add-one}
use borrow.Author.Tests.{eqb-true, eqb-false}
use lib.IntN.{neg_ℤ, +ℤ_idr}
use lib.ListN.{get_or, set, replicate, length-set}
use lib.Seq.{get_or-set_same, get_or-set_other}
use Rattle.numbers.specs.inside.SignedLinear.{v, ◌⊞◌, ◌⊟◌, eq! }
use Rattle.numbers.specs.inside.SignedBounds.{Bounded, abs_add, abs_neg}
use Rattle.numbers.specs.law.Sums.{sum, only}
use Rattle.numbers.specs.inside.SumLaws.{abs_sum_le, abs_only_le}
use Rattle.case.specs.law.Layout.{number_at}
use Rattle.case.specs.law.LayoutOf.{Holds}
use Rattle.plan.specs.inside.NetFlow.{moved_at, NetSized}
use Rattle.plan.proofs.SignedReads.{read}

-- ---- one store

-- a store that adds x at one node, or takes it off; nothing is done at the others, where x counts as 0
pub put : (f : ℤ → ℤ → ℤ) → ((y : ℤ) → f y (pos 0) ≡ y) → (net : List ℤ) (from : ℕ) (z x : ℤ) → from < length net → z ≡ f (number_at net from) x
    → (i : ℕ) → number_at (set net from z) i ≡ f (number_at net i) (only (eqb from i) x)
put f zero_right net from z x l e i = go (eqb from i) refl
  where
    go : (b : Bool) → eqb from i ≡ b → number_at (set net from z) i ≡ f (number_at net i) (only b x)
    go true p = let q = eqb-true from i p in rw (← q) (get_or-set_same net from z (pos 0) l ∙ e)
    go false p = get_or-set_other net from i z (pos 0) (λ q. eqb-false from i p (sym q)) ∙ sym (zero_right (number_at net i))

-- what is added stays within the room
pub room : (net : List ℤ) (from to : ℕ) (out : ℤ) → Bounded (number_at net to) 1000000000000 → Bounded out 20000000
    → Bounded (number_at net to +ℤ only (eqb from to) out) 1000020000000
room net from to out n o = record {
  bound = omega (arith, abs_add (number_at net to) (only (eqb from to) out), abs_only_le (eqb from to) out o.bound, n.bound);
}

-- ---- two stores, one at each end of an arc

module _ {net : List ℤ} {from to : ℕ} {out into : ℤ} (p : from < node_capacity) (q : to < node_capacity) (long : length net ≡ node_capacity)
    (o : Bounded out 20000000) (n : Bounded into 20000000) (z : NetSized net) where
  -- what is stored at `from`, and the flows then
  leaves : Held (to_z w64 (of_z w64 (number_at net from)) +ℤ to_z w64 (of_z w64 out)) (number_at net from +ℤ out) 1000020000000
  leaves = param (z.each from p) tt +ʳ param o tt

  abbrev half : List ℤ
  half = set net from (to_z w64 (of_z w64 (to_z w64 (of_z w64 (number_at net from)) +ℤ to_z w64 (of_z w64 out))))

  half_is : (i : ℕ) → number_at half i ≡ number_at net i +ℤ only (eqb from i) out
  half_is = put ◌+ℤ◌ +ℤ_idr net from _ out (omega (arith, long, p)) (held leaves tt).val

  -- what is stored at `to`
  abbrev right : ℤ
  right = to_z w64 (of_z w64 (number_at half to)) -ℤ to_z w64 (of_z w64 into)

  enters : Held right (number_at net to +ℤ only (eqb from to) out -ℤ into) 1000040000000
  enters = read (half_is to) (room net from to out (z.each to q) o) tt -ʳ param n tt

  pub enters_fits : SFits w64 right
  enters_fits = held_fits enters tt

  pub moved_is : (length (set half to (to_z w64 (of_z w64 right))) ≡ node_capacity)
      × Holds (pos 0) (set half to (to_z w64 (of_z w64 right))) (moved_at net from to out into) node_capacity
  unfolding moved_at
  moved_is =
      let e : to_z w64 (of_z w64 right) ≡ number_at half to -ℤ into = (held enters tt).val ∙ ap (λ (n : ℤ). n -ℤ into) (sym (half_is to)) in
      let l : to < length half = simp length-set (omega (arith, long, q)) in (
        simp length-set long,
        record { each = λ i p. put ◌-ℤ◌ +ℤ_idr half to (to_z w64 (of_z w64 right)) into l e i ∙ ap (λ (n : ℤ). n -ℤ only (eqb to i) into) (half_is i) },
      )

-- ---- arc by arc

-- node i's flow is the sum of what the first e arcs put to it
pub record Gathers (net : List ℤ) (f : ℕ → ℕ → ℤ) (e : ℕ) : Type 0 where
  pub each : (i : ℕ) → i < node_capacity → number_at net i ≡ sum e (f i)

zeros : (n i : ℕ) → get_or (replicate n (pos 0)) i (pos 0) ≡ pos 0
zeros zero i = refl
zeros (suc n) zero = refl
zeros (suc n) (suc i) = zeros n i

pub gathers_none : (f : ℕ → ℕ → ℤ) → Gathers (replicate node_capacity (pos 0)) f 0
unfolding sum
gathers_none f = record { each = λ i p. zeros node_capacity i }

module _ {net : List ℤ} {f : ℕ → ℕ → ℤ} {e : ℕ} (g : Gathers net f e) where
  -- an arc that puts nothing
  pub gathers_same : ((i : ℕ) → f i e ≡ pos 0) → Gathers net f (e + 1)
  unfolding sum
  gathers_same z = record { each = λ i p. rw (add-one e, z i) (g.each i p ∙ sym (+ℤ_idr (sum e (f i)))) }

  -- an arc from one node to another
  pub gathers_more : {next : List ℤ} (from to : ℕ) (out into : ℤ) → Holds (pos 0) next (moved_at net from to out into) node_capacity
      → ((i : ℕ) → f i e ≡ only (eqb from i) out -ℤ only (eqb to i) into) → Gathers next f (e + 1)
  unfolding sum moved_at
  gathers_more from to out into h z = record {
    each = λ i p.
        let x = only (eqb from i) out in
        let y = only (eqb to i) into in
        let s = sum e (f i) in
        rw (add-one e, z i) (h.each i p ∙ ap (λ (n : ℤ). n +ℤ x -ℤ y) (g.each i p) ∙ eq! (v s ⊞ v x ⊟ v y) (v s ⊞ (v x ⊟ v y)) (omega arith));
  }

  -- no node's flow is too large for one arc more
  pub gathers_sized : e ≤ arc_capacity → ((i k : ℕ) → k < e → nat_abs (f i k) ≤ 40000000) → NetSized net
  gathers_sized l b = record {
    each = λ i p. record { bound = rw (g.each i p) (omega (arith, abs_sum_le e 40000000 (f i) (b i))) };
  }

-- what one arc puts to a node is at most twice its flow
pub put_sized : (b d : Bool) {x y : ℤ} → Bounded x 20000000 → Bounded y 20000000 → nat_abs (only b x -ℤ only d y) ≤ 40000000
put_sized b d {x} {y} h k = omega (arith, abs_add (only b x) (neg_ℤ (only d y)), abs_neg (only d y), abs_only_le b x h.bound, abs_only_le d y k.bound)
