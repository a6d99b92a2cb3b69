-- Counts, a station's arcs and the sets gathered from arcs, one item further, by whether the item is named; what every of some items says of one.
-- Assumes nothing.
use Rattle.std.specs.Prelude.{◌≡◌, Bool, List, ltb, ℤ}
use Rattle.std.proofs.Math.Path.{refl}
use Rattle.std.proofs.Common.{sym, ap, ◌∙◌, pow-suc, ltb-true, ltb-false}
use Rattle.std.proofs.Math.Bool.{true, false, and-false}
use Prim.Native.Nat.{ℕ, zero, suc, ◌+◌, ◌-◌, ◌^◌, ◌<◌, ◌≤◌}
use Rattle.std.proofs.Math.Numerals.{add-one}
use native.Mathlib.Omega.{arith}
use Rattle.std.proofs.lemmas.Nat.{or_lt}
use Rattle.std.proofs.Math.Pow.{pow-lt}
use Rattle.numbers.specs.law.Sums.{sum_n, only_n, count}
use Rattle.case.specs.law.Extents.{set_room}
use Rattle.case.specs.law.StationArcs.{belongs, arcs_before, arc_bit, arc_set, every}
use Rattle.case.specs.law.StationNodes.{with_node, with_ends, ends_of}
use Rattle.case.specs.inside.FieldLaws.{and_first, and_second}

-- ---- counts

module _ (w : ℕ → Bool) where
  pub count_none : count 0 w ≡ 0
  unfolding count sum_n
  count_none = refl

  pub count_yes : (i : ℕ) → w i ≡ true → count (i + 1) w ≡ count i w + 1
  unfolding count sum_n
  count_yes i e = rw (add-one i, e)

  pub count_no : (i : ℕ) → w i ≡ false → count (i + 1) w ≡ count i w
  unfolding count sum_n
  count_no i e = let z : count i w + 0 ≡ count i w = omega arith in rw (add-one i, e, z)

  pub count_grows : (i d : ℕ) → count i w ≤ count (i + d) w
  unfolding count sum_n
  count_grows i zero = let z : i + 0 ≡ i = omega arith in rw z (omega arith)
  count_grows i (suc d) = let z : i + suc d ≡ suc (i + d) = omega arith in rw z (omega (arith, count_grows i d))

pub count_same : (f g : ℕ → Bool) (n : ℕ) → ((i : ℕ) → i < n → f i ≡ g i) → count n f ≡ count n g
unfolding count sum_n
count_same f g zero h = refl
count_same f g (suc n) h =
    let e = count_same f g n (λ i p. h i (omega arith)) in
    let d = h n (omega arith) in
    rw (e, d)

-- ---- a station's arcs

module _ (case : List ℤ) (s : ℕ) where
  pub before_none : arcs_before case s 0 ≡ 0
  unfolding arcs_before
  before_none = count_none (belongs case s)

  pub before_yes : (e : ℕ) → belongs case s e ≡ true → arcs_before case s (e + 1) ≡ arcs_before case s e + 1
  unfolding arcs_before
  before_yes e = count_yes (belongs case s) e

  pub before_no : (e : ℕ) → belongs case s e ≡ false → arcs_before case s (e + 1) ≡ arcs_before case s e
  unfolding arcs_before
  before_no e = count_no (belongs case s) e

  pub before_mono : (e n : ℕ) → e ≤ n → arcs_before case s e ≤ arcs_before case s n
  unfolding arcs_before
  before_mono e n h = let z : e + (n - e) ≡ n = omega arith in rw z at (count_grows (belongs case s) e (n - e))

  -- ---- a set of the station's arcs

  module _ (w : ℕ → Bool) where
    pub arcs_none : arc_set case s w 0 ≡ 0
    unfolding arc_set sum_n
    arcs_none = refl

    pub arcs_yes : (e : ℕ) → belongs case s e ≡ true → arc_set case s w (e + 1) ≡ arc_set case s w e + only_n (w e) (2 ^ arcs_before case s e)
    unfolding arc_set sum_n
    arcs_yes e h = rw (add-one e, h)

    pub arcs_no : (e : ℕ) → belongs case s e ≡ false → arc_set case s w (e + 1) ≡ arc_set case s w e
    unfolding arc_set sum_n
    arcs_no e h = let z : sum_n e (arc_bit case s w) + 0 ≡ sum_n e (arc_bit case s w) = omega arith in rw (add-one e, h, z)

    -- the set has no item at or past the count of arcs
    pub arcs_lt : (e : ℕ) → arc_set case s w e < 2 ^ arcs_before case s e
    unfolding arc_set sum_n
    arcs_lt zero = rw before_none (omega arith)
    arcs_lt (suc e) = go (arcs_lt e) (belongs case s e) refl (w e) refl
      where
        more : belongs case s e ≡ true → arcs_before case s (suc e) ≡ suc (arcs_before case s e)
        more p = rw (add-one e, add-one (arcs_before case s e)) at (before_yes e p)

        go : arc_set case s w e < 2 ^ arcs_before case s e → (b : Bool) → belongs case s e ≡ b → (v : Bool) → w e ≡ v
            → arc_set case s w (suc e) < 2 ^ arcs_before case s (suc e)
        go k true p true q = rw (p, q, more p, pow-suc 2 (arcs_before case s e)) (omega (arith, k))
        go k true p false q = rw (p, q, more p, pow-suc 2 (arcs_before case s e)) (omega (arith, k))
        go k false p v q =
            let n : arcs_before case s (suc e) ≡ arcs_before case s e = rw (add-one e) at (before_no e p) in
            rw (p, n) (omega (arith, k))

-- ---- node sets

pub node_lt : (set v : ℕ) → set < 2 ^ set_room → with_node set v < 2 ^ set_room
unfolding with_node
node_lt set v h = go (ltb v set_room) refl
  where
    go : (b : Bool) → ltb v set_room ≡ b → with_node set v < 2 ^ set_room
    go true e = let p : 2 ^ v < 2 ^ set_room = pow-lt (ltb-true v set_room e) in rw e (or_lt set_room set (2 ^ v) h p)
    go false e = rw e h

module _ (case : List ℤ) (w : ℕ → Bool) where
  pub ends_none : ends_of case w 0 ≡ 0
  unfolding ends_of
  ends_none = refl

  pub ends_yes : (e : ℕ) → w e ≡ true → ends_of case w (e + 1) ≡ with_ends case (ends_of case w e) e
  unfolding ends_of
  ends_yes e h = rw (add-one e, h)

  pub ends_no : (e : ℕ) → w e ≡ false → ends_of case w (e + 1) ≡ ends_of case w e
  unfolding ends_of
  ends_no e h = rw (add-one e, h)

  pub ends_lt : (e : ℕ) → ends_of case w e < 2 ^ set_room
  unfolding ends_of
  ends_lt zero = omega arith
  ends_lt (suc e) = go (ends_lt e) (w e) refl
    where
      go : ends_of case w e < 2 ^ set_room → (b : Bool) → w e ≡ b → ends_of case w (suc e) < 2 ^ set_room
      go k true p = rw p (node_lt _ _ (node_lt _ _ k))
      go k false p = rw p k

-- ---- every of the first n items

pub every_at : (n : ℕ) (w : ℕ → Bool) → every n w ≡ true → (i : ℕ) → i < n → w i ≡ true
every_at zero w e i p = let f : ⊥ = omega arith in absurd f
every_at (suc n) w e i p = go (λ q. every_at n w (and_first _ _ e) i q) (ltb i n) refl
  where
    go : (i < n → w i ≡ true) → (b : Bool) → ltb i n ≡ b → w i ≡ true
    go k true q = k (ltb-true i n q)
    go k false q = let z : i ≡ n = omega (arith, ltb-false i n q) in rw z (and_second (every n w) _ e)

pub at_every : (n : ℕ) (w : ℕ → Bool) → ((i : ℕ) → i < n → w i ≡ true) → every n w ≡ true
at_every zero w h = refl
at_every (suc n) w h = rw (at_every n w (λ i p. h i (omega arith)), h n (omega arith))

-- a loop that has found one that is not so
pub every_not : (n : ℕ) (w : ℕ → Bool) (i : ℕ) → i < n → w i ≡ false → every n w ≡ false
every_not zero w i p e = let f : ⊥ = omega arith in absurd f
every_not (suc n) w i p e = go (λ q. every_not n w i q e) (ltb i n) refl
  where
    go : (i < n → every n w ≡ false) → (b : Bool) → ltb i n ≡ b → every (suc n) w ≡ false
    go k true q = rw (k (ltb-true i n q))
    go k false q = let z : i ≡ n = omega (arith, ltb-false i n q) in rw (sym (ap w z) ∙ e, and-false (every n w))

-- a loop that has found another that is so
pub every_more : (i : ℕ) (w : ℕ → Bool) → every i w ≡ true → w i ≡ true → every (i + 1) w ≡ true
every_more i w e h = rw (add-one i, e, h)
