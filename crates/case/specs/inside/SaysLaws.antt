-- Tests as facts, both ways: what a test says is put together as the test is. Sets and counts go by their items.
-- Assumes nothing.
use Rattle.std.specs.Prelude.{◌≡◌, refl, Bool, true, false, cond, not, ◌&&◌, ◌||◌, ℕ, zero, suc, ◌+◌, ◌-◌, ◌/◌, ◌^◌, ◌<◌, ◌≤◌, eqb, leb, ltb, ℤ, pos, ◌≤ℤ◌}
use Rattle.std.proofs.Common.{ap, ◌∙◌, add-one, arith, leb-true, leb-false, le-leb, ltb-true, ltb-false, lt-ltb, eqb-true, eq-eqb, pow_pos}
use Rattle.std.proofs.lemmas.Bool.{false≢true, eqb-false}
use Rattle.std.proofs.Math.Nat.{pow-succ', two-pow-succ}
use Rattle.std.specs.Int.Bits.{bit_and}
use Rattle.std.proofs.lemmas.Nat.{and_le_r}
use Rattle.std.specs.Int.Signed.{le_z}
use Rattle.numbers.specs.law.Signed.{pos_part}
use Rattle.numbers.specs.inside.SignedParts.{ints}
use Rattle.numbers.specs.law.Sets.{bit, member_of, subset_of, disjoint_of}
use Rattle.numbers.specs.inside.SetLaws.{bit_suc, bit_high, subset_is, is_subset, disjoint_is, is_disjoint}
use Rattle.numbers.specs.law.Sums.{count}
use Rattle.case.specs.law.StationFields.{first_items}
use Rattle.case.specs.law.StationArcs.{every}
use Rattle.case.specs.inside.CountLaws.{every_at, at_every, count_none, count_yes, count_no, count_grows}
use Rattle.case.specs.inside.FieldLaws.{and_first, and_second}
use Rattle.case.specs.claims.Says.{Says, Between}

-- ---- tests put together

pub means : {b : Bool} {A B : Type 0} → Says b A → (A → B) → (B → A) → Says b B
means s f g = record { fact = λ e. f (s.fact e); passed = λ x. s.passed (g x) }

-- the second may lean on the first
pub then : {a b : Bool} {A B : Type 0} → Says a A → (A → Says b B) → Says (a && b) (A × B)
then {a} {b} s t = record {
  fact = λ e. let x = s.fact (and_first a b e) in (x, (t x).fact (and_second a b e));
  passed = λ x. rw (s.passed x.0, (t x.0).passed x.1);
}

pub both : {a b : Bool} {A B : Type 0} → Says a A → Says b B → Says (a && b) (A × B)
both s t = then s (λ x. t)

-- a test of what another test picks
pub pick : {A : Type 0} (w : A → Bool) {b : Bool} {x y : A} {B X Y : Type 0} → Says b B → Says (w x) X → Says (w y) Y
    → Says (w (cond b x y)) ((B → X) × ((B → ⊥) → Y))
pick w {b = true} s t u = record { fact = λ e. (λ h. t.fact e, λ n. absurd (n (s.fact refl))); passed = λ f. t.passed (f.0 (s.fact refl)) }
pick w {b = false} s t u = record {
  fact = λ e. (λ h. absurd (false≢true (s.passed h)), λ n. u.fact e);
  passed = λ f. u.passed (f.1 (λ h. false≢true (s.passed h)));
}

pub choose : {b x y : Bool} {B X Y : Type 0} → Says b B → Says x X → Says y Y → Says (cond b x y) ((B → X) × ((B → ⊥) → Y))
choose s t u = pick (λ (b : Bool). b) s t u

pub flag_says : (b : Bool) → Says b (b ≡ true)
flag_says b = record { fact = λ e. e; passed = λ e. e }

pub always : Says true (Unit {0})
always = record { fact = λ e. tt; passed = λ x. refl }

pub when : {b x : Bool} {B X : Type 0} → Says b B → Says x X → Says (not b || x) (B → X)
when {b = true} s t = record { fact = λ e h. t.fact e; passed = λ f. t.passed (f (s.fact refl)) }
when {b = false} s t = record { fact = λ e h. absurd (false≢true (s.passed h)); passed = λ f. refl }

pub unless : {b x : Bool} {B X : Type 0} → Says b B → Says x X → Says (b || x) ((B → ⊥) → X)
unless {b = true} s t = record { fact = λ e n. absurd (n (s.fact refl)); passed = λ f. refl }
unless {b = false} s t = record { fact = λ e n. t.fact e; passed = λ f. t.passed (f (λ h. false≢true (s.passed h))) }

pub all : {n : ℕ} {w : ℕ → Bool} {P : ℕ → Type 0} → ((i : ℕ) → i < n → Says (w i) (P i)) → Says (every n w) ((i : ℕ) → i < n → P i)
all {n} {w} s = record { fact = λ e i p. (s i p).fact (every_at n w e i p); passed = λ f. at_every n w (λ i p. (s i p).passed (f i p)) }

-- ---- tests of numbers

pub le_says : (a b : ℤ) → Says (le_z a b) (a ≤ℤ b)
le_says a b = record { fact = λ e. omega ints; passed = λ h. omega ints }

pub leb_says : (a b : ℕ) → Says (leb a b) (a ≤ b)
leb_says a b = record { fact = leb-true a b; passed = le-leb a b }

pub eqb_says : (a b : ℕ) → Says (eqb a b) (a ≡ b)
eqb_says a b = record { fact = eqb-true a b; passed = eq-eqb a b }

pub ltb_says : (a b : ℕ) → Says (ltb a b) (a < b)
ltb_says a b = record { fact = ltb-true a b; passed = lt-ltb a b }

pub within_says : (low x high : ℤ) → Says (le_z low x && le_z x high) (Between low x high)
within_says low x high =
    means (both (le_says low x) (le_says x high)) (λ t. record { least = t.0; most = t.1 }) (λ r. (r.least, r.most))

pub same_says : (a b : ℤ) → Says (le_z a b && le_z b a) (a ≡ b)
same_says a b = means (both (le_says a b) (le_says b a)) (λ t. omega ints) (λ e. omega ints)

pub zero_says : (x : ℤ) → Says (le_z x (pos 0) && le_z (pos 0) x) (x ≡ pos 0)
zero_says x = same_says x (pos 0)

-- ---- tests of sets

below_power : (n : ℕ) → n < 2 ^ n
below_power zero = omega arith
below_power (suc n) = omega (arith, below_power n, two-pow-succ n)

-- an item is in the set, or its bit is 0
in_or_not : (a : ℤ) (i : ℕ) {P : Type 0} → (member_of a i ≡ true → P) → (bit (pos_part a) i ≡ 0 → P) → P
in_or_not a i {P} f g = go (member_of a i) refl
  where
    go : (b : Bool) → member_of a i ≡ b → P
    go true e = f e
    go false e = let n = eqb-false (bit (pos_part a) i) 1 e in g (omega arith)

module _ (a b : ℤ) where
  pub subset_says : Says (subset_of a b) ((i : ℕ) → member_of a i ≡ true → member_of b i ≡ true)
  subset_says = means (eqb_says (bit_and (pos_part a) (pos_part b)) (pos_part a))
      (λ e i m. omega (arith, eqb-true, eq-eqb, subset_is (pos_part a) (pos_part b) e i))
      (λ f. is_subset (pos_part a) (pos_part a) (pos_part b) (below_power (pos_part a))
      (λ i. in_or_not a i (λ m. omega (arith, eqb-true, f i m)) (λ z. omega arith)))

  pub disjoint_says : Says (disjoint_of a b) ((i : ℕ) → member_of a i ≡ true → member_of b i ≡ true → ⊥)
  disjoint_says = means (eqb_says (bit_and (pos_part a) (pos_part b)) 0)
      (λ e i m n. omega (arith, eqb-true, disjoint_is (pos_part a) (pos_part b) e i))
      (λ f. is_disjoint (pos_part a) (pos_part a) (pos_part b) (below_power (pos_part a))
      (λ i. in_or_not a i (λ m. in_or_not b i (λ n. absurd (f i m n)) (λ z. omega arith)) (λ z. omega arith)))

-- the first n items
first_bit : (n i : ℕ) → i < n → bit (2 ^ n - 1) i ≡ 1
first_bit zero i h = let f : ⊥ = omega arith in absurd f
first_bit (suc n) zero h = omega (arith, pow-succ' 2 n, pow_pos n)
first_bit (suc n) (suc i) h =
    let e : (2 ^ suc n - 1) / 2 ≡ 2 ^ n - 1 = omega (arith, pow-succ' 2 n, pow_pos n) in
    bit_suc (2 ^ suc n - 1) i ∙ ap (λ (m : ℕ). bit m i) e ∙ first_bit n i (omega arith)

pub first_says : (set : ℤ) (n : ℕ) → Says (subset_of set (first_items n)) ((i : ℕ) → member_of set i ≡ true → i < n)
first_says set n =
    means (subset_says set (first_items n)) (λ f i m. go i (leb n i) refl (f i m)) (λ f i m. eq-eqb (bit (2 ^ n - 1) i) 1 (first_bit n i (f i m)))
  where
    go : (i : ℕ) (t : Bool) → leb n i ≡ t → member_of (first_items n) i ≡ true → i < n
    go i true t o =
        let b : 2 ^ n - 1 < 2 ^ n = omega (arith, pow_pos n) in
        omega (arith, eqb-true (bit (2 ^ n - 1) i) 1 o, bit_high n (2 ^ n - 1) i b (leb-true n i t))
    go i false t o = leb-false n i t

pub first_below : (set : ℤ) (n : ℕ) → subset_of set (first_items n) ≡ true → pos_part set < 2 ^ n
first_below set n e =
    let a : bit_and (pos_part set) (2 ^ n - 1) ≡ pos_part set = eqb-true _ _ e in
    omega (arith, and_le_r (pos_part set) (2 ^ n - 1), pow_pos n)

-- ---- tests of counts

-- item j, counted from 0, of those of the first n that w names
pub record Nth (w : ℕ → Bool) (n j : ℕ) : Type 0 where
  pub item : ℕ
  pub early : item < n
  pub named : w item ≡ true
  pub before : count item w ≡ j

module _ (w : ℕ → Bool) where
  pub nth : (n j : ℕ) → j < count n w → Nth w n j
  nth zero j h = let f : ⊥ = omega (arith, count_none w) in absurd f
  nth (suc n) j h = go (λ l. nth n j l) (ltb j (count n w)) refl (w n) refl
    where
      go : (j < count n w → Nth w n j) → (t : Bool) → ltb j (count n w) ≡ t → (b : Bool) → w n ≡ b → Nth w (suc n) j
      go r true t b e = let k = r (ltb-true _ _ t) in record { item = k.item; early = omega arith; named = k.named; before = k.before }
      go r false t true e =
          let k : count n w ≡ j = omega (arith, rw (add-one n) at (count_yes w n e), ltb-false j (count n w) t) in
          record { item = n; early = omega arith; named = e; before = k }
      go r false t false e = let f : ⊥ = omega (arith, rw (add-one n) at (count_no w n e), ltb-false j (count n w) t) in absurd f

  two : (i j n : ℕ) → i < j → j < n → w i ≡ true → w j ≡ true → 2 ≤ count n w
  two i j n p q u v =
      let x : i + 1 + (j - (i + 1)) ≡ j = omega arith in
      let y : j + 1 + (n - (j + 1)) ≡ n = omega arith in
      omega (arith, count_yes w i u, count_yes w j v, rw x at (count_grows w (i + 1) (j - (i + 1))), rw y at (count_grows w (j + 1) (n - (j + 1))))

  -- at most one of them: no two that differ
  pub one_says : (n : ℕ) → Says (leb (count n w) 1) ((i j : ℕ) → i < n → j < n → w i ≡ true → w j ≡ true → i ≡ j)
  one_says n =
      means (leb_says (count n w) 1)
      (λ e i j p q u v.
      let a : i < j → ⊥ = λ l. omega (arith, two i j n l q u v) in
      let b : j < i → ⊥ = λ l. omega (arith, two j i n l p v u) in
      omega arith)
      (λ f. go f (leb (count n w) 1) refl)
    where
      go : ((i j : ℕ) → i < n → j < n → w i ≡ true → w j ≡ true → i ≡ j) → (b : Bool) → leb (count n w) 1 ≡ b → count n w ≤ 1
      go f true e = leb-true _ _ e
      go f false e =
          let m = leb-false (count n w) 1 e in
          let x = nth n 0 (omega arith) in
          let y = nth n 1 (omega arith) in
          absurd (omega (arith, ap (λ (i : ℕ). count i w) (f x.item y.item x.early y.early x.named y.named), x.before, y.before))
