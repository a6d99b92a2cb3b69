-- Sums and counts, by induction on how many parts there are; a part that one index alone has counts once.
-- Assumes nothing.
use Rattle.std.specs.Prelude.{◌≡◌, refl, ℕ, zero, suc, ◌+◌, ◌*◌, ◌≤◌, ◌<◌, Bool, true, false, T, eqb, ℤ, pos, nat_abs, ◌+ℤ◌}
use Rattle.std.specs.Prelude.{◌-ℤ◌, ◌*ℤ◌, ◌≢◌}
use Rattle.std.proofs.Common.{sym, ap, ap₂, ◌∙◌, subst, arith, le_trans, eq-or-lt_of_le, eqb→eq, ⊎_elim}
use Rattle.std.proofs.Math.Dec.{eqb_refl}
use Rattle.std.proofs.Math.IntN.{+ℤ_idl, +ℤ_idr}
use Rattle.numbers.specs.inside.SignedLinear.{v, ◌⊞◌, ◌⊟◌, ◌⊠◌, eq! }
use Rattle.numbers.specs.inside.SignedBounds.{abs_add}
use Rattle.numbers.specs.law.Sums.{sum, sum_n, only, only_n, count}

-- ---- the laws of ℤ's sums

pub sum_cong : (k : ℕ) (f g : ℕ → ℤ) → ((i : ℕ) → i < k → f i ≡ g i) → sum k f ≡ sum k g
unfolding sum
sum_cong zero f g h = refl
sum_cong (suc k) f g h = ap₂ ◌+ℤ◌ (sum_cong k f g (λ i l. h i (omega arith))) (h k (omega arith))

pub sum_zero : (k : ℕ) → sum k (λ i. pos zero) ≡ pos zero
unfolding sum
sum_zero zero = refl
sum_zero (suc k) = ap (λ z. z +ℤ pos zero) (sum_zero k)

pub sum_add : (k : ℕ) (f g : ℕ → ℤ) → sum k (λ i. f i +ℤ g i) ≡ sum k f +ℤ sum k g
unfolding sum
sum_add zero f g = refl
sum_add (suc k) f g =
    ap (λ z. z +ℤ (f k +ℤ g k)) (sum_add k f g)
    ∙ eq! (v (sum k f) ⊞ v (sum k g) ⊞ (v (f k) ⊞ v (g k))) (v (sum k f) ⊞ v (f k) ⊞ (v (sum k g) ⊞ v (g k))) (omega arith)

pub sum_sub : (k : ℕ) (f g : ℕ → ℤ) → sum k (λ i. f i -ℤ g i) ≡ sum k f -ℤ sum k g
unfolding sum
sum_sub zero f g = refl
sum_sub (suc k) f g =
    ap (λ z. z +ℤ (f k -ℤ g k)) (sum_sub k f g)
    ∙ eq! (v (sum k f) ⊟ v (sum k g) ⊞ (v (f k) ⊟ v (g k))) (v (sum k f) ⊞ v (f k) ⊟ (v (sum k g) ⊞ v (g k))) (omega arith)

pub sum_mul : (k : ℕ) (x : ℤ) (f : ℕ → ℤ) → sum k (λ i. x *ℤ f i) ≡ x *ℤ sum k f
unfolding sum
sum_mul zero x f = eq! (v (pos 0)) (v x ⊠ v (pos 0)) (omega arith)
sum_mul (suc k) x f =
    ap (λ z. z +ℤ x *ℤ f k) (sum_mul k x f)
    ∙ eq! (v x ⊠ v (sum k f) ⊞ v x ⊠ v (f k)) (v x ⊠ (v (sum k f) ⊞ v (f k))) (omega arith)

-- the order of two sums may be exchanged
pub sum_swap : (k m : ℕ) (f : ℕ → ℕ → ℤ) → sum k (λ i. sum m (λ j. f i j)) ≡ sum m (λ j. sum k (λ i. f i j))
unfolding sum
sum_swap zero m f = sym (sum_zero m)
sum_swap (suc k) m f = ap (λ z. z +ℤ sum m (λ j. f k j)) (sum_swap k m f) ∙ sym (sum_add m (λ j. sum k (λ i. f i j)) (λ j. f k j))

-- a sum of differences of neighbours
pub sum_tele : (k : ℕ) (f : ℕ → ℤ) → sum k (λ i. f (suc i) -ℤ f i) ≡ f k -ℤ f zero
unfolding sum
sum_tele zero f = eq! (v (pos 0)) (v (f zero) ⊟ v (f zero)) (omega arith)
sum_tele (suc k) f =
    ap (λ z. z +ℤ (f (suc k) -ℤ f k)) (sum_tele k f)
    ∙ eq! (v (f k) ⊟ v (f zero) ⊞ (v (f (suc k)) ⊟ v (f k))) (v (f (suc k)) ⊟ v (f zero)) (omega arith)

-- ---- parts of a sum

pub only_sum : (b : Bool) (k : ℕ) (f : ℕ → ℤ) → only b (sum k f) ≡ sum k (λ i. only b (f i))
only_sum true k f = refl
only_sum false k f = sym (sum_zero k)

-- u alone counts: nothing where u is not below k, and its own part where it is
one_of_none : (k u : ℕ) (w : ℕ → Bool) (x : ℤ) → k ≤ u → sum k (λ i. only (w i) (only (eqb u i) x)) ≡ pos zero
unfolding sum
one_of_none zero u w x h = refl
one_of_none (suc k) u w x h = ap₂ ◌+ℤ◌ (one_of_none k u w x (omega arith)) (go (w k) (eqb u k) (λ t. eqb→eq u k t))
  where
    go : (b c : Bool) → (T c → u ≡ k) → only b (only c x) ≡ pos zero
    go true true e = let q : u ≡ k = e tt in absurd (omega arith)
    go true false e = refl
    go false c e = refl

only_zero : (b : Bool) → only b (pos zero) ≡ pos zero
only_zero true = refl
only_zero false = refl

pub one_of_lem : (k u : ℕ) (w : ℕ → Bool) (x : ℤ) → u < k → sum k (λ i. only (w i) (only (eqb u i) x)) ≡ only (w u) x
unfolding sum
one_of_lem zero u w x h = absurd (omega arith)
one_of_lem (suc k) u w x h =
    go (λ l. one_of_lem k u w x l) (eqb u k) (λ t. eqb→eq u k t) (λ e. subst (λ (j : ℕ). T (eqb u j)) e (eqb_refl u))
  where
    go : (u < k → sum k (λ i. only (w i) (only (eqb u i) x)) ≡ only (w u) x)
        → (c : Bool) → (T c → u ≡ k) → (u ≡ k → T c) → sum k (λ i. only (w i) (only (eqb u i) x)) +ℤ only (w k) (only c x) ≡ only (w u) x
    go rec true e f =
        let q : u ≡ k = e tt in
        ap₂ ◌+ℤ◌ (one_of_none k u w x (omega arith)) (ap (λ (j : ℕ). only (w j) x) (sym q)) ∙ +ℤ_idl (only (w u) x)
    go rec false e f = ap₂ ◌+ℤ◌ (rec (below (λ q. f q))) (only_zero (w k)) ∙ +ℤ_idr (only (w u) x)
      where
        below : (u ≢ k) → u < k
        below q = omega arith

-- Over the indices in w, what the parts bring to their ends adds up to each part whose end is in w.
pub incidence : (k m : ℕ) (end : ℕ → ℕ) (w : ℕ → Bool) (f : ℕ → ℤ) → ((e : ℕ) → e < m → end e < k)
    → sum k (λ i. only (w i) (sum m (λ e. only (eqb (end e) i) (f e)))) ≡ sum m (λ e. only (w (end e)) (f e))
incidence k m end w f h =
    sum_cong k _ _ (λ i l. only_sum (w i) m (λ e. only (eqb (end e) i) (f e)))
    ∙ sum_swap k m (λ i e. only (w i) (only (eqb (end e) i) (f e)))
    ∙ sum_cong m _ _ (λ e l. one_of_lem k (end e) w (f e) (h e l))

-- ---- magnitudes

pub abs_only : (b : Bool) (x : ℤ) → nat_abs (only b x) ≡ only_n b (nat_abs x)
abs_only true x = refl
abs_only false x = refl

pub abs_sum : (k : ℕ) (f : ℕ → ℤ) → nat_abs (sum k f) ≤ sum_n k (λ i. nat_abs (f i))
unfolding sum sum_n
abs_sum zero f = omega arith
abs_sum (suc k) f = le_trans (abs_add (sum k f) (f k)) (omega (arith, abs_sum k f))

pub sum_n_cong : (k : ℕ) (f g : ℕ → ℕ) → ((i : ℕ) → i < k → f i ≡ g i) → sum_n k f ≡ sum_n k g
unfolding sum_n
sum_n_cong zero f g h = refl
sum_n_cong (suc k) f g h = ap₂ ◌+◌ (sum_n_cong k f g (λ i l. h i (omega arith))) (h k (omega arith))

pub sum_n_le : (k : ℕ) (f g : ℕ → ℕ) → ((i : ℕ) → i < k → f i ≤ g i) → sum_n k f ≤ sum_n k g
unfolding sum_n
sum_n_le zero f g h = omega arith
sum_n_le (suc k) f g h = omega (arith, sum_n_le k f g (λ i l. h i (omega arith)), h k (omega arith))

pub sum_n_const : (k x : ℕ) → sum_n k (λ i. x) ≡ k * x
unfolding sum_n
sum_n_const zero x = omega arith
sum_n_const (suc k) x = omega (arith, sum_n_const k x)

pub sum_n_add : (k : ℕ) (f g : ℕ → ℕ) → sum_n k (λ i. f i + g i) ≡ sum_n k f + sum_n k g
unfolding sum_n
sum_n_add zero f g = refl
sum_n_add (suc k) f g = omega (arith, sum_n_add k f g)

pub sum_n_swap : (k m : ℕ) (f : ℕ → ℕ → ℕ) → sum_n k (λ i. sum_n m (λ j. f i j)) ≡ sum_n m (λ j. sum_n k (λ i. f i j))
unfolding sum_n
sum_n_swap zero m f = omega (arith, sum_n_const m 0)
sum_n_swap (suc k) m f = omega (arith, sum_n_swap k m f, sum_n_add m (λ j. sum_n k (λ i. f i j)) (λ j. f k j))

pub sum_n_count : (k x : ℕ) (w : ℕ → Bool) (f : ℕ → ℕ) → ((i : ℕ) → i < k → T (w i) → f i ≤ x)
    → sum_n k (λ i. only_n (w i) (f i)) ≤ count k w * x
unfolding sum_n count
sum_n_count zero x w f h = omega arith
sum_n_count (suc k) x w f h = omega (arith, sum_n_count k x w f (λ i l. h i (omega arith)), part (w k) (f k) (h k (omega arith)))
  where
    part : (b : Bool) (y : ℕ) → (T b → y ≤ x) → only_n b y ≤ only_n b 1 * x
    part true y l = omega (arith, l tt)
    part false y l = omega arith

-- a sum of k parts, none above x in magnitude, is at most k * x in magnitude
pub abs_sum_le : (k x : ℕ) (f : ℕ → ℤ) → ((i : ℕ) → i < k → nat_abs (f i) ≤ x) → nat_abs (sum k f) ≤ k * x
abs_sum_le k x f h = omega (arith, abs_sum k f, sum_n_le k (λ i. nat_abs (f i)) (λ i. x) h, sum_n_const k x)

pub abs_only_le : (b : Bool) (z : ℤ) {x : ℕ} → nat_abs z ≤ x → nat_abs (only b z) ≤ x
abs_only_le true z h = h
abs_only_le false z h = omega arith

pub sum_n_bound : (k x : ℕ) (f : ℕ → ℕ) → ((i : ℕ) → i < k → f i ≤ x) → sum_n k f ≤ k * x
sum_n_bound k x f h = omega (arith, sum_n_le k f (λ i. x) h, sum_n_const k x)

pub count_most : (k : ℕ) (w : ℕ → Bool) → count k w ≤ k
unfolding count
count_most k w = omega (arith, sum_n_bound k 1 (λ i. only_n (w i) 1) (λ i l. one (w i)))
  where
    one : (b : Bool) → only_n b 1 ≤ 1
    one true = omega arith
    one false = omega arith

pub count_none : (k : ℕ) (w : ℕ → Bool) → ((i : ℕ) → i < k → w i ≡ false) → count k w ≡ 0
unfolding count
count_none k w h = omega (arith, sum_n_cong k (λ i. only_n (w i) 1) (λ i. 0) (λ i l. rw (h i l)), sum_n_const k 0)

pub none_counted : (k : ℕ) (w : ℕ → Bool) → count k w ≡ 0 → (i : ℕ) → i < k → w i ≡ false
unfolding count sum_n
none_counted zero w e i l = let f : ⊥ = omega arith in absurd f
none_counted (suc k) w e i l =
    ⊎_elim (λ q. subst (λ (j : ℕ). w j ≡ false) (sym q) (last (w k) (omega arith))) (λ p. none_counted k w (omega arith) i p)
    (eq-or-lt_of_le {n = i} {m = k} (omega arith))
  where
    last : (b : Bool) → only_n b 1 ≡ 0 → b ≡ false
    last true q = let f : ⊥ = omega arith in absurd f
    last false q = refl
