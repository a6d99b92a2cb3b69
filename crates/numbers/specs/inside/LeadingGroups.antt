-- The groups of a number but for its last, and what is left of the number after them.
-- Assumes nothing.
use Rattle.std.specs.Prelude.{◌≡◌, refl, Bool, true, false, List, [], ◌∷◌, ◌++◌, ℕ, zero, suc, ◌+◌, ◌*◌, ◌/◌, ◌%◌, ◌^◌}
use Rattle.std.specs.Prelude.{◌≤◌, ◌<◌, ltb, length}
use Rattle.std.proofs.Common.{ap, ◌∙◌, pow-suc, arith, ltb-true, ltb-false, length-append, shr-shr}
use Rattle.std.proofs.Math.Nat.{one-le-pow}
use Rattle.numbers.specs.law.Groups.{groups, groups_up_to}
use Rattle.numbers.specs.inside.GroupLaws.{one_group, more_groups, some_group}

-- n groups that others follow
abbrev pub leading : ℕ → ℕ → List ℕ
leading zero m = []
leading (suc n) m = (m % 128 + 128) ∷ leading n (m / 128)

-- what is left of m after n groups
abbrev pub past : ℕ → ℕ → ℕ
past zero m = m
past (suc n) m = past n (m / 128)

-- n groups that others follow, and what is left as the last
abbrev pub in_groups : ℕ → ℕ → List ℕ
in_groups n m = leading n m ++ past n m ∷ []

pub leading_length : (n m : ℕ) → length (leading n m) ≡ n
leading_length zero m = refl
leading_length (suc n) m = ap suc (leading_length n (m / 128))

pub in_groups_length : (n m : ℕ) → length (in_groups n m) ≡ suc n
in_groups_length n m = omega (arith, length-append (leading n m) (past n m ∷ []), leading_length n m)

pub leading_split : (k j m : ℕ) → leading (k + j) m ≡ leading k m ++ leading j (past k m)
leading_split zero j m = let e : 0 + j ≡ j = omega arith in rw e
leading_split (suc k) j m =
    let e : suc k + j ≡ suc (k + j) = omega arith in
    rw e (ap (λ (l : List ℕ). (m % 128 + 128) ∷ l) (leading_split k j (m / 128)))

pub past_split : (k j m : ℕ) → past (k + j) m ≡ past j (past k m)
past_split zero j m = let e : 0 + j ≡ j = omega arith in rw e
past_split (suc k) j m = let e : suc k + j ≡ suc (k + j) = omega arith in rw e (past_split k j (m / 128))

-- seven bits to a group
pub past_shift : (k m : ℕ) → past k m ≡ m / 2 ^ (7 * k)
past_shift zero m = omega arith
past_shift (suc k) m =
    let e : 7 + 7 * k ≡ 7 * suc k = omega arith in
    past_shift k (m / 128) ∙ shr-shr m 7 (7 * k) ∙ ap (λ (j : ℕ). m / 2 ^ j) e

-- ---- the groups of a number, by how many it has

-- k groups that another follows, and the last
pub record Grouped (k m : ℕ) : Type 0 where
  pub count : length (groups m) ≡ suc k
  pub parts : groups m ≡ in_groups k m
  pub small : past k m < 128

parted : (more k m : ℕ) → m < 2 * 128 ^ more → length (groups_up_to more m) ≡ suc k → (groups_up_to more m ≡ in_groups k m) × (past k m < 128)
parted zero zero m h e = (refl, omega (arith, h))
parted zero (suc k) m h e = let f : ⊥ = omega (arith, e) in absurd f
parted (suc more) k m h e = go k (ltb m 128) refl (λ j. parted more j (m / 128) (omega (arith, h, pow-suc 128 more))) e
  where
    go : (k : ℕ) (b : Bool) → ltb m 128 ≡ b
        → ((j : ℕ) → length (groups_up_to more (m / 128)) ≡ suc j
        → (groups_up_to more (m / 128) ≡ in_groups j (m / 128)) × (past j (m / 128) < 128))
        → length (groups_up_to (suc more) m) ≡ suc k → (groups_up_to (suc more) m ≡ in_groups k m) × (past k m < 128)
    go zero true t again e = let l = ltb-true m 128 t in (one_group (suc more) m l, l)
    go (suc k) true t again e = let f : ⊥ = omega (arith, e, ap length (one_group (suc more) m (ltb-true m 128 t))) in absurd f
    go zero false t again e =
        let g = more_groups more m (ltb-false m 128 t) in
        let f : ⊥ = omega (arith, e, ap length g, some_group more (m / 128)) in
        absurd f
    go (suc k) false t again e =
        let g = more_groups more m (ltb-false m 128 t) in
        let p = again k (omega (arith, e, ap length g)) in
        (g ∙ ap (λ (l : List ℕ). (m % 128 + 128) ∷ l) p.0, p.1)

pub grouped : (k m : ℕ) → m < 2 ^ 64 → length (groups m) ≡ suc k → Grouped k m
unfolding groups
grouped k m l e = let p = parted 9 k m l e in record { count = e; parts = p.0; small = p.1 }

-- ---- how many groups a number has, by its size

at_least : (more k m : ℕ) → k ≤ more → 128 ^ k ≤ m → suc k ≤ length (groups_up_to more m)
at_least more zero m h l = some_group more m
at_least zero (suc k) m h l = let f : ⊥ = omega (arith, h) in absurd f
at_least (suc more) (suc k) m h l =
    let p = pow-suc 128 k in
    let g = more_groups more m (omega (arith, p, l, one-le-pow k 128 (omega arith))) in
    omega (arith, ap length g, at_least more k (m / 128) (omega (arith, h)) (omega (arith, p, l)))

at_most : (more k m : ℕ) → m < 128 ^ suc k → length (groups_up_to more m) ≤ suc k
at_most zero k m h = omega arith
at_most (suc more) k m h = go k (ltb m 128) refl h (λ j. at_most more j (m / 128))
  where
    go : (k : ℕ) (b : Bool) → ltb m 128 ≡ b → m < 128 ^ suc k
        → ((j : ℕ) → m / 128 < 128 ^ suc j → length (groups_up_to more (m / 128)) ≤ suc j) → length (groups_up_to (suc more) m) ≤ suc k
    go k true t h again = omega (arith, ap length (one_group (suc more) m (ltb-true m 128 t)))
    go zero false t h again = let f : ⊥ = omega (arith, ltb-false m 128 t, h) in absurd f
    go (suc k) false t h again =
        omega (arith, ap length (more_groups more m (ltb-false m 128 t)), again k (omega (arith, pow-suc 128 (suc k), h)))

pub grouped_one : (m : ℕ) → m < 128 → Grouped 0 m
unfolding groups
grouped_one m h = let g = one_group 9 m h in record { count = ap length g; parts = g; small = h }

pub grouped_by : (k m : ℕ) → k ≤ 8 → 128 ^ k ≤ m → m < 128 ^ suc k → m < 2 ^ 64 → Grouped k m
unfolding groups
grouped_by k m f l h w = grouped k m w (omega (arith, at_least 9 k m (omega (arith, f)) l, at_most 9 k m h))

-- 128^6 is 2^42
pub seven_or_more : (m : ℕ) → 4398046511104 ≤ m → 7 ≤ length (groups m)
unfolding groups
seven_or_more m h = at_least 9 6 m (omega arith) h
