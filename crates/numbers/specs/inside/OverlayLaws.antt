-- Items stored one after the other in a list: two lists stored in turn are stored joined, and one stored over another stands.
-- Assumes nothing.
use Rattle.std.specs.Prelude.{◌≡◌, refl, List, [], ◌∷◌, ◌++◌, ℕ, suc, ◌+◌, ◌≤◌, ◌<◌, length, set}
use Rattle.std.proofs.Common.{ap, ◌∙◌, arith, set-set}
use Rattle.std.proofs.lemmas.List.Edits.{sets, sets-eq}
use Rattle.std.proofs.lemmas.List.{set_comm}
use Rattle.numbers.specs.law.Told.{overlay}

-- from the front
pub overlay_sets {ℓ} : {A : Type ℓ} (new old : List A) → length new ≤ length old → sets old 0 new ≡ overlay new old
overlay_sets new old h = sets-eq new old 0 (omega (arith, h)) ∙ (let e : 0 + length new ≡ length new = omega arith in rw e)

-- those of two lists, one after the other
pub sets_append {ℓ} : {A : Type ℓ} (old : List A) (i : ℕ) (xs ys : List A) → sets old i (xs ++ ys) ≡ sets (sets old i xs) (i + length xs) ys
sets_append old i [] ys = let e : i + 0 ≡ i = omega arith in rw e
sets_append old i (x ∷ xs) ys = let e : i + suc (length xs) ≡ suc i + length xs = omega arith in rw e (sets_append (set old i x) (suc i) xs ys)

-- an item stored before the place of others may as well be stored first
set_first {ℓ} : {A : Type ℓ} (old : List A) (i j : ℕ) (y : A) (xs : List A) → i < j → set (sets old j xs) i y ≡ sets (set old i y) j xs
set_first old i j y [] h = refl
set_first old i j y (x ∷ xs) h =
    set_first (set old j x) i (suc j) y xs (omega (arith, h))
    ∙ ap (λ (b : List _). sets b (suc j) xs) (set_comm old j i x y (λ e. let f : ⊥ = omega (arith, h, e) in f))

-- those of a list over those of another that is no longer
pub sets_over {ℓ} : {A : Type ℓ} (old : List A) (i : ℕ) (xs ys : List A) → length xs ≤ length ys → sets (sets old i xs) i ys ≡ sets old i ys
sets_over old i [] ys h = refl
sets_over old i (x ∷ xs) [] h = let f : ⊥ = omega (arith, h) in absurd f
sets_over old i (x ∷ xs) (y ∷ ys) h =
    let first = set_first (set old i x) i (suc i) y xs (omega arith) in
    ap (λ (b : List _). sets b (suc i) ys) (first ∙ ap (λ (b : List _). sets b (suc i) xs) (set-set old i x y))
    ∙ sets_over (set old i y) (suc i) xs ys (omega (arith, h))
