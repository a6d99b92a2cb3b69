-- A line determines what is told.
-- Assumes nothing.
use Rattle.std.specs.Prelude.{◌≡◌, refl, Bool, true, false, cond, List, [], ◌∷◌, ◌++◌, ℕ, suc, ◌≤◌, eqb, ℤ, pos, negsuc, get_or, drop}
use Rattle.std.proofs.Common.{ap, sym, subst, ◌∙◌, append_assoc, arith, eqb-true}
use Rattle.numbers.specs.law.Told.{Told}
use Rattle.line.specs.law.Decimal.{signed}
use Rattle.line.specs.law.Line.{accepted, refused, spaced, sentence_of, line_of}
use Rattle.line.specs.claims.Decimal.{same_digits}
use Rattle.line.specs.inside.LineLaws.{AllAbove, digits_above, signed_above}

-- ---- a number ends where its characters do

-- two texts of characters above the space, each with one after it that is not
record Cut (a b c d : List ℕ) : Type 0 where
  pub first : a ≡ b
  pub rest : c ≡ d

-- its first character
abbrev head : List ℕ → ℕ
head text = get_or text 0 0

cut : (a b c d : List ℕ) → AllAbove 32 a → AllAbove 32 b → head c ≤ 32 → head d ≤ 32 → a ++ c ≡ b ++ d → Cut a b c d
cut [] [] c d p q h k e = record { first = refl; rest = e }
cut [] (y ∷ b) c d p q h k e = let f : ⊥ = omega (arith, ap head e, q.0) in absurd f
cut (x ∷ a) [] c d p q h k e = let f : ⊥ = omega (arith, ap head e, p.0) in absurd f
cut (x ∷ a) (y ∷ b) c d p q h k e =
    let i : x ≡ y = ap head e in
    let s = cut a b c d p.1 q.1 h k (ap (drop 1) e) in
    record { first = rw (i, s.first); rest = s.rest }

-- ---- numbers

same_signed : (x y : ℤ) → signed x ≡ signed y → x ≡ y
same_signed (pos m) (pos n) e = ap pos (same_digits m n e)
same_signed (negsuc m) (negsuc n) e = let s = same_digits (suc m) (suc n) (ap (drop 1) e) in ap negsuc (omega arith)
same_signed (pos m) (negsuc n) e = let f : ⊥ = omega (arith, (subst (AllAbove 45) e (digits_above m)).0) in absurd f
same_signed (negsuc m) (pos n) e = let f : ⊥ = omega (arith, (subst (AllAbove 45) (sym e) (digits_above n)).0) in absurd f

ends : (list : List ℤ) → head (spaced list ++ (10 ∷ [])) ≤ 32
ends [] = omega arith
ends (x ∷ list) = omega arith

same_spaced : (xs ys : List ℤ) → spaced xs ++ (10 ∷ []) ≡ spaced ys ++ (10 ∷ []) → xs ≡ ys
same_spaced [] [] e = refl
same_spaced [] (y ∷ ys) e = let f : ⊥ = omega (arith, ap head e) in absurd f
same_spaced (x ∷ xs) [] e = let f : ⊥ = omega (arith, ap head e) in absurd f
same_spaced (x ∷ xs) (y ∷ ys) e =
    let d = simp append_assoc at (ap (drop 1) e) in
    let s = cut (signed x) (signed y) (spaced xs ++ (10 ∷ [])) (spaced ys ++ (10 ∷ [])) (signed_above x) (signed_above y) (ends xs) (ends ys) d in
    rw (same_signed x y s.first, same_spaced xs ys s.rest)

-- ---- lines

-- what is told goes by its number and its values
same_told : (t u : Told) → t.number ≡ u.number → t.values ≡ u.values → t ≡ u
same_told t u e d = ap (λ (n : ℕ). made n t.values) e ∙ ap (made u.number) d
  where
    made : ℕ → List ℤ → Told
    made number values = record { number = number; values = values }

pub same_line : (t u : Told) → line_of t ≡ line_of u → t ≡ u
unfolding sentence_of
same_line t u e = go (eqb t.number 0) refl (eqb u.number 0) refl e
  where
    said : Bool → Told → List ℕ
    said b v = cond b (sentence_of accepted v.values) (sentence_of refused (pos v.number ∷ v.values))

    go : (a : Bool) → eqb t.number 0 ≡ a → (b : Bool) → eqb u.number 0 ≡ b → said a t ≡ said b u → t ≡ u
    go true p true q e =
        same_told t u (eqb-true t.number 0 p ∙ sym (eqb-true u.number 0 q)) (same_spaced t.values u.values (ap (drop 8) e))
    go true p false q e = let f : ⊥ = omega (arith, ap head e) in absurd f
    go false p true q e = let f : ⊥ = omega (arith, ap head e) in absurd f
    go false p false q e =
        let l = same_spaced (pos t.number ∷ t.values) (pos u.number ∷ u.values) (ap (drop 7) e) in
        let n : t.number ≡ u.number = cc in
        let v : t.values ≡ u.values = cc in
        same_told t u n v
