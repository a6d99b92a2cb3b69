-- The first "no" of two lists is that of the first, or else of the second; so of every question, and of what is told.
-- Assumes nothing.
use Rattle.std.specs.Prelude.{◌≡◌, refl, Bool, true, false, ◌&&◌, List, [], ◌∷◌, ◌++◌, ℕ, length, Ok, Err}
use Rattle.std.proofs.Common.{ap, sym, ◌∙◌, arith}
use Rattle.std.proofs.lemmas.Bool.{false≢true}
use Rattle.numbers.specs.law.Told.{Told}
use Rattle.numbers.specs.declared.answer.No.{No}
use Rattle.numbers.specs.law.Question.{Question, Answer, no_at, answer, answer_to, or_else, first_no, told}
use Rattle.numbers.specs.claims.AllYes.{AllYes}

-- the "no" of an answer that has one
abbrev pub no_in : Answer → No
no_in (Ok _) = no_at 0 0 0
no_in (Err n) = n

pub or_else_assoc : (a b c : Answer) → or_else (or_else a b) c ≡ or_else a (or_else b c)
or_else_assoc (Ok _) b c = refl
or_else_assoc (Err n) b c = refl

pub or_else_yes : (a : Answer) → or_else a (Ok tt) ≡ a
or_else_yes (Ok tt) = refl
or_else_yes (Err n) = refl

pub first_no_append : (xs ys : List Question) → first_no (xs ++ ys) ≡ or_else (first_no xs) (first_no ys)
first_no_append [] ys = refl
first_no_append (q ∷ xs) ys = ap (or_else (answer_to q)) (first_no_append xs ys) ∙ sym (or_else_assoc (answer_to q) (first_no xs) (first_no ys))

no_yes {ℓ} : {X : Type ℓ} (n : No) → ◌≡◌ {A = Answer} (Err n) (Ok tt) → X
no_yes n e = absurd cc

pub answer_yes : (b : Bool) (n s p : ℕ) (r : Answer) → or_else (answer b n s p) r ≡ Ok tt → b ≡ true
answer_yes true n s p r e = refl
answer_yes false n s p r e = no_yes (no_at n s p) e

pub or_else_first : (a b : Answer) → or_else a b ≡ Ok tt → a ≡ Ok tt
or_else_first (Ok _) b e = refl
or_else_first (Err n) b e = no_yes n e

pub or_else_second : (a b : Answer) → or_else a b ≡ Ok tt → b ≡ Ok tt
or_else_second (Ok _) b e = e
or_else_second (Err n) b e = no_yes n e

-- two answers of which the same is told are the same
pub told_same : (a b : Answer) → told a ≡ told b → a ≡ b
told_same (Ok _) (Ok _) e = refl
told_same (Ok _) (Err n) e = let v = ap (λ (t : Told). length t.values) e in let f : ⊥ = omega arith in absurd f
told_same (Err n) (Ok _) e = let v = ap (λ (t : Told). length t.values) e in let f : ⊥ = omega arith in absurd f
told_same (Err n) (Err m) e =
    let a = ap (λ (t : Told). t.number) e in
    let b = ap (λ (t : Told). t.values) e in
    let s : n.step ≡ m.step = cc in
    let p : n.place ≡ m.place = cc in
    let same : ◌≡◌ {A = Answer} (Err (no_at n.number n.step n.place)) (Err (no_at m.number m.step m.place)) = rw (a, s, p) in
    same

pub all_yes : (qs : List Question) → first_no qs ≡ Ok tt → AllYes qs
all_yes [] e = tt
all_yes (q ∷ qs) e = (answer_yes q.yes q.number q.step q.place (first_no qs) e, all_yes qs (or_else_second (answer_to q) (first_no qs) e))

pub none_no : (qs : List Question) → AllYes qs → first_no qs ≡ Ok tt
none_no [] a = refl
none_no (q ∷ qs) a = rw a.0 (none_no qs a.1)

-- two groups of which no question is answered no
pub first_yes : (X Y : List Question) → first_no (X ++ Y) ≡ Ok tt → first_no X ≡ Ok tt
first_yes X Y e = or_else_first (first_no X) (first_no Y) (sym (first_no_append X Y) ∙ e)

pub second_yes : (X Y : List Question) → first_no (X ++ Y) ≡ Ok tt → first_no Y ≡ Ok tt
second_yes X Y e = or_else_second (first_no X) (first_no Y) (sym (first_no_append X Y) ∙ e)

-- two groups, of which the code goes on to the second only past a yes to the first
module _ (X Y : List Question) {a : Answer} (e : a ≡ first_no X) where
  pub went_on : {b : Answer} → a ≡ Ok tt → b ≡ first_no Y → b ≡ first_no (X ++ Y)
  went_on y h = h ∙ rw (first_no_append X Y, sym e ∙ y)

  pub stopped : {n : No} → a ≡ Err n → a ≡ first_no (X ++ Y)
  stopped y = y ∙ rw (first_no_append X Y, sym e ∙ y)

-- a question of two tests
pub and_first : (a b : Bool) → (a && b) ≡ true → a ≡ true
and_first true b e = refl
and_first false b e = e

pub and_second : (a b : Bool) → (a && b) ≡ true → b ≡ true
and_second true b e = e
and_second false b e = absurd (false≢true e)
