-- Refusals of a list have small numbers, steps and places, and their numbers are above those of bytes, 1 to 7: what an export needs before it hands them
-- on, and what tells them from the refusals of a reading.
-- Assumes nothing.
use Rattle.std.specs.Prelude.{◌≡◌, refl, Bool, true, false, List, [], ◌∷◌, ◌++◌, ℕ, zero, suc, ◌+◌, ◌≤◌, ◌<◌, Ok, Err}
use Rattle.std.proofs.Common.{sym, subst, arith}
use Rattle.numbers.specs.law.Question.{Question, Answer, answer, or_else, first_no}
use Rattle.numbers.specs.inside.QuestionLaws.{first_no_append}
use Rattle.numbers.specs.law.Items.{over}

-- a refusal's number is at least `least`, and its number, step and place are below b
abbrev pub Between : ℕ → ℕ → Answer → Type 0
Between least b (Ok _) = Unit {0}
Between least b (Err n) = (n.number < b) × (n.step < b) × (n.place < b) × (least ≤ n.number)

abbrev pub Small : ℕ → Answer → Type 0
Small b a = Between 8 b a

module _ (b : ℕ) where
  pub small_else : (x y : Answer) → Small b x → (x ≡ Ok tt → Small b y) → Small b (or_else x y)
  small_else (Ok _) y s f = f refl
  small_else (Err n) y s f = s

  -- a question and what comes after it
  pub small_next : (q : Question) (qs : List Question) → q.number < b → q.step < b → q.place < b → 8 ≤ q.number
      → (q.yes ≡ true → Small b (first_no qs)) → Small b (first_no (q ∷ qs))
  small_next q qs h k l m f = go q.yes f
    where
      go : (y : Bool) → (y ≡ true → Small b (first_no qs)) → Small b (or_else (answer y q.number q.step q.place) (first_no qs))
      go true f = f refl
      go false f = (h, k, l, m)

  -- one list after another, which is asked only where the first has no "no"
  pub small_append : (xs ys : List Question) → Small b (first_no xs) → (first_no xs ≡ Ok tt → Small b (first_no ys)) → Small b (first_no (xs ++ ys))
  small_append xs ys s f = subst (Small b) (sym (first_no_append xs ys)) (small_else (first_no xs) (first_no ys) s f)

  -- one item after another, each asked only where those before it have no "no"
  pub small_over : (f : ℕ → List Question) (i c : ℕ)
      → ((j : ℕ) → j < c → ((m : ℕ) → m < j → first_no (f (i + m)) ≡ Ok tt) → Small b (first_no (f (i + j))))
      → Small b (first_no (over f i c))
  small_over f i zero h = tt
  small_over f i (suc c) h =
      let z : i + 0 ≡ i = omega arith in
      small_append (f i) (over f (suc i) c)
      (subst (λ (n : ℕ). Small b (first_no (f n))) z (h 0 (omega arith) (λ m l. let g : ⊥ = omega (arith, l) in absurd g)))
      (λ e. small_over f (suc i) c (λ j l before.
      let y : i + suc j ≡ suc i + j = omega arith in
      subst (λ (n : ℕ). Small b (first_no (f n))) y (h (suc j) (omega arith) (earlier e j before))))
    where
      earlier : first_no (f i) ≡ Ok tt → (j : ℕ) → ((m : ℕ) → m < j → first_no (f (suc i + m)) ≡ Ok tt) → (m : ℕ) → m < suc j
          → first_no (f (i + m)) ≡ Ok tt
      earlier e j before zero l = let z : i + 0 ≡ i = omega arith in rw z e
      earlier e j before (suc m) l = let y : i + suc m ≡ suc i + m = omega arith in rw y (before m (omega arith))

-- every question of a list has a small number, step and place
abbrev pub AllSmall : ℕ → List Question → Type 0
AllSmall b [] = Unit {0}
AllSmall b (q ∷ qs) = (q.number < b) × (q.step < b) × (q.place < b) × (8 ≤ q.number) × AllSmall b qs

module _ (b : ℕ) where
  pub all_small : (qs : List Question) → AllSmall b qs → Small b (first_no qs)
  all_small [] s = tt
  all_small (q ∷ qs) s = small_next b q qs s.0 s.1 s.2 s.3 (λ e. all_small qs s.4)

  pub all_append : (xs ys : List Question) → AllSmall b xs → AllSmall b ys → AllSmall b (xs ++ ys)
  all_append [] ys s t = t
  all_append (q ∷ xs) ys s t = (s.0, s.1, s.2, s.3, all_append xs ys s.4 t)

  pub all_over : (f : ℕ → List Question) (i c : ℕ) → ((j : ℕ) → j < c → AllSmall b (f (i + j))) → AllSmall b (over f i c)
  all_over f i zero h = tt
  all_over f i (suc c) h =
      let z : i + 0 ≡ i = omega arith in
      all_append (f i) (over f (suc i) c) (subst (λ (n : ℕ). AllSmall b (f n)) z (h 0 (omega arith)))
      (all_over f (suc i) c (λ j l. let y : i + suc j ≡ suc i + j = omega arith in subst (λ (n : ℕ). AllSmall b (f n)) y (h (suc j) (omega arith))))
