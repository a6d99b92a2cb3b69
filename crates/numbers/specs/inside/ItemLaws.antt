-- A loop over items that are each asked the same questions: what all answer together is what those that are left answer.
-- Assumes nothing.
use Rattle.std.specs.Prelude.{◌≡◌, refl, List, ℕ, zero, suc, ◌+◌, ◌-◌, ◌≤◌, ◌<◌, Ok, Err}
use Rattle.std.proofs.Common.{ap, sym, ◌∙◌, arith}
use Rattle.numbers.specs.law.Question.{Question, Answer, first_no, or_else}
use Rattle.numbers.specs.inside.QuestionLaws.{first_no_append, or_else_first, or_else_second}
use Rattle.numbers.specs.declared.answer.No.{No}
use Rattle.numbers.specs.law.Items.{over}
use Rattle.numbers.specs.inside.Pieces.{rows_turn, rows_done}

-- what a loop at item i of n still has to ask
abbrev pub rest : (ℕ → List Question) → ℕ → ℕ → Answer
rest f i n = first_no (over f i (n - i))

pub rest_turn : (f : ℕ → List Question) (i n : ℕ) → i < n → rest f i n ≡ or_else (first_no (f i)) (rest f (i + 1) n)
rest_turn f i n p = ap first_no (rows_turn f i n p) ∙ first_no_append (f i) (over f (i + 1) (n - (i + 1)))

pub rest_done : (f : ℕ → List Question) (i n : ℕ) → n ≤ i → rest f i n ≡ Ok tt
rest_done f i n p = ap first_no (rows_done f i n p)

module _ (f : ℕ → List Question) (i n : ℕ) {all : Answer} (so_far : all ≡ rest f i n) where
  -- one turn whose answer is yes
  pub rest_on : {one : Answer} → i < n → one ≡ first_no (f i) → one ≡ Ok tt → all ≡ rest f (i + 1) n
  rest_on p e y = so_far ∙ rest_turn f i n p ∙ ap (λ (a : Answer). or_else a (rest f (i + 1) n)) (sym e ∙ y)

  -- one turn whose answer is no
  pub rest_no : {one : Answer} {x : No} → i < n → one ≡ first_no (f i) → one ≡ Err x → all ≡ one
  rest_no p e y = so_far ∙ rest_turn f i n p ∙ ap (λ (a : Answer). or_else a (rest f (i + 1) n)) (sym e ∙ y) ∙ sym y

  pub rest_end : n ≤ i → all ≡ Ok tt
  rest_end p = so_far ∙ rest_done f i n p

-- no item of those from i on has a no, where none of them together has
pub over_yes : (f : ℕ → List Question) (i c : ℕ) → first_no (over f i c) ≡ Ok tt → (j : ℕ) → j < c → first_no (f (i + j)) ≡ Ok tt
over_yes f i zero e j p = let b : ⊥ = omega arith in absurd b
over_yes f i (suc c) e zero p =
    let z : i + 0 ≡ i = omega arith in
    rw z (or_else_first (first_no (f i)) (first_no (over f (suc i) c)) (sym (first_no_append (f i) (over f (suc i) c)) ∙ e))
over_yes f i (suc c) e (suc j) p =
    let z : i + suc j ≡ suc i + j = omega arith in
    let s = or_else_second (first_no (f i)) (first_no (over f (suc i) c)) (sym (first_no_append (f i) (over f (suc i) c)) ∙ e) in
    rw z (over_yes f (suc i) c s j (omega arith))

pub zero_add : (n : ℕ) → 0 + n ≡ n
zero_add n = omega arith

-- item j of n items of which no question is answered no
pub item_yes : (f : ℕ → List Question) (n : ℕ) → first_no (over f 0 n) ≡ Ok tt → (j : ℕ) → j < n → first_no (f j) ≡ Ok tt
item_yes f n e j p = rw (zero_add j) at (over_yes f 0 n e j p)

pub over_all : (f : ℕ → List Question) (i c : ℕ) → ((j : ℕ) → j < c → first_no (f (i + j)) ≡ Ok tt) → first_no (over f i c) ≡ Ok tt
over_all f i zero h = refl
over_all f i (suc c) h =
    let z : i + 0 ≡ i = omega arith in
    let a : first_no (f i) ≡ Ok tt = rw z at (h 0 (omega arith)) in
    rw (first_no_append, a) (over_all f (suc i) c (λ j p. let y : suc i + j ≡ i + suc j = omega arith in rw y (h (suc j) (omega arith))))
