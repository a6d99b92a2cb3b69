-- Questions that a function leaves as they are: all of a list, where it leaves those of its parts.
use Rattle.std.specs.Prelude.{◌≡◌, refl, List, ◌++◌, map, ℕ, zero, suc, ◌+◌, ◌<◌}
use Rattle.std.proofs.Common.{ap₂, ◌∙◌, arith}
use Rattle.std.proofs.lemmas.List.{map-append}
use Rattle.numbers.specs.law.Question.{Question}
use Rattle.numbers.specs.law.Items.{over}

abbrev pub Unmoved : (Question → Question) → List Question → Type 0
Unmoved f qs = map f qs ≡ qs

pub unmoved_append : (f : Question → Question) (xs ys : List Question) → Unmoved f xs → Unmoved f ys → Unmoved f (xs ++ ys)
unmoved_append f xs ys h k = map-append f xs ys ∙ ap₂ (λ (x y : List Question). x ++ y) h k

pub unmoved_over : (f : Question → Question) (g : ℕ → List Question) (j n : ℕ) → ((m : ℕ) → m < n → Unmoved f (g (j + m)))
    → Unmoved f (over g j n)
unmoved_over f g j zero h = refl
unmoved_over f g j (suc n) h =
    let z : j + 0 ≡ j = omega arith in
    unmoved_append f (g j) (over g (suc j) n) (rw z at (h 0 (omega arith)))
    (unmoved_over f g (suc j) n (λ m l. let y : suc j + m ≡ j + suc m = omega arith in rw y (h (suc m) (omega arith))))
