-- An array whose front was filled.
-- Assumes nothing.
use Rattle.std.specs.Prelude.{◌≡◌, List, ◌++◌, ℕ, ◌<◌, length, get_or}
use Rattle.std.proofs.Common.{◌∙◌, arith}
use Rattle.std.proofs.Math.ListN.{get_or-append}
use Rattle.case.specs.law.LayoutOf.{Holds}

pub front : {A : Type 0} {none : A} {f : ℕ → A} (xs ys : List A) {n : ℕ} → length xs ≡ n → ((i : ℕ) → i < n → get_or xs i none ≡ f i)
    → Holds none (xs ++ ys) f n
front {A} {none} {f} xs ys {n} e h = record {
  each = λ i l. let m : i < length xs = omega arith in get_or-append xs ys none i m ∙ h i l;
}
