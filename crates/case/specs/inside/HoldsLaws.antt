-- Arrays that hold the first values of something, and nothing past them: a store changes one place and leaves the others.
-- Assumes nothing.
use Rattle.std.specs.Prelude.{◌≡◌, refl, List, ℕ, zero, suc, ◌+◌, ◌-◌, ◌<◌, ◌≤◌, ◌++◌, length, get_or, set, drop, replicate}
use Rattle.std.proofs.Common.{◌∙◌, arith, below_more, get_or-set_same, get_or-set_other}
use Rattle.std.proofs.Math.ListN.{get_or-append}
use Rattle.std.proofs.lemmas.List.{get_or-append_right, get_or-drop}
use Rattle.case.specs.law.LayoutOf.{Holds, Clear}

pub holds_none : {A : Type 0} {d : A} {xs : List A} {f : ℕ → A} → Holds d xs f 0
holds_none = record { each = λ i p. let z : ⊥ = omega arith in absurd z }

pub holds_more : {A : Type 0} {d : A} {xs : List A} {f : ℕ → A} {i : ℕ} {v : A} → Holds d xs f i → i < length xs → v ≡ f i → Holds d (set xs i v) f (i + 1)
holds_more {A} {d} {xs} {f} {i} {v} h l e = record {
  each =
      below_more (λ (k : ℕ). get_or (set xs i v) k d ≡ f k) i
      (λ k p. get_or-set_other xs i k v d (λ (q : k ≡ i). omega arith) ∙ h.each k p)
      (get_or-set_same xs i v d l ∙ e);
}

pub holds_to : {A : Type 0} {d : A} {xs : List A} {f : ℕ → A} {i n : ℕ} → Holds d xs f i → n ≤ i → Holds d xs f n
holds_to h p = record { each = λ k q. h.each k (omega arith) }

pub clear_new : {A : Type 0} {d : A} (k n : ℕ) → Clear d (replicate k d) n
clear_new {A} {d} k n = record { each = λ i p. go k i }
  where
    go : (k i : ℕ) → get_or (replicate k d) i d ≡ d
    go zero i = refl
    go (suc k) zero = refl
    go (suc k) (suc i) = go k i

pub clear_more : {A : Type 0} {d : A} {xs : List A} {i : ℕ} → Clear d xs i → (v : A) → Clear d (set xs i v) (i + 1)
clear_more {A} {d} {xs} {i} h v = record { each = λ k p. get_or-set_other xs i k v d (λ (q : k ≡ i). omega arith) ∙ h.each k (omega arith) }

-- of an array of k places whose first n were filled: what is in front, and nothing behind
pub holds_front : {A : Type 0} {d : A} (k n : ℕ) (xs : List A) {f : ℕ → A} → length xs ≡ n → Holds d xs f n
    → Holds d (xs ++ drop n (replicate k d)) f n
holds_front {A} {d} k n xs {f} e h = record {
  each = λ i p. let q : i < length xs = omega arith in get_or-append xs (drop n (replicate k d)) d i q ∙ h.each i p;
}

pub clear_back : {A : Type 0} {d : A} (k n : ℕ) (xs : List A) → length xs ≡ n → Clear d (xs ++ drop n (replicate k d)) n
clear_back {A} {d} k n xs e = record {
  each = λ i p.
      get_or-append_right xs (drop n (replicate k d)) n i d e p
      ∙ get_or-drop n (replicate k d) (i - n) d
      ∙ (clear_new {d = d} k 0).each (n + (i - n)) (omega arith);
}
