-- What a chain over the numbers 0..n finds, by `all` or by `filter` and `count`, is what the law says of the indices below n; so is a count over a list.
-- Assumes nothing.
use Rattle.std.specs.Prelude.{◌≡◌, refl, Bool, true, false, ◌&&◌, cond, List, [], ◌∷◌, ◌++◌, ℕ, zero, suc, ◌+◌, ◌<◌, ◌≤◌, length, take, get_or}
use Rattle.std.specs.List.{range_with_len, list_all, count_by, sum_by, FoldsTo}
use Rattle.std.specs.Fn.{Called, CalledAt}
use Rattle.std.specs.Iterator.{YieldsThen, Drains}
use Rattle.std.specs.Iterator.Adapters.{filter_source, filter_callee, filter_steps}
use Rattle.std.specs.Option.{MatchOption}
use Rattle.std.specs.declared.iter.Filter.{Filter}
use Rattle.std.specs.declared.ops.Range.{Range}
use Rattle.std.proofs.Common.{Option, ap, ◌∙◌, arith, add-one}
use Rattle.std.proofs.iter.Yields.{nat_range_steps}
use Rattle.std.proofs.lemmas.Iterator.{YieldsList-from_range}
use Rattle.std.proofs.lemmas.Iterator.Search.{all_from_yields_List}
use Rattle.std.proofs.lemmas.Iterator.Consumers.{YieldsList-from_filter, count_from_yields_List}
use Rattle.std.proofs.lemmas.List.Folds.{list_all-append}
use Rattle.std.proofs.lemmas.List.Sums.{sum_by-append, length-filter, sum_by_more}
use denote.Param.Members.{Mut}
use denote.Ref.{Bor}
use Rattle.numbers.specs.law.Sums.{sum_n, only_n, count}
use Rattle.case.specs.law.StationArcs.{every}

range_more : (a n : ℕ) → range_with_len a (suc n) ≡ range_with_len a n ++ ((a + n) ∷ [])
range_more a zero = let z : a + 0 ≡ a = omega arith in rw z
range_more a (suc n) =
    let z : a + 1 + n ≡ a + suc n = omega arith in
    ap (λ (xs : List ℕ). a ∷ xs) (rw z at (range_more (a + 1) n))

-- the last number of the range 0..n
range_last : (n : ℕ) → range_with_len 0 (suc n) ≡ range_with_len 0 n ++ (n ∷ [])
range_last n = let z : 0 + n ≡ n = omega arith in rw z at (range_more 0 n)

and_true : (b : Bool) → (b && true) ≡ b
and_true true = refl
and_true false = refl

all_range : (w : ℕ → Bool) (n : ℕ) → list_all w (range_with_len 0 n) ≡ every n w
all_range w zero = refl
all_range w (suc n) =
    ap (list_all w) (range_last n) ∙ list_all-append w (range_with_len 0 n) (n ∷ []) ∙ rw (all_range w n, and_true (w n))

one_is : (b : Bool) → cond b 1 0 ≡ only_n b 1
one_is true = refl
one_is false = refl

count_range : (w : ℕ → Bool) (n : ℕ) → count_by w (range_with_len 0 n) ≡ count n w
unfolding count sum_n
count_range w zero = refl
count_range w (suc n) =
    let one = λ (x : ℕ). cond (w x) 1 0 in
    let z : 0 + one n ≡ one n = omega arith in
    ap (sum_by one) (range_last n) ∙ sum_by-append one (range_with_len 0 n) (n ∷ []) ∙ cc (count_range w n, one_is (w n))

-- `(0..n).all(..)`, where the closure answers w
pub every_from_all : {F : Type 0} {g : Mut F (ℕ × Unit {0}) Bool} (w : ℕ → Bool) (n : ℕ) (u : Range ℕ) (f : F) (r : Bool)
    → (xs : List ℕ) × (o : Option ℕ) × (j : F) × YieldsThen nat_range_steps (record { start = 0; end = n }) xs o u
    × FoldsTo (λ p x q. Called g p (x, tt) true q) f xs j
    × MatchOption o (r ≡ true) (λ x. (r ≡ false) × ((h : F) × Called g j (x, tt) false h))
    → ((x : ℕ) (b : Bool) (q : F) → Called g f (x, tt) b q → (q ≡ f) × (b ≡ w x)) → r ≡ every n w
every_from_all w n u f r ran found =
    all_from_yields_List w u f r ran (YieldsList-from_range 0 n n refl (omega arith)) found ∙ all_range w n

-- `(0..n).filter(..).count()`
pub count_from_filter : {F : Type 0} {g : Mut F (Bor ℕ × Unit {0}) Bool} (w : ℕ → Bool) (n : ℕ) (s : Filter (Range ℕ) F) (f : F) (r : ℕ)
    → ((xs : List ℕ) × Drains (filter_steps nat_range_steps g) s xs × (r ≡ length xs))
    → filter_source s ≡ record { start = 0; end = n } → filter_callee s ≡ f
    → ((x : ℕ) (b : Bool) (q : F) → CalledAt g f x b q → (q ≡ f) × (b ≡ w x)) → r ≡ count n w
count_from_filter {g = g} w n s f r ran source callee found =
    count_from_yields_List s r ran (YieldsList-from_filter g w (YieldsList-from_range 0 n n source (omega arith)) callee found)
    ∙ length-filter w (range_with_len 0 n) ∙ count_range w n

-- and a count over the first items of a list
pub count_first : {A : Type 0} (p : A → Bool) (xs : List A) (d : A) (n : ℕ) → n ≤ length xs → count_by p (take n xs) ≡ count n (λ i. p (get_or xs i d))
unfolding count sum_n
count_first {A} p xs d zero h = refl
count_first {A} p xs d (suc n) h =
    let l : n < length xs = omega arith in
    let one = λ (x : A). cond (p x) 1 0 in
    let e = sum_by_more one xs n d l in
    rw add-one at e ∙ cc (count_first p xs d n (omega arith), one_is (p (get_or xs n d)))
