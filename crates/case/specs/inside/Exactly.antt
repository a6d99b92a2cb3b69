-- Questions by what they say, both ways: no question of a list is answered no exactly where a fact holds. Such laws are put together as the questions are.
-- Assumes nothing.
use Rattle.std.specs.Prelude.{◌≡◌, refl, Bool, true, false, ◌&&◌, List, [], ◌∷◌, ◌++◌, ◌↔◌, ℕ, zero, suc, ◌+◌, ◌≤◌, ◌<◌, T, ltb, ℤ, length, Ok}
use Rattle.std.proofs.Common.{add_assoc, add-zero, le_refl, le_trans, arith, ltb-true, ltb-false, lt-ltb, ltb→lt}
use Rattle.std.specs.Int.Signed.{le_z}
use Rattle.numbers.specs.inside.SignedParts.{ints}
use Rattle.numbers.specs.law.Question.{Question, first_no}
use Rattle.numbers.specs.inside.QuestionLaws.{first_no_append, all_yes, none_no}
use Rattle.numbers.specs.claims.AllYes.{AllYes}
use Rattle.numbers.specs.law.Items.{over}
use Rattle.numbers.specs.inside.ItemLaws.{over_all}
use Rattle.case.specs.law.Field.{asks, field, fields, next_field}
use Rattle.case.specs.law.Layout.{number_at}
use Rattle.case.specs.claims.Says.{Says, Between}
use Rattle.case.specs.inside.SaysLaws.{within_says, same_says}
use Rattle.case.specs.inside.FieldLaws.{first_yes, second_yes, zero_add, item_yes}

-- ---- questions

pub asks_iff : (number place : ℕ) {b : Bool} {A : Type 0} → Says b A → first_no (asks number place b ∷ []) ≡ Ok tt ↔ A
asks_iff number place {b} h = (λ y. h.fact (all_yes (asks number place b ∷ []) y).0, λ a. rw (h.passed a))

-- the facts of the first group are known when the second is asked
pub append_iff : (X Y : List Question) {A B : Type 0} → (first_no X ≡ Ok tt ↔ A) → (A → first_no Y ≡ Ok tt ↔ B) → first_no (X ++ Y) ≡ Ok tt ↔ A × B
append_iff X Y f g = (
  λ y. let a = f.0 (first_yes X Y y) in (a, (g a).0 (second_yes X Y y)),
  λ r. rw (first_no_append, f.1 r.0) ((g r.0).1 r.1),
)

pub over_iff : (f : ℕ → List Question) (n : ℕ) {A : ℕ → Type 0} → ((j : ℕ) → j < n → first_no (f j) ≡ Ok tt ↔ A j)
    → first_no (over f 0 n) ≡ Ok tt ↔ ((j : ℕ) → j < n → A j)
over_iff f n h = (λ y j p. (h j p).0 (item_yes f n y j p), λ r. over_all f 0 n (λ j p. rw (zero_add j) ((h j p).1 (r j p))))

-- ---- items of which each begins where the one before it ends: j at `at j`, its end is `end j`

module _ (at end : ℕ → ℕ) (next : (j : ℕ) → (at (suc j) ≡ end j) × (at j ≤ end j)) where
  pub rising : (n : ℕ) → at 0 ≤ at n
  rising zero = le_refl (at 0)
  rising (suc n) = omega (arith, rising n, next n)

  ends_before : (n j : ℕ) → j < n → end j ≤ at n
  ends_before zero j h = let f : ⊥ = omega arith in absurd f
  ends_before (suc n) j h = go (λ l. ends_before n j l) (ltb j n) refl
    where
      go : (j < n → end j ≤ at n) → (b : Bool) → ltb j n ≡ b → end j ≤ at (suc n)
      go r true t = omega (arith, r (ltb-true j n t), next n)
      go r false t = let e : j ≡ n = omega (arith, ltb-false j n t) in rw e (omega (arith, next n))

-- ---- one field

pub within : {low z high : ℤ} → (le_z low z && le_z z high) ≡ true → Between low z high
within {low} {z} {high} = (within_says low z high).fact

pub kept : {low z high : ℤ} → Between low z high → (le_z low z && le_z z high) ≡ true
kept {low} {z} {high} = (within_says low z high).passed

pub exactly : (z n : ℤ) → (le_z n z && le_z z n) ≡ true → z ≡ n
exactly z n e = let q = (same_says n z).fact e in omega ints

pub is_exactly : (z n : ℤ) → z ≡ n → (le_z n z && le_z z n) ≡ true
is_exactly z n e = (same_says n z).passed (omega ints)

-- an index among the first n, and one among the n from `offset` on
pub early : (i n : ℕ) {m : ℕ} → n ≤ m → T (ltb i n) → ltb i m ≡ true
early i n {m} h t = lt-ltb i m (omega (arith, ltb→lt i n t))

pub there : (offset j n : ℕ) {m : ℕ} → offset + n ≤ m → T (ltb j n) → ltb (offset + j) m ≡ true
there offset j n {m} h t = lt-ltb (offset + j) m (omega (arith, ltb→lt j n t))

pub there_0 : (offset n : ℕ) {m : ℕ} → offset + n ≤ m → T (ltb 0 n) → ltb offset m ≡ true
there_0 offset n {m} h t = lt-ltb offset m (omega (arith, ltb→lt 0 n t))

-- for `search`, what the questions of a row say of its fields, and the other way round; for `simp`, an index as the row's beginning and one number
pub ruleset row_is = (within, exactly)

pub ruleset row_kept = (kept, is_exactly, early, there_0, there)

pub ruleset flat = (add_assoc, add-zero)

-- ---- fields

-- what no "no" to fields up to the index `end` says: they are there, and their facts hold
abbrev pub Read : List ℤ → List Question → ℕ → Type 0 → Type 0
Read case qs end Facts = first_no qs ≡ Ok tt ↔ (end ≤ length case) × Facts

module _ (case : List ℤ) where
  pub all_read : (qs : List Question) {end : ℕ} {Facts : Type 0} → (AllYes qs ↔ (end ≤ length case) × Facts) → Read case qs end Facts
  all_read qs h = (λ y. h.0 (all_yes qs y), λ r. none_no qs (h.1 r))

  pub append_read : (X Y : List Question) {m n : ℕ} {A B : Type 0} → m ≤ n → Read case X m A → (m ≤ length case → A → Read case Y n B)
      → Read case (X ++ Y) n (A × B)
  append_read X Y w f g =
      let h = append_iff X Y f (λ a. g a.0 a.1) in
      (λ y. let r = h.0 y in (r.1.0, (r.0.1, r.1.1)), λ r. h.1 ((le_trans w r.0, r.1.0), (r.0, r.1.1)))

  pub over_read : (at : ℕ → ℕ) (f : ℕ → List Question) (n : ℕ) {end : ℕ → ℕ} {A : ℕ → Type 0} → ((j : ℕ) → Read case (f j) (end j) (A j))
      → ((j : ℕ) → (at (suc j) ≡ end j) × (at j ≤ end j)) → at 0 ≤ length case → Read case (over f 0 n) (at n) ((j : ℕ) → j < n → A j)
  over_read at f n {end} {A} h next z =
      let o = over_iff f n (λ j p. h j) in
      (λ y. (reach n (λ j p. (o.0 y j p).0), λ j p. (o.0 y j p).1), λ r. o.1 (λ j p. (le_trans (ends_before at end next n j p) r.0, r.1 j p)))
    where
      reach : (n : ℕ) → ((j : ℕ) → j < n → end j ≤ length case) → at n ≤ length case
      reach zero g = z
      reach (suc n) g = omega (arith, next n, g n (omega arith))

  pub field_read : (i : ℕ) (low high : ℤ) → Read case (field case i low high) (i + 1) (Between low (number_at case i) high)
  unfolding field
  field_read i low high =
      all_read (field case i low high) (λ a. (omega (arith, ltb-true), search within), λ r. (lt-ltb i (length case) (omega arith), (kept r.1, tt)))

  -- A is what is said of each of the n
  pub fields_read : (i n : ℕ) (low high : ℤ) (A : ℕ → Type 0) → ((j : ℕ) → Between low (number_at case (i + j)) high ↔ A j) → i ≤ length case
      → Read case (fields case i n low high) (i + n) ((j : ℕ) → j < n → A j)
  unfolding fields
  fields_read i n low high A f z =
      over_read (λ j. i + j) (next_field case i low high) n
      (λ j. let b = field_read (i + j) low high in (λ y. ((b.0 y).0, (f j).0 (b.0 y).1), λ r. b.1 (r.0, (f j).1 r.1)))
      (λ j. omega arith) (omega arith)
