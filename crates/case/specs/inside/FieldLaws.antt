-- What a field is known to be once 10 and 11 have let it pass: no "no" of a list is no "no" of any part of it.
-- Assumes nothing.
use Rattle.std.specs.Prelude.{◌≡◌, true, List, ◌++◌, ℕ, ◌<◌, ◌≤◌, ℤ, pos, length, Ok}
use Rattle.std.proofs.Common.{ltb-true}
use Rattle.std.specs.Int.Signed.{le_z}
use Rattle.numbers.specs.inside.SignedParts.{ints, size}
use Rattle.numbers.specs.law.Question.{Question, first_no}
use Rattle.numbers.specs.inside.QuestionLaws.{all_yes}
pub use Rattle.numbers.specs.inside.QuestionLaws.{and_first, and_second, first_yes, second_yes}
pub use Rattle.numbers.specs.inside.ItemLaws.{zero_add, item_yes}
use Rattle.case.specs.law.Layout.{number_at, count_at}
use Rattle.case.specs.law.Field.{field}

pub record InRange (case : List ℤ) (i : ℕ) (low high : ℤ) : Type 0 where
  pub there : i < length case
  pub least : le_z low (number_at case i) ≡ true
  pub most : le_z (number_at case i) high ≡ true

pub field_yes : (case : List ℤ) (i : ℕ) (low high : ℤ) → first_no (field case i low high) ≡ Ok tt → InRange case i low high
unfolding field
field_yes case i low high e =
    let a = all_yes (field case i low high) e in
    record {
      there = ltb-true _ _ a.0;
      least = and_first _ _ a.1.0;
      most = and_second (le_z low (number_at case i)) _ a.1.0;
    }

-- a field before other questions: what is known of it, and that none of the others is answered no
pub field_then : (case : List ℤ) (i : ℕ) (low high : ℤ) (Y : List Question) → first_no (field case i low high ++ Y) ≡ Ok tt
    → InRange case i low high × (first_no Y ≡ Ok tt)
field_then case i low high Y e = (field_yes case i low high (first_yes (field case i low high) Y e), second_yes (field case i low high) Y e)

-- a count from m to n
pub count_most : {case : List ℤ} {i : ℕ} {m n : ℕ} → InRange case i (pos m) (pos n) → count_at case i ≤ n
count_most {case} {i} r = omega (ints, r.most, size (number_at case i))

pub count_least : {case : List ℤ} {i : ℕ} {m n : ℕ} → InRange case i (pos m) (pos n) → m ≤ count_at case i
count_least {case} {i} r = omega (ints, r.least, size (number_at case i))
