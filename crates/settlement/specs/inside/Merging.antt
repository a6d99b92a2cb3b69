-- What a merge of two records keeps: the rows passed are settled, and each is earlier than every row that is left in the other record.
-- Assumes nothing.
use Rattle.std.specs.Prelude.{Bool, true, ◌&&◌, ◌||◌, List, ◌≡◌, ℕ, ◌+◌, ◌*◌, ◌<◌, ◌≤◌, leb, ltb, ℤ, nat_abs, ◌+ℤ◌, ◌<ℤ◌}
use Rattle.std.specs.Int.Signed.{lt_z}
use Rattle.numbers.specs.law.Sums.{sum, count}
use Rattle.settlement.specs.declared.merge.Merged.{Merged}
use Rattle.settlement.specs.declared.merge.Sums.{Sums}
use Rattle.settlement.specs.law.Records.{rows_of, time_of, grams_of}
use Rattle.settlement.specs.law.RecordRules.{in_grams, rises, most_rows}
use Rattle.settlement.specs.law.Settled.{standing_at, agreed_at, cut_at, alone_grams}

-- what 60 to 62 leave of a record
pub record Meter (meter : List ℤ) : Type 0 where
  pub few : rows_of meter ≤ most_rows
  pub rising : (i : ℕ) → i < rows_of meter → rises meter i ≡ true
  pub sized : (i : ℕ) → i < rows_of meter → in_grams (grams_of meter i) ≡ true

pub record Meters (sender receiver : List ℤ) : Type 0 where
  pub of_sender : Meter sender
  pub of_receiver : Meter receiver

-- a row is left in one of the two
pub record Left (sender receiver : List ℤ) (i j : ℕ) : Type 0 where
  pub upto_sender : i ≤ rows_of sender
  pub upto_receiver : j ≤ rows_of receiver
  pub more : i + j < rows_of sender + rows_of receiver

-- row i of a record is earlier than row j of the other, if the other has it
abbrev pub Before : List ℤ → List ℤ → ℕ → ℕ → Type 0
Before meter other i j = j < rows_of other → time_of meter i <ℤ time_of other j

-- is there a row i of a record, and is it earlier than row j of the other, if the other has it?
abbrev pub earliest : List ℤ → List ℤ → ℕ → ℕ → Bool
earliest meter other i j = ltb i (rows_of meter) && (leb (rows_of other) j || lt_z (time_of meter i) (time_of other j))

-- the sums of the first i and the first j rows
unfoldable pub sums_to : List ℤ → List ℤ → ℤ → ℕ → ℕ → Sums
sums_to sender receiver agreed i j = record {
  total = sum i (standing_at sender receiver agreed) +ℤ sum j (alone_grams receiver sender);
  agreed = count i (agreed_at sender receiver agreed);
  cut = count i (cut_at sender receiver agreed);
}

pub record Merging (sender receiver : List ℤ) (agreed : ℤ) (m : Merged) : Type 0 where
  pub upto_sender : m.i ≤ rows_of sender
  pub upto_receiver : m.j ≤ rows_of receiver
  pub sender_passed : (x : ℕ) → x < m.i → Before sender receiver x m.j
  pub receiver_passed : (y : ℕ) → y < m.j → Before receiver sender y m.i
  pub small : nat_abs m.sums.total ≤ (m.i + m.j) * 1000000000000
  pub so_far : m.sums ≡ sums_to sender receiver agreed m.i m.j
