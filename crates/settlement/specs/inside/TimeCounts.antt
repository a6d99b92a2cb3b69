-- How many rows of a record have a time: one where the look-up finds it and none where it does not, by induction on the rows; and over the times of
-- another record as many as that record has at the times of this one, since two sums may be exchanged.
-- Assumes nothing.
use Rattle.std.specs.Prelude.{Bool, cond, List, ◌≡◌, ℤ}
use Rattle.std.proofs.Math.Bool.{true, false, and_comm}
use Rattle.std.proofs.Math.Path.{refl}
use Rattle.std.proofs.Common.{ap, ◌∙◌, arith}
use Prim.Native.Nat.{ℕ, zero, suc, ◌+◌, ◌≤◌}
use Rattle.std.specs.Int.Signed.{le_z}
use Rattle.numbers.specs.law.Sums.{sum_n, only_n, count}
use Rattle.numbers.specs.inside.QuestionLaws.{and_first}
use Rattle.numbers.specs.inside.SignedParts.{ints}
use Rattle.numbers.specs.inside.SumLaws.{sum_n_cong, sum_n_swap}
use Rattle.settlement.specs.law.Records.{rows_of, time_of, grams_of}
use Rattle.settlement.specs.law.LookUp.{found, missing, same_time, look_up_in, look_up}
use Rattle.settlement.specs.law.Settled.{is_missing}
use Rattle.settlement.specs.inside.Merging.{Meter}
use Rattle.settlement.specs.inside.RecordLaws.{earlier}
use Rattle.settlement.specs.inside.LookUpLaws.{earlier_differs, none_found}

-- how many of the first n rows have the time
abbrev pub rows_with : List ℤ → ℤ → ℕ → ℕ
rows_with meter time n = count n (λ i. same_time (time_of meter i) time)

module _ {meter : List ℤ} (m : Meter meter) (time : ℤ) where
  one_in : (n : ℕ) → n ≤ rows_of meter → rows_with meter time n + only_n (is_missing (look_up_in meter time n)) 1 ≡ 1
  unfolding look_up_in count sum_n
  one_in zero h = refl
  one_in (suc n) h = go (same_time (time_of meter n) time) refl (one_in n (omega arith))
    where
      go : (t : Bool) → same_time (time_of meter n) time ≡ t → rows_with meter time n + only_n (is_missing (look_up_in meter time n)) 1 ≡ 1
          → rows_with meter time n + only_n t 1 + only_n (is_missing (cond t (found (grams_of meter n)) (look_up_in meter time n))) 1 ≡ 1
      go true e r =
          let t = and_first (le_z (time_of meter n) time) _ e in
          let k : look_up_in meter time n ≡ missing =
          none_found meter time n (λ y l. let b = earlier m y n l h in earlier_differs {a = time_of meter y} {b = time} (omega ints)) in
          omega (arith, rw k at r)
      go false e r = omega (arith, r)

  -- one row, or none and it is missing
  pub one_or_missing : rows_with meter time (rows_of meter) + only_n (is_missing (look_up meter time)) 1 ≡ 1
  unfolding look_up
  one_or_missing = one_in (rows_of meter) (omega arith)

-- the rows of one record at the times of the other
abbrev pub rows_among : List ℤ → List ℤ → ℕ
rows_among meter other = sum_n (rows_of other) (λ j. rows_with meter (time_of other j) (rows_of meter))

pub among_either : (sender receiver : List ℤ) → rows_among receiver sender ≡ rows_among sender receiver
unfolding count
among_either sender receiver =
    sum_n_swap (rows_of sender) (rows_of receiver) (λ i j. only_n (same_time (time_of receiver j) (time_of sender i)) 1)
    ∙ sum_n_cong (rows_of receiver) _ _ (λ j l. sum_n_cong (rows_of sender) _ _ (λ i k.
    ap (λ (b : Bool). only_n b 1) (and_comm (le_z (time_of receiver j) (time_of sender i)) _)))
