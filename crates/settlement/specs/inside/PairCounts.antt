-- Each row of a record is in a pair or alone, and both records have as many rows in pairs (`among_either`).
-- Assumes nothing.
use Rattle.std.specs.Prelude.{Bool, true, false, not, List, ◌≡◌, refl, ℕ, ◌+◌, ℤ}
use Rattle.std.proofs.Common.{arith}
use Rattle.numbers.specs.law.Sums.{sum_n, only_n, count}
use Rattle.numbers.specs.inside.SumLaws.{sum_n_add, sum_n_cong, sum_n_const}
use Rattle.settlement.specs.law.Records.{rows_of, time_of, grams_of}
use Rattle.settlement.specs.law.LookUp.{Found, found, missing}
use Rattle.settlement.specs.law.Settled.{agrees, is_agreed, is_cut, is_missing, opposite, agreed_at, cut_at, alone_at}
use Rattle.settlement.specs.inside.Merging.{Meter, Meters}
use Rattle.settlement.specs.inside.TimeCounts.{rows_with, one_or_missing, among_either}

-- ---- row by row

-- a sender's row is agreed, cut or alone
pub one_of_three : (sender receiver : List ℤ) (agreed : ℤ) (i : ℕ)
    → only_n (agreed_at sender receiver agreed i) 1 + only_n (cut_at sender receiver agreed i) 1 + only_n (alone_at sender receiver i) 1 ≡ 1
unfolding agreed_at cut_at alone_at
one_of_three sender receiver agreed i = go (opposite sender receiver i)
  where
    pair : (b : Bool) → only_n b 1 + only_n (not b) 1 + 0 ≡ 1
    pair true = refl
    pair false = refl

    go : (x : Found) → only_n (is_agreed agreed (grams_of sender i) x) 1 + only_n (is_cut agreed (grams_of sender i) x) 1 + only_n (is_missing x) 1 ≡ 1
    go (found r) = pair (agrees agreed (grams_of sender i) r)
    go missing = refl

-- a row has one row of its time in the other record, or is alone
pub alone_or_pair : (meter : List ℤ) {other : List ℤ} → Meter other → (i : ℕ)
    → rows_with other (time_of meter i) (rows_of other) + only_n (alone_at meter other i) 1 ≡ 1
unfolding alone_at opposite
alone_or_pair meter m i = one_or_missing m (time_of meter i)

-- ---- all rows

each_one : (k : ℕ) (f g : ℕ → ℕ) → ((i : ℕ) → f i + g i ≡ 1) → sum_n k f + sum_n k g ≡ k
each_one k f g h = omega (arith, sum_n_add k f g, sum_n_cong k (λ i. f i + g i) (λ i. 1) (λ i l. h i), sum_n_const k 1)

pub sender_in_pairs : (sender receiver : List ℤ) (agreed : ℤ)
    → count (rows_of sender) (agreed_at sender receiver agreed) + count (rows_of sender) (cut_at sender receiver agreed)
    + count (rows_of sender) (alone_at sender receiver) ≡ rows_of sender
unfolding count
sender_in_pairs sender receiver agreed =
    let a : ℕ → ℕ = λ i. only_n (agreed_at sender receiver agreed i) 1 in
    let c : ℕ → ℕ = λ i. only_n (cut_at sender receiver agreed i) 1 in
    omega (arith, sum_n_add (rows_of sender) a c, each_one (rows_of sender) (λ i. a i + c i) _ (one_of_three sender receiver agreed))

pub receiver_in_pairs : {sender receiver : List ℤ} → Meters sender receiver → (agreed : ℤ)
    → count (rows_of sender) (agreed_at sender receiver agreed) + count (rows_of sender) (cut_at sender receiver agreed)
    + count (rows_of receiver) (alone_at receiver sender) ≡ rows_of receiver
unfolding count
receiver_in_pairs {sender} {receiver} k agreed =
    let s = each_one (rows_of sender) _ _ (alone_or_pair sender k.of_receiver) in
    let r = each_one (rows_of receiver) _ _ (alone_or_pair receiver k.of_sender) in
    omega (arith, s, r, sender_in_pairs sender receiver agreed, among_either sender receiver)
