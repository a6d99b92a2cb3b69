-- "Every row is counted in exactly one way, a matched pair as one." A sender's row is agreed, cut or alone by what the look-up finds; a receiver's row is
-- alone, or the pair of one sender's row, and both records have as many rows in pairs (`PairCounts.antt`).
-- Assumes nothing.
use Rattle.std.specs.Prelude.{false, List, ◌≡◌, ℤ, Ok}
use Rattle.std.proofs.Common.{sym}
use Rattle.std.proofs.Math.Path.{ap}
use Prim.Native.Nat.{ℕ, ◌+◌, ◌<◌}
use Rattle.numbers.specs.law.Sums.{only_n}
use Rattle.settlement.specs.declared.figures.Figures.{Figures}
use Rattle.settlement.specs.law.Records.{rows_of, time_of}
use Rattle.settlement.specs.law.Settled.{is_missing, agreed_at, cut_at, alone_at, settled_figures}
use Rattle.settlement.specs.law.Settling.{settlement_told, settle_of}
use Rattle.settlement.specs.inside.LookUpLaws.{row_found}
use Rattle.settlement.specs.inside.TimeCounts.{rows_with}
use Rattle.settlement.specs.inside.PairCounts.{one_of_three, alone_or_pair, sender_in_pairs, receiver_in_pairs}
use Rattle.settlement.specs.inside.ToldLaws.{told_figures, told_meters}

-- ---- row by row

-- Exactly one of the three is so of a sender's row.
pub sender_once : (sender receiver : List ℤ) (agreed : ℤ) (i : ℕ)
    → only_n (agreed_at sender receiver agreed i) 1 + only_n (cut_at sender receiver agreed i) 1 + only_n (alone_at sender receiver i) 1 ≡ 1
sender_once = one_of_three

-- ---- all rows

module _ (sender receiver : List ℤ) (agreed : ℤ) (f : Figures) (e : settle_of sender receiver agreed ≡ settlement_told (Ok f)) where
  -- A receiver's row is the pair of one sender's row, or is alone.
  pub receiver_once : (j : ℕ) → rows_with sender (time_of receiver j) (rows_of sender) + only_n (alone_at receiver sender j) 1 ≡ 1
  receiver_once = alone_or_pair receiver (told_meters sender receiver agreed f e).of_sender

  -- Two rows of one time are a pair: neither is alone, so the sender's is agreed or cut (`sender_once`) and the receiver's is counted with it.
  pub pair_once : (i j : ℕ) → i < rows_of sender → j < rows_of receiver → time_of sender i ≡ time_of receiver j
      → (alone_at sender receiver i ≡ false) × (alone_at receiver sender j ≡ false)
  unfolding alone_at
  pair_once i j l h q =
      let m = told_meters sender receiver agreed f e in
      (ap is_missing (row_found sender m.of_receiver i j h q), ap is_missing (row_found receiver m.of_sender j i l (sym q)))

  pub sender_rows : f.agreed + f.cut + f.sender ≡ rows_of sender
  unfolding settled_figures
  sender_rows = rw (told_figures sender receiver agreed f e) (sender_in_pairs sender receiver agreed)

  pub receiver_rows : f.agreed + f.cut + f.receiver ≡ rows_of receiver
  unfolding settled_figures
  receiver_rows = rw (told_figures sender receiver agreed f e) (receiver_in_pairs (told_meters sender receiver agreed f e) agreed)
