-- What is told of each answer fits 64 bits with a sign, since it is what the law tells.
use Rattle.std.specs.Prelude.{◌≡◌, refl, Bool, true, false, cond, List, [], ◌∷◌, ℕ, ◌<◌, ◌^◌, leb, ℤ, pos, length, Result, Ok, Err}
use Rattle.std.proofs.Common.{ap, subst, arith}
use Rattle.numbers.specs.law.Told.{Told, gives, refuses}
use Rattle.numbers.specs.declared.answer.No.{No}
use Rattle.numbers.specs.law.Question.{Answer, told}
use Rattle.numbers.specs.law.CodecTold.{Count, count_told}
use Rattle.numbers.specs.law.Groups.{encode, write_told}
use Rattle.numbers.specs.law.Reading.{Ending, all, no, read_of, read_told, end_told}
use Rattle.numbers.specs.inside.GroupLaws.{write_within}
use Rattle.numbers.specs.inside.ReadingBounds.{count_within}
use Rattle.numbers.specs.inside.SmallRefusals.{Small}
use Rattle.case.specs.law.Judged.{judged_case}
use Rattle.case.specs.inside.SmallRefusals.{limit, case_small}
use Rattle.plan.specs.law.Judged.{Verdict, verdict_told, judge_of}
use Rattle.plan.specs.law.JudgedBytes.{bytes_judged}
use Rattle.plan.specs.law.Ledger.{Ledger, ledger_told, ledger_of}
use Rattle.plan.specs.inside.VerdictLaws.{case_answer}
use Rattle.plan.specs.inside.VerdictSizes.{Fit, FitLedger, judge_fits, bytes_fit, refused_same, unread_small}
use Rattle.plan.proofs.LedgerSizes.{ledger_fits}
use Rattle.settlement.specs.declared.figures.Figures as settled
use Rattle.settlement.specs.law.Settling.{settlement_told, settle_of}
use Rattle.settlement.specs.inside.SettlementSizes as settled_sizes
use Rattle.gasplan.specs.inside.Fits.{Fits, nothing_fits, count_fits, totals_fit, figures_fit, settlement_fit}

-- ---- case and plan

pub case_told_fits : (case : List ℤ) (a : Answer) → told a ≡ judged_case case → Fits nothing_fits a
case_told_fits case a e = go a (subst (Small limit) (case_answer case a e) (case_small case))
  where
    go : (a : Answer) → Small limit a → Fits nothing_fits a
    go (Ok _) s = tt
    go (Err n) s = (omega (arith, s.0), omega (arith, s.1), omega (arith, s.2))

verdict_fits : (v : Verdict) → Fit (2 ^ 63) v → Fits totals_fit v
verdict_fits (Ok t) h = h
verdict_fits (Err n) h = (h.0, h.1, h.2)

pub judge_told_fits : (case plan : List ℤ) (v : Verdict) → verdict_told v ≡ judge_of case plan → Fits totals_fit v
judge_told_fits case plan v e = verdict_fits v (judge_fits case plan v e)

pub bytes_told_fits : (case_bytes plan_bytes : List ℕ) (case_list plan_list : List ℤ) → length case_bytes < 2 ^ 63 → length plan_bytes < 2 ^ 63
    → (v : Verdict) → verdict_told v ≡ (bytes_judged case_bytes plan_bytes case_list plan_list).told → Fits totals_fit v
bytes_told_fits case_bytes plan_bytes case_list plan_list h k v e = verdict_fits v (bytes_fit case_bytes plan_bytes case_list plan_list h k v e)

pub ledger_told_fits : (case plan : List ℤ) (set s t : ℤ) (v : Ledger) → ledger_told v ≡ ledger_of case plan set s t → Fits figures_fit v
ledger_told_fits case plan set s t v e = go v (ledger_fits case plan set s t v e)
  where
    go : (v : Ledger) → FitLedger (2 ^ 63) v → Fits figures_fit v
    go (Ok f) h = h
    go (Err n) h = h

-- ---- a settlement

pub settle_told_fits : (sender receiver : List ℤ) (agreed : ℤ) (v : Result settled.Figures No) → settlement_told v ≡ settle_of sender receiver agreed
    → Fits settlement_fit v
settle_told_fits sender receiver agreed v e = go v (settled_sizes.settle_fits sender receiver agreed v e)
  where
    go : (v : Result settled.Figures No) → settled_sizes.Fit (2 ^ 63) v → Fits settlement_fit v
    go (Ok f) h = h
    go (Err n) h = h

-- ---- a count

no_count : {n : ℕ} {k s p : ℕ} {X : Type 0} → refuses k s p ≡ gives (pos n ∷ []) → X
no_count e = let v = ap (λ (t : Told). length t.values) e in let f : ⊥ = omega arith in absurd f

pub read_told_fits : (bytes : List ℕ) (room : ℕ) → length bytes < 2 ^ 63 → room < 2 ^ 63 → (v : Count)
    → count_told v ≡ read_told (read_of bytes room)
    → Fits count_fits v
unfolding read_told
read_told_fits bytes room h k (Ok n) e = omega (arith, count_within bytes room n e)
read_told_fits bytes room h k (Err n) e = go (read_of bytes room).ended refl e
  where
    go : (d : Ending) → (read_of bytes room).ended ≡ d → count_told (Err n) ≡ end_told d (length (read_of bytes room).stored)
        → Fits count_fits (Err n)
    go all y e = no_count e
    go (no m p) y e = let r = refused_same e in let w = unread_small bytes room y in (omega (arith, w.0), omega arith, omega (arith, w.1))

pub write_told_fits : (list : List ℤ) (room : ℕ) → room < 2 ^ 63 → (v : Count) → count_told v ≡ write_told list room → Fits count_fits v
unfolding write_told
write_told_fits list room h (Ok n) e = omega (arith, write_within list room n e)
write_told_fits list room h (Err n) e = go (leb (length (encode list)) room) e
  where
    go : (b : Bool) → count_told (Err n) ≡ cond b (gives (pos (length (encode list)) ∷ [])) (refuses 4 0 0) → Fits count_fits (Err n)
    go true e = no_count e
    go false e = let r = refused_same e in (omega arith, omega arith, omega arith)
