-- What an export's number says: 0 exactly where there is no "no", since no question has the number 0. Where `out` is short it is -1.
-- Assumes nothing.
use Rattle.std.specs.Prelude.{◌≡◌, refl, Bool, true, false, cond, List, [], ℕ, ◌≤◌, leb, ℤ, pos, negsuc, nat_abs, length, Ok, Err}
use Rattle.std.proofs.Common.{ap, arith, le-leb}
use Rattle.numbers.specs.law.Told.{Told, gives}
use Rattle.numbers.specs.law.Question.{first_no, found, told_with, told, Answer}
use Rattle.numbers.specs.inside.SmallRefusals.{Small}
use Rattle.case.specs.law.Judged.{case_questions, judged_case}
use Rattle.case.specs.inside.SmallRefusals.{limit, case_small}
use Rattle.plan.specs.declared.totals.Totals.{Totals}
use Rattle.plan.specs.law.Totals.{totals_of}
use Rattle.plan.specs.law.Judged.{verdict_told, judge_of}
use Rattle.plan.specs.law.Ledger.{figures_told, ledger_questions, ledger_told, figures_for, ledger_of}
use Rattle.plan.specs.inside.SmallRefusals.{ledger_small}
use Rattle.plan.specs.claims.BytesAccepted.{zero_accepted}
use Rattle.settlement.specs.declared.figures.Figures as settled
use Rattle.settlement.specs.law.RecordRules.{settle_questions}
use Rattle.settlement.specs.law.Settled.{settled_figures}
use Rattle.settlement.specs.law.Settling.{settlement_values, settlement_told, settle_of}
use Rattle.settlement.specs.inside.SettlementSizes.{settle_small}
use Rattle.gasplan.specs.law.Out.{code_of}

-- an answer 0 tells the number 0, and with 6 places in `out` the other way round
pub code_zero : (out : List ℤ) (t : Told) → code_of out t ≡ pos 0 → t.number ≡ 0
code_zero out t e = go (leb 6 (length out)) e
  where
    go : (b : Bool) → cond b (pos t.number) (negsuc 0) ≡ pos 0 → t.number ≡ 0
    go true e = ap nat_abs e
    go false e = let f : ◌≡◌ {A = ℕ} 1 0 = ap nat_abs e in let z : ⊥ = omega arith in absurd z

pub zero_code : (out : List ℤ) (t : Told) → 6 ≤ length out → t.number ≡ 0 → code_of out t ≡ pos 0
zero_code out t room e = let b : leb 6 (length out) ≡ true = le-leb 6 (length out) room in rw (b, e)

-- a refusal's number is not 0
told_zero : (a : Answer) → Small limit a → (told a).number ≡ 0 → a ≡ Ok tt
told_zero (Ok _) s e = refl
told_zero (Err n) s e = let f : ⊥ = omega (arith, s.3, e) in absurd f

found_zero : {A : Type 0} (values : A → List ℤ) (a : Answer) (v : A) (b : ℕ) → Small b a → (told_with values (found a v)).number ≡ 0 → a ≡ Ok tt
found_zero values (Ok _) v b s e = refl
found_zero values (Err n) v b s e = let f : ⊥ = omega (arith, s.3, e) in absurd f

-- Where `gasplan_case` answers 0 the case is accepted.
pub case_zero : (case out : List ℤ) → code_of out (judged_case case) ≡ pos 0 → judged_case case ≡ gives []
unfolding judged_case
case_zero case out e = ap told (told_zero (first_no (case_questions case)) (case_small case) (code_zero out (judged_case case) e))

-- Where `gasplan_judge` answers 0 case and plan are accepted, and it tells their totals.
pub judge_zero : (case plan out : List ℤ) → code_of out (judge_of case plan) ≡ pos 0 → judge_of case plan ≡ verdict_told (Ok (totals_of case plan))
judge_zero case plan out e = zero_accepted case plan (code_zero out (judge_of case plan) e)

-- Where `gasplan_ledger` answers 0 it tells the ledger's figures.
pub ledger_zero : (case plan out : List ℤ) (set s t : ℤ) → code_of out (ledger_of case plan set s t) ≡ pos 0
    → ledger_of case plan set s t ≡ ledger_told (Ok (figures_for case plan set s t))
unfolding ledger_of
ledger_zero case plan out set s t e =
    let f = figures_for case plan set s t in
    let n = code_zero out (ledger_of case plan set s t) e in
    ap (λ (a : Answer). ledger_told (found a f))
    (found_zero figures_told (first_no (ledger_questions case plan set s t)) f _ (ledger_small case plan set s t) n)

-- Where `gasplan_settle` answers 0 the records are settled, and it tells their figures.
pub settle_zero : (sender receiver out : List ℤ) (agreed : ℤ) → code_of out (settle_of sender receiver agreed) ≡ pos 0
    → settle_of sender receiver agreed ≡ settlement_told (Ok (settled_figures sender receiver agreed))
unfolding settle_of
settle_zero sender receiver out agreed e =
    let f = settled_figures sender receiver agreed in
    let n = code_zero out (settle_of sender receiver agreed) e in
    ap (λ (a : Answer). settlement_told (found a f))
    (found_zero settlement_values (first_no (settle_questions sender receiver agreed)) f _ (settle_small sender receiver agreed) n)

-- With 6 places in `out` an accepted case or plan is answered by 0, and so are records that are settled.
pub zero_case : (case out : List ℤ) → 6 ≤ length out → judged_case case ≡ gives [] → code_of out (judged_case case) ≡ pos 0
zero_case case out room e = zero_code out (judged_case case) room (ap (λ (t : Told). t.number) e)

pub zero_judge : (case plan out : List ℤ) → 6 ≤ length out → (totals : Totals) → judge_of case plan ≡ verdict_told (Ok totals)
    → code_of out (judge_of case plan) ≡ pos 0
zero_judge case plan out room totals e = zero_code out (judge_of case plan) room (ap (λ (t : Told). t.number) e)

pub zero_settle : (sender receiver out : List ℤ) (agreed : ℤ) → 6 ≤ length out → (f : settled.Figures)
    → settle_of sender receiver agreed ≡ settlement_told (Ok f) → code_of out (settle_of sender receiver agreed) ≡ pos 0
zero_settle sender receiver out agreed room f e = zero_code out (settle_of sender receiver agreed) room (ap (λ (t : Told). t.number) e)
