-- An empty out bound (document 02, P8): "From now on 0 stands for acthigh of the out end in that step, in all editions." "A case whose out bounds are all
-- nonzero is judged as before": neither its verdict nor its ledger goes by what 0 stands for. On every case, what is accepted is accepted with the 200,000 of
-- document 01 too. The product of 26 is that of document 02, P1, throughout.
-- Assumes nothing.
use Rattle.std.specs.Prelude.{◌≡◌, refl, Bool, true, List, [], ◌∷◌, ◌≢◌, ℕ, ◌≤◌, ◌<◌, ℤ, pos, ◌≤ℤ◌, Ok}
use Rattle.std.proofs.Common.{sym, ◌∙◌}
use Rattle.std.specs.Int.Signed.{le_z}
use Rattle.numbers.specs.law.Told.{Told, refuses}
use Rattle.numbers.specs.inside.SignedParts.{ints, size}
use Rattle.case.specs.law.Field.{most_pressure}
use Rattle.case.specs.law.Layout.{nodes_of, arcs_of, steps_of}
use Rattle.case.specs.law.Records.{node_of, arc_of, artificial_of}
use Rattle.case.specs.inside.SaysLaws.{both, pick, le_says, zero_says}
use Rattle.plan.specs.declared.totals.Totals.{Totals}
use Rattle.plan.specs.declared.setting.Way.{Way}
use Rattle.plan.specs.declared.setting.Way.TheVariants.{Forward, Backward}
use Rattle.plan.specs.declared.setting.Mode.TheVariants.{Open, Regulating, Compressing}
use Rattle.plan.specs.declared.setting.Setting.{Setting}
use Rattle.plan.specs.declared.setting.Setting.TheVariants.{Unknown, Off, Active}
use Rattle.plan.specs.law.PlanLayout.{step_rows}
use Rattle.plan.specs.law.PlanRecords.{pressure_in}
use Rattle.plan.specs.law.Setting.{setting_in, out_end}
use Rattle.plan.specs.law.ArcPressures.{reach_kept, pressures_kept}
use Rattle.plan.specs.law.Judged.{verdict_told, judge_of}
use Rattle.plan.specs.law.Ledger.{ledger_of}
use Rattle.plan.specs.inside.JudgedAlike.{arc_alike, Alike26, judged_alike, ledger_alike}
use Rattle.plan.specs.inside.Preconditions.{AcceptedCase}
use Rattle.plan.specs.inside.CaseSizes.{node_sized, from_node, to_node}
use Rattle.plan.specs.inside.Computed.{law}
use Rattle.plan.specs.claims.Acceptance.{sound}
use Rattle.plan.specs.claims.ArcFacts.{rule26_compressing}
use Rattle.plan.specs.claims.JudgedUnder.{CompressionTest, Default, act_high, compression_by, reach_of}
use Rattle.plan.specs.claims.JudgedUnder.{setting_pressures_under, pressures_under, judged_under, ledger_under}
use Rattle.plan.specs.claims.TableT.{Row, judges, AllHold, RowHolds, minus, two_machines, raised, plan6, accepted6}
use Rattle.plan.specs.claims.FurtherRows.{runs_backward, plan_b, accepted_b}

-- ---- 26 and the verdict with another default

-- "where 0 means 200,000" (document 01)
abbrev pub default_of01 : Default
default_of01 i e w = most_pressure

-- compressing with it, the reach as it is
abbrev pub compression_with : Default → List ℤ → CompressionTest
compression_with default case = compression_by default (reach_of case) case

-- 26, the verdict and what the ledger tells
abbrev pub pressures_with : Default → List ℤ → List ℤ → ℕ → ℕ → Bool
pressures_with default case = pressures_under (compression_with default case) case

abbrev pub judged_with : Default → List ℤ → List ℤ → Told
judged_with default case = judged_under (compression_with default case) case

abbrev pub ledger_with : Default → List ℤ → List ℤ → ℤ → ℤ → ℤ → Told
ledger_with default case = ledger_under (compression_with default case) case

-- ---- one arc

-- 26 of an arc whose out bound is not 0, or that has none, answers as with any default
pub outbound_given : (default : Default) (case rows : List ℤ) (i e : ℕ) → (5 ≤ (arc_of case e).kind → (artificial_of case e).outbound ≢ pos 0)
    → pressures_with default case rows i e ≡ pressures_kept case rows i e
outbound_given default case rows i e given = arc_alike default (reach_of case) case rows i e (λ k z way. absurd (given k z)) (λ way k. refl)

-- ---- the verdict and the ledger

-- with acthigh of the out end as the default both are the law's, on every case
module _ (case plan : List ℤ) where
  by_acthigh : Alike26 (compression_with (act_high case) case) case plan
  by_acthigh i e p l = arc_alike (act_high case) (reach_of case) case (step_rows case plan i) i e (λ k z way. refl) (λ way k. refl)

  pub judged_by_acthigh : judged_with (act_high case) case plan ≡ judge_of case plan
  judged_by_acthigh = judged_alike (compression_with (act_high case) case) case plan by_acthigh

  pub ledger_by_acthigh : (set s t : ℤ) → ledger_with (act_high case) case plan set s t ≡ ledger_of case plan set s t
  ledger_by_acthigh = ledger_alike (compression_with (act_high case) case) case plan by_acthigh

-- the out bounds of a case are all nonzero
abbrev pub OutBoundsGiven : List ℤ → Type 0
OutBoundsGiven case = (e : ℕ) → e < arcs_of case → 5 ≤ (arc_of case e).kind → (artificial_of case e).outbound ≢ pos 0

module _ (default : Default) (case plan : List ℤ) (given : OutBoundsGiven case) where
  alike_26 : Alike26 (compression_with default case) case plan
  alike_26 i e p l = outbound_given default case (step_rows case plan i) i e (given e l)

  -- "A case whose out bounds are all nonzero is judged as before": whatever the default, the verdict on any plan is the same
  pub judged_as_before : judged_with default case plan ≡ judge_of case plan
  judged_as_before = judged_alike (compression_with default case) case plan alike_26

  -- and so is what the ledger tells
  pub ledger_as_before : (set s t : ℤ) → ledger_with default case plan set s t ≡ ledger_of case plan set s t
  ledger_as_before = ledger_alike (compression_with default case) case plan alike_26

-- ---- cases made before

-- 26 holds with 200,000 where it holds with acthigh, which is no higher
kept_with_01 : (case rows : List ℤ) (i e : ℕ) → ((way : Way) → (act_high case i e (out_end way (arc_of case e))) ≤ℤ most_pressure)
    → pressures_kept case rows i e ≡ true → pressures_with default_of01 case rows i e ≡ true
unfolding reach_kept
kept_with_01 case rows i e h y = go (setting_in case rows e) refl
  where
    go : (s : Setting) → setting_in case rows e ≡ s → setting_pressures_under (compression_with default_of01 case) case rows i e s ≡ true
    go Unknown k = y
    go Off k = y
    go (Active way Open) k = y
    go (Active way Regulating) k = y
    go (Active way Compressing) k =
        let f = (rule26_compressing case rows i e way k).fact y in
        let p = pressure_in rows (out_end way (arc_of case e)) in
        let x = (artificial_of case e).outbound in
        let empty : x ≡ pos 0 → p ≤ℤ most_pressure = λ z. omega (ints, f.empty z, h way) in
        (both (le_says _ _) (both (pick (le_z p) (zero_says x) (le_says p most_pressure) (le_says p x)) (le_says _ _))).passed
        (f.raises, ((empty, f.bound), f.reach))

-- 11 keeps every acthigh at or below 200,000
acthigh_most : {case : List ℤ} (c : AcceptedCase case) (i e : ℕ) → i < steps_of case → e < arcs_of case
    → (way : Way) → (act_high case i e (out_end way (arc_of case e))) ≤ℤ most_pressure
acthigh_most {case} c i e p l = go
  where
    at : (v : ℕ) → v < nodes_of case → (node_of case v i).acthigh ≤ℤ most_pressure
    at v q = let z = (node_of case v i).acthigh in omega (ints, size z, (node_sized c v q i p).acthigh.bound)

    go : (way : Way) → (act_high case i e (out_end way (arc_of case e))) ≤ℤ most_pressure
    go Forward = at (arc_of case e).to (to_node c e l)
    go Backward = at (arc_of case e).from (from_node c e l)

-- "those made before go by the new rule": a plan that is accepted by it is accepted with document 01's default too, with the same totals
pub was_accepted : (case plan : List ℤ) (t : Totals) → judge_of case plan ≡ verdict_told (Ok t)
    → judged_with default_of01 case plan ≡ verdict_told (Ok t)
was_accepted case plan t e =
    let r = sound case plan t e in
    judged_alike (compression_with default_of01 case) case plan (λ i a p l.
    let y = ((r.steps i p).arcs a l).rule26 in
    kept_with_01 case (step_rows case plan i) i a (acthigh_most (record { yes = r.case_yes }) i a p l) y ∙ sym y) ∙ e

-- ---- rows: the case of table T's row 6 with other bounds, and a compressor that runs backward, whose out end is its from node

unfoldable pub out_bound_rows : List Row
out_bound_rows =
    -- 0 stands for acthigh of the out end: 59,999 does not let 60,000 through, 60,000 does
    judges (two_machines (pos 40000) (pos 0) (pos 0) (pos 0) (pos 59999)) (plan6 (pos 60000)) (refuses 26 1 0)
    ∷ judges (two_machines (pos 40000) (pos 0) (pos 0) (pos 0) (pos 60000)) (plan6 (pos 60000))
    accepted6
    -- the slack u-, with which 23 is passed at a sink that has a demand, does not lift it
    ∷ judges (two_machines (pos 40000) (pos 2) (minus 1) (pos 0) (pos 59999)) (raised (pos 3) (pos 60000) (pos 1) (pos 1)) (refuses 26 1 0)
    -- a bound that is given counts alone, above acthigh and below it
    ∷ judges (two_machines (pos 40000) (pos 0) (pos 0) (pos 60000) (pos 59999)) (plan6 (pos 60000))
    accepted6
    ∷ judges (two_machines (pos 40000) (pos 0) (pos 0) (pos 59999) (pos 60000)) (plan6 (pos 60000)) (refuses 26 1 0)
    -- 0 backward, where acthigh of the in end is 60,000
    ∷ judges (runs_backward (pos 50000) (pos 0) (pos 59999)) plan_b (refuses 26 1 1)
    ∷ judges (runs_backward (pos 50000) (pos 0) (pos 60000)) plan_b accepted_b
    ∷ []

pub out_bounds : AllHold out_bound_rows
unfolding AllHold RowHolds out_bound_rows law
out_bounds = (refl, (refl, (refl, (refl, (refl, (refl, (refl, tt)))))))

-- the first of them is accepted with the default of document 01
pub first_row_with_01 : judged_with default_of01 (two_machines (pos 40000) (pos 0) (pos 0) (pos 0) (pos 59999)) (plan6 (pos 60000))
    ≡ accepted6
unfolding law
first_row_with_01 = refl
