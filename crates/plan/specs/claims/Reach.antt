-- Compression from the pressure we have now (document 02, P1): "In 26 the product is taken with the in end's pressure in the same step." "A user who leans on
-- acceptance now leans on this rule."
-- Assumes nothing.
use Rattle.std.specs.Prelude.{◌≡◌, refl, Bool, cond, List, [], ◌∷◌, ℕ, zero, suc, ◌<◌, ℤ, pos, ◌+ℤ◌, ◌*ℤ◌, Ok}
use Rattle.std.proofs.Common.{◌∙◌}
use Rattle.std.specs.Int.Signed.{le_z}
use Rattle.numbers.specs.law.Told.{Told, gives, refuses}
use Rattle.numbers.specs.inside.SignedParts.{ints, pos_part_mul, neg_part_mul}
use Rattle.numbers.specs.inside.SetLaws.{bit_zero}
use Rattle.numbers.specs.inside.SumLaws.{sum_cong, sum_zero}
use Rattle.case.specs.law.Layout.{arcs_of, steps_of, machine_count}
use Rattle.case.specs.law.Records.{node_of, arc_of, artificial_of}
use Rattle.plan.specs.declared.totals.Totals.{Totals}
use Rattle.plan.specs.declared.setting.Way.{Way}
use Rattle.plan.specs.declared.setting.Way.TheVariants.{Forward, Backward}
use Rattle.plan.specs.declared.setting.Mode.TheVariants.{Compressing}
use Rattle.plan.specs.declared.setting.Setting.TheVariants.{Active}
use Rattle.plan.specs.law.Compared.{is_zero}
use Rattle.plan.specs.law.PlanLayout.{step_rows}
use Rattle.plan.specs.law.PlanRecords.{pressure_in, arc_row}
use Rattle.plan.specs.law.Setting.{setting_in, in_end, out_end, station_offset}
use Rattle.plan.specs.law.Machines.{gain_part, machine_gain}
use Rattle.plan.specs.law.ArcPressures.{ratio_of, reach_kept, compression_kept, pressures_kept}
use Rattle.plan.specs.law.Judged.{verdict_told, judge_of}
use Rattle.plan.specs.law.Ledger.{ledger_of}
use Rattle.plan.specs.inside.SettingLaws.{compressing_kept, not_backward, past_one}
use Rattle.plan.specs.inside.JudgedAlike.{IsActHigh, arc_alike, Alike26, judged_alike, ledger_alike}
use Rattle.plan.specs.inside.Computed.{law}
use Rattle.plan.specs.claims.Acceptance.{sound}
use Rattle.plan.specs.claims.ArcFacts.{Compression, rule26_compressing}
use Rattle.plan.specs.claims.JudgedUnder.{CompressionTest, tests_kept, Default, act_high, compression_by, judged_under, ledger_under}
use Rattle.plan.specs.claims.OutBound.{default_of01, OutBoundsGiven}
use Rattle.plan.specs.claims.TableT.{Row, judges, AllHold, RowHolds, drifted6, case6, raised, plan6, accepted6}
use Rattle.plan.specs.claims.FurtherRows.{case_b, raised_from, plan_b, accepted_b}

-- ---- what acceptance says of an arc that compresses

-- in every step of an accepted plan an arc that compresses keeps all four: `reach` has both pressures of that step
pub accepted_compression : (case plan : List ℤ) (t : Totals) → judge_of case plan ≡ verdict_told (Ok t)
    → (i e : ℕ) → i < steps_of case → e < arcs_of case → (way : Way) → setting_in case (step_rows case plan i) e ≡ Active way Compressing
    → Compression case (step_rows case plan i) i e (in_end way (arc_of case e)) (out_end way (arc_of case e))
accepted_compression case plan t a i e p l way s =
    (rule26_compressing case (step_rows case plan i) i e way s).fact (((sound case plan t a).steps i p).arcs e l).rule26

no_gain : (case : List ℤ) (offset : ℕ) → machine_gain case offset (pos 0) ≡ pos 0
unfolding machine_gain gain_part
no_gain case offset = sum_cong (machine_count case offset) _ (λ m. pos 0) (λ m p. rw (bit_zero m)) ∙ sum_zero (machine_count case offset)

-- with no machine on the ratio is 1,000, and the two pressures are equal
pub no_machine : (case rows : List ℤ) (i e u w : ℕ) → Compression case rows i e u w → (arc_row case rows e).machines ≡ pos 0
    → pressure_in rows u ≡ pressure_in rows w
no_machine case rows i e u w f z =
    let p = pressure_in rows u in
    let q = pressure_in rows w in
    let r = rw (z, no_gain case (station_offset case e)) at f.reach in
    omega (ints, f.raises, r, pos_part_mul (pos 1000) q, neg_part_mul (pos 1000) q, pos_part_mul p (pos 1000), neg_part_mul p (pos 1000))

-- nothing is raised from 0
pub from_zero : (case rows : List ℤ) (i e u w : ℕ) → Compression case rows i e u w → pressure_in rows u ≡ pos 0 → pressure_in rows w ≡ pos 0
from_zero case rows i e u w f z =
    let q = pressure_in rows w in
    let k = ratio_of case rows e in
    let r = rw z at f.reach in
    omega (ints, f.raises, z, r, pos_part_mul (pos 1000) q, neg_part_mul (pos 1000) q, pos_part_mul (pos 0) k, neg_part_mul (pos 0) k)

-- ---- p0 is not asked

abbrev pub kept_by : (p_in p_out outbound acthigh gain : ℤ) → Bool
kept_by p_in p_out outbound acthigh gain =
    tests_kept p_in p_out (cond (is_zero outbound) acthigh outbound) (le_z (pos 1000 *ℤ p_out) (p_in *ℤ (pos 1000 +ℤ gain)))

-- 26 of an arc that compresses goes by five numbers, none of which is p0: two pressures of the step, its out bound, acthigh of its out end, and the gain of its
-- machines
pub without_p0 : (case rows : List ℤ) (i e : ℕ) (way : Way) → setting_in case rows e ≡ Active way Compressing
    → let w = out_end way (arc_of case e) in
    pressures_kept case rows i e ≡ kept_by (pressure_in rows (in_end way (arc_of case e))) (pressure_in rows w)
    (artificial_of case e).outbound (node_of case w i).acthigh (machine_gain case (station_offset case e) (arc_row case rows e).machines)
unfolding compression_kept reach_kept
without_p0 case rows i e way k = compressing_kept case rows i e way k

-- ---- with p0 in the product

-- document 01: "1,000 × out ≤ p0 of the in end × (1,000 + the sum of (R - 1,000) over its machines)"
abbrev pub reach_from_p0 : List ℤ → CompressionTest
reach_from_p0 case rows i e u w = le_z (pos 1000 *ℤ pressure_in rows w) ((node_of case u i).p0 *ℤ ratio_of case rows e)

abbrev pub compression_from_p0 : Default → List ℤ → CompressionTest
compression_from_p0 default case = compression_by default (reach_from_p0 case) case

-- the verdict with it and what the ledger tells; an out bound of 0 stands for acthigh of the out end, as in the law
abbrev pub judged_from_p0 : List ℤ → List ℤ → Told
judged_from_p0 case = judged_under (compression_from_p0 (act_high case) case) case

abbrev pub ledger_from_p0 : List ℤ → List ℤ → ℤ → ℤ → ℤ → Told
ledger_from_p0 case = ledger_under (compression_from_p0 (act_high case) case) case

-- those of document 01, in which it stands for 200,000
abbrev pub judged_by01 : List ℤ → List ℤ → Told
judged_by01 case = judged_under (compression_from_p0 default_of01 case) case

abbrev pub ledger_by01 : List ℤ → List ℤ → ℤ → ℤ → ℤ → Told
ledger_by01 case = ledger_under (compression_from_p0 default_of01 case) case

-- no in end has drifted: every arc that compresses does so from p0 of its in end
abbrev pub Undrifted : List ℤ → List ℤ → Type 0
Undrifted case plan = (i e : ℕ) → i < steps_of case → e < arcs_of case → (way : Way)
    → setting_in case (step_rows case plan i) e ≡ Active way Compressing
    → let u = in_end way (arc_of case e) in pressure_in (step_rows case plan i) u ≡ (node_of case u i).p0

undrifted_26 : (default : Default) (case plan : List ℤ) → Undrifted case plan
    → ((i e : ℕ) → e < arcs_of case → IsActHigh default case i e) → Alike26 (compression_from_p0 default case) case plan
unfolding reach_kept
undrifted_26 default case plan h a i e p l =
    arc_alike default (reach_from_p0 case) case (step_rows case plan i) i e (a i e l) (λ way k. rw (h i e p l way k))

-- then, on every case, the verdict and the ledger are as with p0
module _ (case plan : List ℤ) (h : Undrifted case plan) where
  alike_26 : Alike26 (compression_from_p0 (act_high case) case) case plan
  alike_26 = undrifted_26 (act_high case) case plan h (λ i e l k z way. refl)

  pub judged_undrifted : judged_from_p0 case plan ≡ judge_of case plan
  judged_undrifted = judged_alike (compression_from_p0 (act_high case) case) case plan alike_26

  pub ledger_undrifted : (set s t : ℤ) → ledger_from_p0 case plan set s t ≡ ledger_of case plan set s t
  ledger_undrifted = ledger_alike (compression_from_p0 (act_high case) case) case plan alike_26

-- and where the out bounds are given too they are document 01's own
module _ (case plan : List ℤ) (h : Undrifted case plan) (given : OutBoundsGiven case) where
  alike_01 : Alike26 (compression_from_p0 default_of01 case) case plan
  alike_01 = undrifted_26 default_of01 case plan h (λ i e l k z way. absurd (given e l k z))

  pub judged_as_01 : judged_by01 case plan ≡ judge_of case plan
  judged_as_01 = judged_alike (compression_from_p0 default_of01 case) case plan alike_01

  pub ledger_as_01 : (set s t : ℤ) → ledger_by01 case plan set s t ≡ ledger_of case plan set s t
  ledger_as_01 = ledger_alike (compression_from_p0 default_of01 case) case plan alike_01

-- ---- rows: the case of table T's row 6, whose in end stands at 40,000, and a compressor that runs backward

-- node 2, the in end, falls from 50,000 to 49,999 in step 2
abbrev pub falling_b : List ℤ
falling_b = raised_from (pos 50000) (pos 300) (pos 49999) (pos 301)

unfoldable pub reach_rows : List Row
reach_rows =
    -- p0 30,000: 60,000 is what the machines reach from 40,000
    judges (drifted6 (pos 30000)) (plan6 (pos 60000)) accepted6
    -- p0 50,000: 60,001 is not
    ∷ judges (drifted6 (pos 50000)) (plan6 (pos 60001)) (refuses 26 1 0)
    -- backward, where the machine, of 1,200, raises 50,000 to 60,000: p0 49,999, and p0 60,000 with 49,999 in step 2
    ∷ judges (case_b (pos 49999)) plan_b accepted_b
    ∷ judges (case_b (pos 60000)) falling_b (refuses 26 2 1)
    -- the first machine alone is on, of 1,200: 48,000 is what it reaches, though the arc may have the second too
    ∷ judges case6 (raised (pos 1) (pos 48000) (pos 0) (pos 0)) accepted6
    ∷ judges case6 (raised (pos 1) (pos 48001) (pos 0) (pos 0)) (refuses 26 1 0)
    -- no machine is on: in and out at 40,000, and out 1 above
    ∷ judges (drifted6 (pos 30000)) (raised (pos 0) (pos 40000) (pos 0) (pos 0)) accepted6
    ∷ judges (drifted6 (pos 50000)) (raised (pos 0) (pos 40001) (pos 0) (pos 0)) (refuses 26 1 0)
    ∷ []

pub reaches : AllHold reach_rows
unfolding AllHold RowHolds reach_rows law
reaches = (refl, (refl, (refl, (refl, (refl, (refl, (refl, (refl, tt))))))))

-- row 6 of the table meets the two hypotheses above, whatever its out pressure: its in end stands at p0, and its out bound is given
pub row_6_undrifted : (out : ℤ) → Undrifted case6 (plan6 out)
unfolding law
row_6_undrifted out zero zero p l Forward k = refl
row_6_undrifted out zero zero p l Backward k = absurd (not_backward k)
row_6_undrifted out zero (suc e) p l way k = absurd (past_one e l)
row_6_undrifted out (suc i) e p l way k = absurd (past_one i p)

pub row_6_given : OutBoundsGiven case6
unfolding law
row_6_given zero l k z = absurd (omega ints)
row_6_given (suc e) l k z = absurd (past_one e l)

-- with p0 the first four and the last two come out the other way, and row 6 of the table as it is
pub rows_from_p0 : (judged_from_p0 (drifted6 (pos 30000)) (plan6 (pos 60000)) ≡ refuses 26 1 0)
    × (judged_from_p0 (drifted6 (pos 50000)) (plan6 (pos 60001)) ≡ accepted6)
    × (judged_from_p0 (case_b (pos 49999)) plan_b ≡ refuses 26 1 1)
    × (judged_from_p0 (case_b (pos 60000)) falling_b ≡ gives (pos 615 ∷ pos 30 ∷ pos 2207 ∷ pos 120 ∷ pos 239991 ∷ pos 359991 ∷ []))
    × (judged_from_p0 (drifted6 (pos 30000)) (raised (pos 0) (pos 40000) (pos 0) (pos 0)) ≡ refuses 26 1 0)
    × (judged_from_p0 (drifted6 (pos 50000)) (raised (pos 0) (pos 40001) (pos 0) (pos 0)) ≡ accepted6)
    × (judged_from_p0 case6 (plan6 (pos 60000)) ≡ accepted6)
    × (judged_from_p0 case6 (plan6 (pos 60001)) ≡ refuses 26 1 0)
unfolding law
rows_from_p0 = (refl, refl, refl, refl, refl, refl, refl, refl)
