-- What a setting tells of its arc.
use Rattle.std.specs.Prelude.{◌≡◌, refl, Bool, true, false, cond, List, ℕ, suc, ◌<◌, ◌≤◌, eqb, leb, ℤ, pos}
use Rattle.std.proofs.Common.{arith, leb-false, ne_eqb}
use Rattle.std.proofs.lemmas.Bool.{eqb-false}
use Rattle.std.specs.Int.Signed.{le_z}
use Rattle.numbers.specs.law.Signed.{pos_part}
use Rattle.case.specs.law.Records.{arc_of}
use Rattle.plan.specs.declared.setting.Way.{Way}
use Rattle.plan.specs.declared.setting.Way.TheVariants.{Forward, Backward}
use Rattle.plan.specs.declared.setting.Mode.TheVariants.{Open, Regulating, Compressing}
use Rattle.plan.specs.declared.setting.Setting.{Setting}
use Rattle.plan.specs.declared.setting.Setting.TheVariants.{Unknown, Off, Active}
use Rattle.plan.specs.law.Setting.{setting_of, active_of, valve_of, directed, setting_in, in_end, out_end}
use Rattle.plan.specs.law.ArcPressures.{compression_kept, pressures_kept}

-- only compressors and combined arcs compress
pub compressing_five : (kind : ℕ) (z : ℤ) (way : Way) → setting_of kind z ≡ Active way Compressing → 5 ≤ kind
unfolding setting_of active_of valve_of directed
compressing_five kind z way e =
    go (le_z (pos 0) z) (eqb (pos_part z) 0) (eqb kind 0) (leb kind 2) (eqb kind 3) (eqb kind 4) (eqb (pos_part z) 1) (eqb (pos_part z) 2) _ refl refl refl e
  where
    go : (a b v d s t f g : Bool) (X : Setting) → leb kind 2 ≡ d → eqb kind 3 ≡ s → eqb kind 4 ≡ t
        → cond a (cond b Off (cond v (cond f (Active Forward Open) Unknown) (cond d Unknown
        (cond s (cond f (Active Forward Open) (cond g (Active Backward Open) Unknown))
        (cond t (cond f (Active Forward Regulating) (cond g (Active Backward Regulating) Unknown)) X))))) Unknown ≡ Active way Compressing → 5 ≤ kind
    go false b v d s t f g X h k l e = let y : ◌≡◌ {A = ℕ} 0 1 = cc in omega arith
    go true true v d s t f g X h k l e = let y : ◌≡◌ {A = ℕ} 0 1 = cc in omega arith
    go true false true d s t true g X h k l e = let y : ◌≡◌ {A = ℕ} 0 1 = cc in omega arith
    go true false true d s t false g X h k l e = let y : ◌≡◌ {A = ℕ} 0 1 = cc in omega arith
    go true false false true s t f g X h k l e = let y : ◌≡◌ {A = ℕ} 0 1 = cc in omega arith
    go true false false false true t true g X h k l e = let y : ◌≡◌ {A = ℕ} 0 1 = cc in omega arith
    go true false false false true t false true X h k l e = let y : ◌≡◌ {A = ℕ} 0 1 = cc in omega arith
    go true false false false true t false false X h k l e = let y : ◌≡◌ {A = ℕ} 0 1 = cc in omega arith
    go true false false false false true true g X h k l e = let y : ◌≡◌ {A = ℕ} 0 1 = cc in omega arith
    go true false false false false true false true X h k l e = let y : ◌≡◌ {A = ℕ} 0 1 = cc in omega arith
    go true false false false false true false false X h k l e = let y : ◌≡◌ {A = ℕ} 0 1 = cc in omega arith
    go true false false false false false f g X h k l e = omega (arith, leb-false kind 2 h, eqb-false kind 3 k, eqb-false kind 4 l)

-- 26 of an arc that compresses is the test of such arcs
pub compressing_kept : (case rows : List ℤ) (i e : ℕ) (way : Way) → setting_in case rows e ≡ Active way Compressing → let c = arc_of case e in
    pressures_kept case rows i e ≡ compression_kept case rows i e (in_end way c) (out_end way c)
unfolding pressures_kept
compressing_kept case rows i e way k =
    let five = compressing_five _ _ way k in
    rw (ne_eqb (arc_of case e).kind 1 (λ o. omega (arith, five, o)), k)

-- ---- where there is one arc and one step, and the arc compresses forward

pub not_backward : Active Forward Compressing ≡ Active Backward Compressing → ⊥
not_backward p = let z : ◌≡◌ {A = ℕ} 0 1 = cc in omega arith

pub past_one : (n : ℕ) → suc n < 1 → ⊥
past_one n h = omega arith
