-- 24 to 29 as facts of numbers, both ways. Kinds: 0 valve, 1 regulator, 2 pipe, 3 shortcut, 4 regulating, 5 compressor, 6 combined.
-- Assumes nothing.
use Rattle.std.specs.Prelude.{◌≡◌, refl, Bool, true, false, cond, not, ◌&&◌, ◌||◌, List, ◌≢◌, ℕ, ◌-◌}
use Rattle.std.specs.Prelude.{◌<◌, ◌≤◌, eqb, leb, ℤ, pos, negsuc, nat_abs, ◌+ℤ◌, ◌-ℤ◌, ◌*ℤ◌, ◌≤ℤ◌}
use Rattle.std.proofs.lemmas.Bool.{false≢true, lt-leb}
use Rattle.std.specs.Bool.{beq}
use Rattle.std.proofs.Common.{arith, leb-true, leb-false, ne_eqb}
use Rattle.std.specs.Int.Signed.{le_z}
use Rattle.numbers.specs.inside.SignedParts.{ints}
use Rattle.numbers.specs.law.Sets.{member_of, count_of}
use Rattle.case.specs.declared.records.Arc.{Arc}
use Rattle.case.specs.declared.records.Artificial.{Artificial}
use Rattle.case.specs.law.StationArcs.{every}
use Rattle.case.specs.inside.CountLaws.{every_at}
use Rattle.case.specs.inside.FieldLaws.{and_first, and_second}
use Rattle.case.specs.law.Layout.{mass_tolerance, pressure_tolerance}
use Rattle.case.specs.law.Records.{node_of, arc_of, pipe_of, artificial_of}
use Rattle.case.specs.claims.Says.{Says, Between}
use Rattle.case.specs.inside.SaysLaws.{means, both, pick, choose, always, when, leb_says, eqb_says, le_says, within_says, same_says, zero_says, subset_says}
use Rattle.plan.specs.declared.rows.ArcRow.{ArcRow}
use Rattle.plan.specs.declared.setting.Way.{Way}
use Rattle.plan.specs.declared.setting.Way.TheVariants.{Forward, Backward}
use Rattle.plan.specs.declared.setting.Mode.{Mode}
use Rattle.plan.specs.declared.setting.Mode.TheVariants.{Open, Regulating, Compressing}
use Rattle.plan.specs.declared.setting.Setting.{Setting}
use Rattle.plan.specs.declared.setting.Setting.TheVariants.{Unknown, Off, Active}
use Rattle.plan.specs.inside.SettingLaws.{compressing_kept}
use Rattle.plan.specs.law.Compared.{within, is_zero}
use Rattle.plan.specs.law.PlanRecords.{pressure_in, arc_row}
use Rattle.plan.specs.law.Setting.{directed, combined_of, valve_of, active_of, setting_of, setting_in, in_end, out_end, station_offset}
use Rattle.plan.specs.law.ArcFlows.{most_backward, flows_kept, machines_within, setting_allowed, arc_numbers_kept, no_flow_against, flow_allowed}
use Rattle.plan.specs.law.Machines.{machine_flow, machine_gain}
use Rattle.plan.specs.law.ArcPressures.{reach_kept, compression_kept, mode_pressures, setting_pressures, pressures_kept}
use Rattle.plan.specs.law.ArcMachines.{flow_along, machines_carry, setting_machines, machines_used}
use Rattle.plan.specs.law.Pipes.{duration, change, pipe_imbalance, pipe_residual, pipe_mass_kept, pressure_balance, pipe_pressures_kept}

-- "Setting: valve 0 shut, 1 open; kinds 3 to 5: 0 off, 1 forward, 2 backward; combined: 0 off, 1 and 2 regulating forward and backward, 3 and 4 compressing
-- forward and backward; else 0": a kind's last setting
abbrev pub last_setting : ℕ → ℕ
last_setting kind = cond (eqb kind 0) 1 (cond (leb kind 2) 0 (cond (leb kind 5) 2 4))

-- 24: "Are flows 0..qmax (pipe -qmax..qmax), unused numbers 0 (regulator b; machines of kinds 0 to 4), setting known and, on a one-way arc, not backward, and
-- machines within the arc's set?" Settings 2 and 4 are backward; kinds 0 to 2 have neither.
pub record Rule24 (c : Arc) (x : Artificial) (r : ArcRow) : Type 0 where
  pub a : c.kind ≢ 2 → Between (pos 0) r.a c.qmax
  pub b : c.kind ≢ 2 → c.kind ≢ 1 → Between (pos 0) r.b c.qmax
  pub pipe : c.kind ≡ 2 → Between (pos 0 -ℤ c.qmax) r.a c.qmax × Between (pos 0 -ℤ c.qmax) r.b c.qmax
  pub regulator : c.kind ≡ 1 → r.b ≡ pos 0
  pub unused : c.kind ≤ 4 → r.machines ≡ pos 0
  pub known : Between (pos 0) r.setting (pos (last_setting c.kind))
  pub oneway : x.bothways ≡ 0 → (r.setting ≢ pos 2) × (r.setting ≢ pos 4)
  pub machines : 5 ≤ c.kind → (pos 0 ≤ℤ r.machines) × ((m : ℕ) → member_of r.machines m ≡ true → member_of x.machines m ≡ true)

-- the test of a setting and its facts agree: computed for every kind and every number up to 4; no kind has a setting past 4
agrees : Bool → ℕ → ℕ → Bool
agrees ways kind n = beq (setting_allowed ways (setting_of kind (pos n))) (leb n (last_setting kind) && ((not (eqb n 2) || ways) && (not (eqb n 4) || ways)))

agree : (ways : Bool) → every 7 (λ k. every 5 (agrees ways k) && leb (last_setting k) 4) ≡ true
unfolding agrees setting_of active_of valve_of directed combined_of
agree true = refl
agree false = refl

cond_same : {A : Type 0} (b : Bool) (x : A) → cond b x x ≡ x
cond_same true x = refl
cond_same false x = refl

past : (kind n : ℕ) → 4 < n → setting_of kind (pos n) ≡ Unknown
unfolding setting_of active_of valve_of directed combined_of
past kind n h =
    let l : 2 < n = omega arith in
    simp (no n 0 (omega arith), no n 1 (omega arith), no n 2 l, lt-leb n 2 l, no (n - 2) 1 (omega arith), no (n - 2) 2 (omega arith), cond_same)
  where
    no : (k m : ℕ) → m < k → eqb k m ≡ false
    no k m l = ne_eqb k m (λ e. omega arith)

all_agree : (ways : Bool) (kind n : ℕ) → kind ≤ 6 → agrees ways kind n ≡ true
unfolding agrees
all_agree ways kind n h = go (leb n 4) refl
  where
    at : (every 5 (agrees ways kind) && leb (last_setting kind) 4) ≡ true
    at = every_at 7 (λ k. every 5 (agrees ways k) && leb (last_setting k) 4) (agree ways) kind (omega arith)

    go : (b : Bool) → leb n 4 ≡ b → agrees ways kind n ≡ true
    go true e = every_at 5 (agrees ways kind) (and_first _ _ at) n (omega (arith, leb-true n 4 e))
    go false e =
        let l = leb-true (last_setting kind) 4 (and_second (every 5 (agrees ways kind)) _ at) in
        rw (past kind n (leb-false n 4 e), lt-leb n (last_setting kind) (omega (arith, leb-false n 4 e)))

like : (a b : Bool) {B : Type 0} → beq a b ≡ true → Says b B → Says a B
like true true e s = s
like true false e s = absurd (false≢true e)
like false true e s = absurd (false≢true e)
like false false e s = s

setting_says : (kind ways : ℕ) (z : ℤ) → kind ≤ 6
    → Says (setting_allowed (leb 1 ways) (setting_of kind z)) (Between (pos 0) z (pos (last_setting kind)) × (ways ≡ 0 → (z ≢ pos 2) × (z ≢ pos 4)))
unfolding agrees setting_of
setting_says kind ways (negsuc n) h = record { fact = λ e. absurd (false≢true e); passed = λ f. absurd f.0.least.le }
setting_says kind ways (pos n) h =
    like _ _ (all_agree (leb 1 ways) kind n h)
    (means (both (leb_says n (last_setting kind)) (both (when (eqb_says n 2) (leb_says 1 ways)) (when (eqb_says n 4) (leb_says 1 ways))))
    (λ t. (omega ints, λ o. (λ q. omega (arith, t.1.0 (omega ints)), λ q. omega (arith, t.1.1 (omega ints)))))
    (λ f. (omega ints, (λ q. some (λ o. (f.1 o).0 (omega ints)), λ q. some (λ o. (f.1 o).1 (omega ints))))))
  where
    some : ways ≢ 0 → 1 ≤ ways
    some h = omega arith

flows_says : (c : Arc) (r : ArcRow) (low : ℤ) → Says (within low r.a c.qmax && within low r.b (most_backward c))
    (Between low r.a c.qmax × ((c.kind ≡ 1 → Between low r.b (pos 0)) × (c.kind ≢ 1 → Between low r.b c.qmax)))
flows_says c r low = both (within_says _ _ _) (pick (within low r.b) (eqb_says c.kind 1) (within_says _ _ _) (within_says _ _ _))

pub rule24_says : (c : Arc) (x : Artificial) (r : ArcRow) → c.kind ≤ 6 → Says (arc_numbers_kept c x r) (Rule24 c x r)
unfolding arc_numbers_kept flows_kept machines_within
rule24_says c x r k =
    let flows : ℤ → Bool = λ low. within low r.a c.qmax && within low r.b (most_backward c) in
    means (both (pick flows (eqb_says c.kind 2) (flows_says c r (pos 0 -ℤ c.qmax)) (flows_says c r (pos 0)))
    (both (setting_says c.kind x.bothways r.setting k)
    (choose (leb_says c.kind 4) (zero_says r.machines) (both (le_says (pos 0) r.machines) (subset_says r.machines x.machines)))))
    (λ t. let (w, (s, m)) = t in
    record {
      a = λ n. (w.1 n).0;
      b = λ n. (w.1 n).1.1;
      pipe = λ h. ((w.0 h).0, (w.0 h).1.1 (λ o. omega arith));
      regulator = λ o. omega (ints, (w.1 (λ h. omega arith)).1.0 o);
      unused = m.0;
      known = s.0;
      oneway = s.1;
      machines = λ h. m.1 (λ l. omega arith);
    })
    (λ f. (
      (λ h. ((f.pipe h).0, (λ o. absurd (omega arith), λ n. (f.pipe h).1)), λ n. (f.a n, (λ o. omega (ints, f.regulator o), f.b n))),
      ((f.known, f.oneway), (f.unused, λ n. f.machines (omega arith))),
    ))

-- by the setting: what is asked of an arc that is off, and of one that is active; nothing is asked where the number stands for no setting
by_setting : (F : Setting → Bool) (s : Setting) {A : Type 0} {B : Way → Mode → Type 0} → F Unknown ≡ true → Says (F Off) A
    → ((way : Way) (mode : Mode) → Says (F (Active way mode)) (B way mode))
    → Says (F s) ((s ≡ Off → A) × ((way : Way) (mode : Mode) → s ≡ Active way mode → B way mode))
by_setting F s {A} {B} u o a = record {
  fact = λ e. (λ q. o.fact (rw q at e), λ way mode q. (a way mode).fact (rw q at e));
  passed = λ f. go s f.0 f.1;
}
  where
    go : (t : Setting) → (t ≡ Off → A) → ((way : Way) (mode : Mode) → t ≡ Active way mode → B way mode) → F t ≡ true
    go Unknown f g = u
    go Off f g = o.passed (f refl)
    go (Active way mode) f g = (a way mode).passed (g way mode refl)

-- the flow against the setting
abbrev pub flow_against : Way → ArcRow → ℤ
flow_against Forward r = r.b
flow_against Backward r = r.a

-- 25: "Is there no flow on a shut or off arc, and none against an artificial arc's setting?" A regulator and a pipe are never shut or off.
pub record Rule25 (c : Arc) (r : ArcRow) : Type 0 where
  pub off : c.kind ≢ 1 → c.kind ≢ 2 → setting_of c.kind r.setting ≡ Off → (r.a ≡ pos 0) × (r.b ≡ pos 0)
  pub against : 3 ≤ c.kind → (way : Way) (mode : Mode) → setting_of c.kind r.setting ≡ Active way mode → flow_against way r ≡ pos 0

against_says : {b : Bool} {B : Type 0} → Says b B → (r : ArcRow) (way : Way) (mode : Mode)
    → Says (no_flow_against b (Active way mode) r) (B → flow_against way r ≡ pos 0)
against_says s r Forward mode = when s (zero_says r.b)
against_says s r Backward mode = when s (zero_says r.a)

pub rule25_says : (c : Arc) (r : ArcRow) → Says (flow_allowed c r) (Rule25 c r)
unfolding flow_allowed
rule25_says c r =
    means (choose (both (leb_says 1 c.kind) (leb_says c.kind 2)) always
    (by_setting (λ s. no_flow_against (leb 3 c.kind) s r) (setting_of c.kind r.setting) refl (both (zero_says r.a) (zero_says r.b))
    (against_says (leb_says 3 c.kind) r)))
    (λ t. record { off = λ n m. (t.1 (λ h. omega arith)).0; against = λ k way mode q. (t.1 (λ h. omega arith)).1 way mode q k })
    (λ f. (λ h. tt, λ n. (f.off (λ k. n (omega arith)) (λ k. n (omega arith)), λ way mode q k. f.against k way mode q)))

-- 26: "Pressures: open valve or active shortcut equal; regulator always from ≥ to; regulating in ≥ out; compressing in ≤ out, out ≤ out bound, and
-- 1,000 × out ≤ p0 of the in end × (1,000 + the sum of (R - 1,000) over its machines)?" An active arc has its in end at u and its out end at w; an
-- out bound of 0 "stands for acthigh of the out end in that step" (document 02, P8), whatever that node's slack and demand; in place of p0
-- "the product is taken with the in end's pressure in the same step" (document 02, P1).
pub record Compression (case rows : List ℤ) (i e u w : ℕ) : Type 0 where
  pub raises : (pressure_in rows u) ≤ℤ (pressure_in rows w)
  pub bound : (artificial_of case e).outbound ≢ pos 0 → (pressure_in rows w) ≤ℤ (artificial_of case e).outbound
  pub empty : (artificial_of case e).outbound ≡ pos 0 → (pressure_in rows w) ≤ℤ (node_of case w i).acthigh
  pub reach : (pos 1000 *ℤ pressure_in rows w)
      ≤ℤ (pressure_in rows u *ℤ (pos 1000 +ℤ machine_gain case (station_offset case e) (arc_row case rows e).machines))

abbrev pub PressuresBy : List ℤ → List ℤ → ℕ → ℕ → Mode → ℕ → ℕ → Type 0
PressuresBy case rows i e Open u w = pressure_in rows u ≡ pressure_in rows w
PressuresBy case rows i e Regulating u w = (pressure_in rows w) ≤ℤ (pressure_in rows u)
PressuresBy case rows i e Compressing u w = Compression case rows i e u w

pub record Rule26 (case rows : List ℤ) (i e : ℕ) : Type 0 where
  pub regulator : (arc_of case e).kind ≡ 1 → (pressure_in rows (arc_of case e).to) ≤ℤ (pressure_in rows (arc_of case e).from)
  pub active : (arc_of case e).kind ≢ 1 → (way : Way) (mode : Mode) → setting_in case rows e ≡ Active way mode
      → PressuresBy case rows i e mode (in_end way (arc_of case e)) (out_end way (arc_of case e))

mode_says : (case rows : List ℤ) (i e : ℕ) (mode : Mode) (u w : ℕ) → Says (mode_pressures case rows i e mode u w) (PressuresBy case rows i e mode u w)
unfolding compression_kept reach_kept
mode_says case rows i e Open u w = same_says _ _
mode_says case rows i e Regulating u w = le_says _ _
mode_says case rows i e Compressing u w =
    means (both (le_says _ _) (both (pick (le_z (pressure_in rows w)) (zero_says (artificial_of case e).outbound) (le_says _ _) (le_says _ _)) (le_says _ _)))
    (λ t. record { raises = t.0; bound = t.1.0.1; empty = t.1.0.0; reach = t.1.1 })
    (λ f. (f.raises, ((f.empty, f.bound), f.reach)))

pub rule26_says : (case rows : List ℤ) (i e : ℕ) → Says (pressures_kept case rows i e) (Rule26 case rows i e)
unfolding pressures_kept
rule26_says case rows i e =
    means (choose (eqb_says (arc_of case e).kind 1) (le_says _ _) (by_setting (setting_pressures case rows i e) (setting_in case rows e) refl always
    (λ way mode. mode_says case rows i e mode (in_end way (arc_of case e)) (out_end way (arc_of case e)))))
    (λ t. record { regulator = t.0; active = λ n. (t.1 n).1 })
    (λ f. (f.regulator, λ n. (λ q. tt, f.active n)))

-- 26 of an arc that compresses: all that it asks, and what a user may lean on in an accepted plan
pub rule26_compressing : (case rows : List ℤ) (i e : ℕ) (way : Way) → setting_in case rows e ≡ Active way Compressing
    → Says (pressures_kept case rows i e) (Compression case rows i e (in_end way (arc_of case e)) (out_end way (arc_of case e)))
rule26_compressing case rows i e way s =
    rw (compressing_kept case rows i e way s) (mode_says case rows i e Compressing (in_end way (arc_of case e)) (out_end way (arc_of case e)))

-- 27: "Not compressing: machines 0? Compressing: at most "most machines", and flow ≤ the sum of their Q?"
pub record Rule27 (case rows : List ℤ) (e : ℕ) : Type 0 where
  pub idle : ((way : Way) → setting_in case rows e ≢ Active way Compressing) → (arc_row case rows e).machines ≡ pos 0
  pub compressing : (way : Way) → setting_in case rows e ≡ Active way Compressing → (count_of (arc_row case rows e).machines ≤ (artificial_of case e).most)
      × ((flow_along way (arc_row case rows e)) ≤ℤ (machine_flow case (station_offset case e) (arc_row case rows e).machines))

pub rule27_says : (case rows : List ℤ) (e : ℕ) → Says (machines_used case rows e) (Rule27 case rows e)
unfolding machines_used machines_carry
rule27_says case rows e = go (setting_in case rows e) refl
  where
    idle : ((way : Way) → setting_in case rows e ≢ Active way Compressing) → Says (is_zero (arc_row case rows e).machines) (Rule27 case rows e)
    idle n = means (zero_says _) (λ z. record { idle = λ m. z; compressing = λ way q. absurd (n way q) }) (λ f. f.idle n)

    go : (s : Setting) → setting_in case rows e ≡ s → Says (setting_machines case rows e s) (Rule27 case rows e)
    go Unknown p = idle (λ way q. let z : ◌≡◌ {A = ℕ} 0 1 = cc in omega arith)
    go Off p = idle (λ way q. let z : ◌≡◌ {A = ℕ} 0 1 = cc in omega arith)
    go (Active x Open) p = idle (λ way q. let z : ◌≡◌ {A = ℕ} 0 1 = cc in omega arith)
    go (Active x Regulating) p = idle (λ way q. let z : ◌≡◌ {A = ℕ} 0 1 = cc in omega arith)
    go (Active x Compressing) p =
        means (both (leb_says _ _) (le_says _ _))
        (λ t. record { idle = λ n. absurd (n x p); compressing = λ way q. let z : x ≡ way = cc in rw z at t })
        (λ f. f.compressing x p)

-- 28: "Pipe: |dt × (a - b) - c × (change of p at from + change at to)| ≤ E?" `old v` is the pressure of node v before the step.
abbrev pub Rule28 : List ℤ → (ℕ → ℤ) → List ℤ → ℕ → ℕ → Type 0
Rule28 case old rows i e = (arc_of case e).kind ≡ 2
    → (pos (nat_abs (duration case i *ℤ ((arc_row case rows e).a -ℤ (arc_row case rows e).b)
    -ℤ (pipe_of case e).c *ℤ (change old rows (arc_of case e).from +ℤ change old rows (arc_of case e).to)))) ≤ℤ (mass_tolerance case)

pub rule28_says : (case : List ℤ) (old : ℕ → ℤ) (rows : List ℤ) (i e : ℕ) → Says (pipe_mass_kept case old rows i e) (Rule28 case old rows i e)
unfolding pipe_mass_kept pipe_residual pipe_imbalance
rule28_says case old rows i e = when (eqb_says (arc_of case e).kind 2) (le_says _ _)

-- 29: "Pipe, end pressures: |1,000,000 × (to - from) + f × a + g × b + h × (from + to)| ≤ 1,000,000 × H?"
abbrev pub Rule29 : List ℤ → List ℤ → ℕ → Type 0
Rule29 case rows e = (arc_of case e).kind ≡ 2
    → (pos (nat_abs (pos 1000000 *ℤ (pressure_in rows (arc_of case e).to -ℤ pressure_in rows (arc_of case e).from)
    +ℤ (pipe_of case e).f *ℤ (arc_row case rows e).a +ℤ (pipe_of case e).g *ℤ (arc_row case rows e).b
    +ℤ (pipe_of case e).h *ℤ (pressure_in rows (arc_of case e).from +ℤ pressure_in rows (arc_of case e).to))))
    ≤ℤ (pos 1000000 *ℤ pressure_tolerance case)

pub rule29_says : (case rows : List ℤ) (e : ℕ) → Says (pipe_pressures_kept case rows e) (Rule29 case rows e)
unfolding pipe_pressures_kept pressure_balance
rule29_says case rows e = when (eqb_says (arc_of case e).kind 2) (le_says _ _)
