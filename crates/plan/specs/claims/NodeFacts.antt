-- 20 to 23 as facts of numbers, both ways. A node's kind is 0 inner, 1 source, 2 sink.
-- Assumes nothing.
use Rattle.std.specs.Prelude.{◌≡◌, refl, Bool, true, false, List, ◌≢◌, ℕ, ◌+◌, ◌*◌, ◌≤◌, eqb, ℤ, pos, negsuc, ◌+ℤ◌, ◌-ℤ◌, length, ◌≤ℤ◌}
use Rattle.std.proofs.Common.{arith, eqb-true}
use Rattle.std.proofs.lemmas.Bool.{eqb-false}
use Rattle.numbers.specs.inside.SignedParts.{ints}
use Rattle.case.specs.declared.records.Node.{Node}
use Rattle.case.specs.law.Layout.{number_at, nodes_of, arcs_of, stations_of, steps_of}
use Rattle.case.specs.claims.Says.{Says, Between}
use Rattle.case.specs.inside.SaysLaws.{means, both, pick, unless, eqb_says, le_says, within_says, same_says, zero_says}
use Rattle.plan.specs.declared.rows.NodeRow.{NodeRow}
use Rattle.plan.specs.law.Compared.{within}
use Rattle.plan.specs.law.PlanLayout.{step_width, step_at}
use Rattle.plan.specs.law.PlanHead.{head_kept}
use Rattle.plan.specs.law.NodeRules.{slack_limit, slacks_kept, boundary_flow_kept, node_numbers_kept, demand_met, active_bounds_kept}

-- 20: "are the first two numbers 1 and k, and is the length 2 + k × (6N + 4A + 2S)?"
pub record Rule20 (case plan : List ℤ) : Type 0 where
  pub first : number_at plan 0 ≡ pos 1
  pub second : number_at plan 1 ≡ pos (steps_of case)
  pub long : length plan ≡ 2 + steps_of case * (6 * nodes_of case + 4 * arcs_of case + 2 * stations_of case)

pub rule20_says : (case plan : List ℤ) → Says (head_kept case plan) (Rule20 case plan)
unfolding head_kept step_at step_width
rule20_says case plan =
    means (both (same_says _ _) (both (same_says _ _) (eqb_says (length plan) (step_at case (steps_of case)))))
    (λ t. record { first = t.0; second = t.1.0; long = omega arith })
    (λ f. (f.first, (f.second, omega arith)))

-- 21: "Is p within low..high; d at or above 0 at a source, at or below 0 at a sink, size at most 10,000,000; s within 0..10,000,000; u+ within 0..actlow-low,
-- u- within 0..high-acthigh; all five 0 at an inner node?"
pub record Rule21 (n : Node) (r : NodeRow) : Type 0 where
  pub p : Between n.low r.p n.high
  pub source : n.kind ≡ 1 → Between (pos 0) r.d (pos 10000000)
  pub sink : n.kind ≡ 2 → Between (negsuc 9999999) r.d (pos 0)
  pub splus : n.kind ≢ 0 → Between (pos 0) r.splus (pos 10000000)
  pub sminus : n.kind ≢ 0 → Between (pos 0) r.sminus (pos 10000000)
  pub uplus : n.kind ≢ 0 → Between (pos 0) r.uplus (n.actlow -ℤ n.low)
  pub uminus : n.kind ≢ 0 → Between (pos 0) r.uminus (n.high -ℤ n.acthigh)
  pub inner : n.kind ≡ 0 → (r.d ≡ pos 0) × (r.splus ≡ pos 0) × (r.sminus ≡ pos 0) × (r.uplus ≡ pos 0) × (r.uminus ≡ pos 0)

flow_says : (kind : ℕ) (d : ℤ) → kind ≤ 2
    → Says (boundary_flow_kept kind d) ((kind ≡ 0 → d ≡ pos 0) × (kind ≡ 1 → Between (pos 0) d (pos 10000000))
    × (kind ≡ 2 → Between (negsuc 9999999) d (pos 0)))
unfolding boundary_flow_kept
flow_says kind d h = go (eqb kind 0) (eqb kind 1) refl refl
  where
    go : (a b : Bool) → eqb kind 0 ≡ a → eqb kind 1 ≡ b
        → Says (boundary_flow_kept kind d)
        ((kind ≡ 0 → d ≡ pos 0) × (kind ≡ 1 → Between (pos 0) d (pos 10000000)) × (kind ≡ 2 → Between (negsuc 9999999) d (pos 0)))
    go true b p q = rw (eqb-true kind 0 p) (means (zero_says d) (λ t. omega ints) (λ f. omega (ints, f.0 refl)))
    go false true p q = rw (eqb-true kind 1 q) (means (within_says (pos 0) d (pos 10000000)) (λ t. omega ints) (λ f. f.1 refl))
    go false false p q =
        let k : kind ≡ 2 = omega (arith, eqb-false kind 0 p, eqb-false kind 1 q) in
        rw k (means (within_says (negsuc 9999999) d (pos 0)) (λ t. omega ints) (λ f. f.2 refl))

slack_says : (kind : ℕ) (x limit : ℤ) → Says (within (pos 0) x (slack_limit kind limit)) ((kind ≡ 0 → x ≡ pos 0) × (kind ≢ 0 → Between (pos 0) x limit))
slack_says kind x limit =
    means (pick (within (pos 0) x) (eqb_says kind 0) (within_says (pos 0) x (pos 0)) (within_says (pos 0) x limit))
    (λ t. (λ k. omega (ints, t.0 k), t.1))
    (λ f. (λ k. omega (ints, f.0 k), f.1))

pub rule21_says : (n : Node) (r : NodeRow) → n.kind ≤ 2 → Says (node_numbers_kept n r) (Rule21 n r)
unfolding node_numbers_kept slacks_kept
rule21_says n r h =
    means (both (within_says n.low r.p n.high) (both (flow_says n.kind r.d h)
    (both (slack_says n.kind r.splus (pos 10000000)) (both (slack_says n.kind r.sminus (pos 10000000))
    (both (slack_says n.kind r.uplus (n.actlow -ℤ n.low)) (slack_says n.kind r.uminus (n.high -ℤ n.acthigh)))))))
    (λ t. search (t.1.0.0, t.1.1.0.0, t.1.1.1.0.0, t.1.1.1.1.0.0, t.1.1.1.1.1.0))
    (λ f. let z = f.inner in (
      f.p,
      (
        (λ k. (z k).0, f.source, f.sink),
        ((λ k. (z k).1, f.splus), ((λ k. (z k).2, f.sminus), ((λ k. (z k).3, f.uplus), (λ k. (z k).4, f.uminus)))),
      ),
    ))

-- 22: "Is d + s+ - s- = D? (boundary only)"
abbrev pub Rule22 : Node → NodeRow → Type 0
Rule22 n r = n.kind ≢ 0 → r.d +ℤ r.splus -ℤ r.sminus ≡ n.demand

pub rule22_says : (n : Node) (r : NodeRow) → Says (demand_met n r) (Rule22 n r)
unfolding demand_met
rule22_says n r = unless (eqb_says n.kind 0) (same_says _ _)

-- 23: "If D is not 0: p + u+ ≥ actlow and p - u- ≤ acthigh?"
abbrev pub Rule23 : Node → NodeRow → Type 0
Rule23 n r = n.demand ≢ pos 0 → (n.actlow ≤ℤ (r.p +ℤ r.uplus)) × ((r.p -ℤ r.uminus) ≤ℤ n.acthigh)

pub rule23_says : (n : Node) (r : NodeRow) → Says (active_bounds_kept n r) (Rule23 n r)
unfolding active_bounds_kept
rule23_says n r = unless (zero_says n.demand) (both (le_says _ _) (le_says _ _))
