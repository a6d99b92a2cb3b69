-- A plan is accepted exactly where its case and every rule from 20 to 33 hold as facts of numbers, of every item in every step.
-- Assumes nothing.
use Rattle.std.specs.Prelude.{◌≡◌, List, ◌↔◌, ℕ, ◌<◌, ℤ, Ok}
use Rattle.case.specs.law.Layout.{nodes_of, arcs_of, stations_of, steps_of}
use Rattle.case.specs.law.Records.{node_of, arc_of, artificial_of, station_of}
use Rattle.case.specs.inside.AcceptedCase.{at_most, below}
use Rattle.case.specs.claims.CaseRules.{CaseRules}
use Rattle.case.specs.claims.Acceptance.{accepted_rules, rules_accepted}
use Rattle.plan.specs.declared.totals.Totals.{Totals}
use Rattle.plan.specs.law.PlanLayout.{step_rows}
use Rattle.plan.specs.law.PlanRecords.{node_row, arc_row, direction_in}
use Rattle.plan.specs.law.BeforeStep.{pressure_at}
use Rattle.plan.specs.law.Totals.{totals_of}
use Rattle.plan.specs.law.Judged.{verdict_told, judge_of}
use Rattle.plan.specs.claims.Acceptance.{PlanRules, sound, complete}
use Rattle.plan.specs.claims.NodeFacts.{Rule20, Rule21, Rule22, Rule23, rule20_says, rule21_says, rule22_says, rule23_says}
use Rattle.plan.specs.claims.ArcFacts.{Rule24, Rule25, Rule26, Rule27, Rule28, Rule29, rule24_says, rule25_says, rule26_says, rule27_says}
use Rattle.plan.specs.claims.ArcFacts.{rule28_says, rule29_says}
use Rattle.plan.specs.claims.StationFacts.{Rule30, Rule31, Rule32, Rule33, rule30_says, rule31_says, rule32_says, rule33_says}

-- Steps go by index from 0: index i is document 01's step i + 1.
pub record PlanFacts (case plan : List ℤ) : Type 0 where
  pub case_rules : CaseRules case
  pub rule20 : Rule20 case plan
  pub rule21 : (i v : ℕ) → i < steps_of case → v < nodes_of case → Rule21 (node_of case v i) (node_row (step_rows case plan i) v)
  pub rule22 : (i v : ℕ) → i < steps_of case → v < nodes_of case → Rule22 (node_of case v i) (node_row (step_rows case plan i) v)
  pub rule23 : (i v : ℕ) → i < steps_of case → v < nodes_of case → Rule23 (node_of case v i) (node_row (step_rows case plan i) v)
  pub rule24 : (i e : ℕ) → i < steps_of case → e < arcs_of case → Rule24 (arc_of case e) (artificial_of case e) (arc_row case (step_rows case plan i) e)
  pub rule25 : (i e : ℕ) → i < steps_of case → e < arcs_of case → Rule25 (arc_of case e) (arc_row case (step_rows case plan i) e)
  pub rule26 : (i e : ℕ) → i < steps_of case → e < arcs_of case → Rule26 case (step_rows case plan i) i e
  pub rule27 : (i e : ℕ) → i < steps_of case → e < arcs_of case → Rule27 case (step_rows case plan i) e
  pub rule28 : (i e : ℕ) → i < steps_of case → e < arcs_of case → Rule28 case (pressure_at case plan i) (step_rows case plan i) i e
  pub rule29 : (i e : ℕ) → i < steps_of case → e < arcs_of case → Rule29 case (step_rows case plan i) e
  pub rule30 : (i s : ℕ) → i < steps_of case → s < stations_of case → Rule30 case (step_rows case plan i) s
  pub rule31 : (i s : ℕ) → i < steps_of case → s < stations_of case → Rule31 case (step_rows case plan i) s
  pub rule32 : (i s : ℕ) → i < steps_of case → s < stations_of case → Rule32 case (step_rows case plan i) s
  pub rule33 : (i v : ℕ) → i < steps_of case → v < nodes_of case → Rule33 case (step_rows case plan i) i v

module _ (case plan : List ℤ) where
  -- the direction that has passed 30 is one of the station's, which 32 leans on
  chosen : (i s : ℕ) → Rule30 case (step_rows case plan i) s → direction_in case (step_rows case plan i) s < (station_of case s).directions
  chosen i s f = below f.direction

  facts_of : PlanRules case plan → PlanFacts case plan
  facts_of r =
      let ok = accepted_rules case r.case_yes in
      record {
        case_rules = ok;
        rule20 = (rule20_says case plan).fact r.rule20;
        rule21 = λ i v p q. (rule21_says _ _ (at_most (ok.nodes v q).kind)).fact ((r.steps i p).nodes v q).rule21;
        rule22 = λ i v p q. (rule22_says _ _).fact ((r.steps i p).nodes v q).rule22;
        rule23 = λ i v p q. (rule23_says _ _).fact ((r.steps i p).nodes v q).rule23;
        rule24 = λ i e p q. (rule24_says _ _ _ (at_most (ok.arcs e q).kind)).fact ((r.steps i p).arcs e q).rule24;
        rule25 = λ i e p q. (rule25_says _ _).fact ((r.steps i p).arcs e q).rule25;
        rule26 = λ i e p q. (rule26_says case _ i e).fact ((r.steps i p).arcs e q).rule26;
        rule27 = λ i e p q. (rule27_says case _ e).fact ((r.steps i p).arcs e q).rule27;
        rule28 = λ i e p q. (rule28_says case _ _ i e).fact ((r.steps i p).arcs e q).rule28;
        rule29 = λ i e p q. (rule29_says case _ e).fact ((r.steps i p).arcs e q).rule29;
        rule30 = λ i s p q. (rule30_says case _ s ok q).fact ((r.steps i p).stations s q).rule30;
        rule31 = λ i s p q. (rule31_says case _ s).fact ((r.steps i p).stations s q).rule31;
        rule32 = λ i s p q.
            let c = (r.steps i p).stations s q in
            (rule32_says case _ s ok q (chosen i s ((rule30_says case _ s ok q).fact c.rule30))).fact c.rule32;
        rule33 = λ i v p q. (rule33_says case _ i v).fact ((r.steps i p).rule33 v q);
      }

  rules_of : PlanFacts case plan → PlanRules case plan
  rules_of f =
      let ok = f.case_rules in
      record {
        case_yes = rules_accepted case ok;
        rule20 = (rule20_says case plan).passed f.rule20;
        steps = λ i p. record {
          nodes = λ v q. record {
            rule21 = (rule21_says _ _ (at_most (ok.nodes v q).kind)).passed (f.rule21 i v p q);
            rule22 = (rule22_says _ _).passed (f.rule22 i v p q);
            rule23 = (rule23_says _ _).passed (f.rule23 i v p q);
          };
          arcs = λ e q. record {
            rule24 = (rule24_says _ _ _ (at_most (ok.arcs e q).kind)).passed (f.rule24 i e p q);
            rule25 = (rule25_says _ _).passed (f.rule25 i e p q);
            rule26 = (rule26_says case _ i e).passed (f.rule26 i e p q);
            rule27 = (rule27_says case _ e).passed (f.rule27 i e p q);
            rule28 = (rule28_says case _ _ i e).passed (f.rule28 i e p q);
            rule29 = (rule29_says case _ e).passed (f.rule29 i e p q);
          };
          stations = λ s q. record {
            rule30 = (rule30_says case _ s ok q).passed (f.rule30 i s p q);
            rule31 = (rule31_says case _ s).passed (f.rule31 i s p q);
            rule32 = (rule32_says case _ s ok q (chosen i s (f.rule30 i s p q))).passed (f.rule32 i s p q);
          };
          rule33 = λ v q. (rule33_says case _ i v).passed (f.rule33 i v p q);
        };
      }

  pub sound_facts : (t : Totals) → judge_of case plan ≡ verdict_told (Ok t) → PlanFacts case plan
  sound_facts t e = facts_of (sound case plan t e)

  pub complete_facts : PlanFacts case plan → judge_of case plan ≡ verdict_told (Ok (totals_of case plan))
  complete_facts f = complete case plan (rules_of f)

  -- both at once
  pub accepted_exactly : judge_of case plan ≡ verdict_told (Ok (totals_of case plan)) ↔ PlanFacts case plan
  accepted_exactly = (sound_facts (totals_of case plan), complete_facts)
