-- A case is accepted exactly if the facts of `CaseRules` hold: `sound` and `complete`.
-- Assumes nothing.
use Rattle.std.specs.Prelude.{◌≡◌, List, [], ◌↔◌, ℕ, ◌≤◌, ◌<◌, ℤ, length, Ok}
use Rattle.std.proofs.Common.{sym, le_antisymm, le_of_eq}
use Rattle.std.proofs.Math.Path.{ap}
use Rattle.numbers.specs.law.Told.{gives}
use Rattle.numbers.specs.law.Question.{first_no, told}
use Rattle.numbers.specs.inside.QuestionLaws.{told_same}
use Rattle.case.specs.law.Layout.{stations_of, case_end}
use Rattle.case.specs.law.Judged.{list_questions, rule_questions, case_questions, judged_case}
use Rattle.case.specs.inside.Exactly.{append_iff}
use Rattle.case.specs.inside.CaseRows.{StationFacts, ListFacts, list_read}
use Rattle.case.specs.law.StationNodes.{fence_node}
use Rattle.case.specs.inside.CaseRuled.{StationRuled, RuleFacts, rules_iff, fence_says}
use Rattle.case.specs.claims.CaseRules.{FenceNode, CaseRules}
use Rattle.case.specs.claims.Says.{Says}

module _ (case : List ℤ) where
  -- 10 to 12, then 13 to 17 of a case that passes them
  asked : first_no (case_questions case) ≡ Ok tt ↔ ((case_end case ≤ length case) × ListFacts case) × RuleFacts case
  unfolding case_questions
  asked = append_iff (list_questions case) (rule_questions case) (list_read case) (λ l. rules_iff case l.1)

  pub accepted_rules : first_no (case_questions case) ≡ Ok tt → CaseRules case
  accepted_rules y =
      let l = (asked.0 y).0.1 in
      let r = (asked.0 y).1 in
      record {
        head = l.0;
        times = l.1.0;
        nodes = λ v p. (l.1.1.0 v p).0;
        demands = λ v i p. (l.1.1.0 v p).1 i;
        arcs = λ e p. (l.1.1.1.0 e p).0;
        sevens = λ e p. (l.1.1.1.0 e p).1;
        stations = λ s p. (l.1.1.1.1.0 s p).0;
        directions = λ s f p. (l.1.1.1.1.0 s p).1.0 f;
        states = λ s z p. (l.1.1.1.1.0 s p).1.1.0 z;
        machines = λ s m p. (l.1.1.1.1.0 s p).1.1.1 m;
        ends = le_antisymm l.1.1.1.1.1 (asked.0 y).0.0;
        rule13 = r.0.0;
        rule14 = λ v s t p. r.0.1.0 v p s t;
        rule15 = r.0.1.1.0;
        rule16 = λ s f p. r.0.1.1.1 s p f;
        rule17_states = λ s z p. (r.1 s p).0 z;
        rule17_arcs = λ s e p. (r.1 s p).1 e;
      }

  pub rules_accepted : CaseRules case → first_no (case_questions case) ≡ Ok tt
  rules_accepted r = asked.1 ((le_of_eq (sym r.ends), list), ruled)
    where
      station : (s : ℕ) → s < stations_of case → StationFacts case s
      station s p = (r.stations s p, (λ f. r.directions s f p, (λ z. r.states s z p, λ m. r.machines s m p)))

      list : ListFacts case
      list = (r.head, (r.times, (λ v p. (r.nodes v p, λ i. r.demands v i p), (λ e p. (r.arcs e p, r.sevens e p), (station, le_of_eq r.ends)))))

      by17 : (s : ℕ) → s < stations_of case → StationRuled case s
      by17 s p = (λ z. r.rule17_states s z p, λ e. r.rule17_arcs s e p)

      ruled : RuleFacts case
      ruled = ((r.rule13, (λ v p s t. r.rule14 v s t p, (r.rule15, λ s p f. r.rule16 s f p))), by17)

  pub sound : judged_case case ≡ gives [] → CaseRules case
  unfolding judged_case
  sound e = accepted_rules (told_same (first_no (case_questions case)) (Ok tt) e)

  pub complete : CaseRules case → judged_case case ≡ gives []
  unfolding judged_case
  complete r = ap told (rules_accepted r)

  -- The fence nodes of an accepted case: the law's test, and the ends of arcs that document 01 speaks of.
  pub fence_nodes : CaseRules case → (s v : ℕ) → Says (fence_node case s v) (FenceNode case s v)
  fence_nodes r = fence_says case (asked.0 (rules_accepted r)).0.1
