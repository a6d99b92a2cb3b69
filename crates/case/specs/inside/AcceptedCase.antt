-- The laws for the layer above. An accepted case has its facts (`rules`, by `claims/Acceptance.antt`) and its rows are there; some facts are said as the judge
-- of a plan uses them.
-- Assumes nothing.
use Rattle.std.specs.Prelude.{◌≡◌, true, List, ℕ, ◌+◌, ◌<◌, ◌≤◌, ℤ, pos, ◌-ℤ◌, length, Ok}
use Rattle.std.proofs.Common.{sym, ◌∙◌, arith, leb-true}
use Rattle.numbers.specs.law.Signed.{pos_part}
use Rattle.numbers.specs.inside.SignedParts.{ints, added, taken, size}
use Rattle.numbers.specs.inside.SignedBounds.{Bounded}
use Rattle.numbers.specs.law.Sets.{subset_of}
use Rattle.numbers.specs.law.Sums.{count}
use Rattle.numbers.specs.law.Question.{first_no, told, Answer}
use Rattle.numbers.specs.inside.QuestionLaws.{told_same}
use Rattle.case.specs.law.Layout.{nodes_of, arcs_of, stations_of, steps_of, node_width, demand_in, demand_at, arc_at}
use Rattle.case.specs.law.Records.{time_of, time_before, artificial_of, station_of}
use Rattle.case.specs.law.Field.{last_of}
use Rattle.case.specs.law.HeadFields.{head_fields}
use Rattle.case.specs.law.NodeFields.{node_fields, all_node_fields}
use Rattle.case.specs.law.ArcFields.{arc_fields, all_arc_fields}
use Rattle.case.specs.law.StationFields.{first_items}
use Rattle.case.specs.law.StationArcs.{belongs}
use Rattle.case.specs.law.OneStation.{in_station}
use Rattle.case.specs.law.Judged.{row_questions, list_questions, rule_questions, case_questions, judged_case}
use Rattle.case.specs.inside.FieldLaws.{first_yes, item_yes}
use Rattle.case.specs.inside.SetLaws.{station_end_of}
use Rattle.case.specs.inside.SaysLaws.{first_says, one_says}
use Rattle.case.specs.inside.Counts.{Counted, Sized}
use Rattle.case.specs.inside.CountsInRange.{list_counted, nodes_yes, arcs_yes}
use Rattle.case.specs.claims.Says.{Between}
use Rattle.case.specs.inside.CaseRows.{head_read, arc_read}
use Rattle.case.specs.inside.NodeRows.{node_read}
use Rattle.case.specs.claims.CaseRules.{CaseRules}
use Rattle.case.specs.claims.Acceptance.{accepted_rules}

abbrev pub Accepted : List ℤ → Type 0
Accepted case = first_no (case_questions case) ≡ Ok tt

-- by the promise of `judge_case`
module _ (case : List ℤ) where
  pub judged : {r : Answer} → told r ≡ judged_case case → r ≡ first_no (case_questions case)
  unfolding judged_case
  judged {r} e = told_same r (first_no (case_questions case)) e

  pub judged_yes : {r : Answer} → told r ≡ judged_case case → r ≡ Ok tt → Accepted case
  judged_yes e y = sym (judged e) ∙ y

-- ---- a range, said of a natural

-- a number from 0 to m is at most m in size
pub between_bounded : {z : ℤ} {m : ℕ} → Between (pos 0) z (pos m) → Bounded z m
between_bounded {z} r = record { bound = omega (ints, r.least, r.most, size z) }

pub at_most : {z : ℤ} {m n : ℕ} → Between (pos m) z (pos n) → pos_part z ≤ n
at_most {z} r = omega (ints, r.most, size z)

-- an index of one of n items
pub below : {z : ℤ} {n : ℕ} → Between (pos 0) z (last_of n) → pos_part z < n
below {z} {n} r = omega (ints, r.least, r.most, taken (pos n) (pos 1), size z)

module _ (case : List ℤ) (e : Accepted case) where
  pub rules : CaseRules case
  rules = accepted_rules case e

  -- 10 to 12
  pub list_yes : first_no (list_questions case) ≡ Ok tt
  unfolding case_questions
  list_yes = first_yes (list_questions case) (rule_questions case) e

  pub counted : Counted case
  counted = list_counted case list_yes

  -- the head is there
  pub head_there : 6 < length case
  unfolding list_questions
  head_there = ((head_read case).0 (first_yes (head_fields case) (row_questions case) list_yes)).0

  -- dt
  pub step_range : (i : ℕ) → i < steps_of case → Between (pos 1) (time_of case i -ℤ time_before case i) (pos 86400)
  step_range i p =
      let r = rules.times i p in
      let t = time_before case i in
      record {
        least = omega (ints, r.least, added t (pos 1), taken (time_of case i) t);
        most = omega (ints, r.most, added t (pos 86400), taken (time_of case i) t);
      }

  -- a node's row is there, up to the demand of the step with index i
  pub node_there : (v i : ℕ) → v < nodes_of case → i < steps_of case → demand_at case v i < length case
  unfolding all_node_fields node_width demand_in
  node_there v i p q = omega (arith, ((node_read case v).0 (item_yes (node_fields case) (nodes_of case) (nodes_yes case list_yes) v p)).0)

  -- an arc's last number is there, whatever the kind
  pub arc_there : (a : ℕ) → a < arcs_of case → arc_at case a + 10 < length case
  unfolding all_arc_fields
  arc_there a p = omega (arith, ((arc_read case a).0 (item_yes (arc_fields case) (arcs_of case) (arcs_yes case list_yes) a p)).0)

  -- 14
  pub in_one_station : (v : ℕ) → v < nodes_of case → count (stations_of case) (in_station case v) ≤ 1
  in_one_station v p =
      leb-true _ _ ((one_says (in_station case v) (stations_of case)).passed (λ s t q r x y.
      rules.rule14 v s t p q r (station_end_of case v s x) (station_end_of case v t y)))

  -- 15
  pub sized : Sized case
  sized = record { each = rules.rule15 }

  -- 17: the machine set of a station's arc names only the station's machines
  pub machines_own : (s a : ℕ) → s < stations_of case → a < arcs_of case → belongs case s a ≡ true
      → subset_of (artificial_of case a).machines (first_items (station_of case s).machines) ≡ true
  machines_own s a p q h = (first_says (artificial_of case a).machines (station_of case s).machines).passed (rules.rule17_arcs s a p q h).machines
