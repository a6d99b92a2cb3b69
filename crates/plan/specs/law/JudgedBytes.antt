-- "One call judges two byte strings with two lent lists, in this order: the case bytes are read, the case is judged, the plan bytes are read, the plan is
-- judged; 1 to 3 on plan bytes become 5 (for 1), 6, 7. A list not reached is unchanged." The numbers that were read are judged, not a lent list's whole length.
-- Assumes nothing.
use Rattle.std.specs.Prelude.{cond, List, ℕ, eqb, ℤ, length, Ok, Err}
use Rattle.numbers.specs.law.Told.{Told, refuses, overlay}
use Rattle.numbers.specs.law.Question.{first_no, or_else, Answer, no_at}
use Rattle.numbers.specs.law.Reading.{Ending, all, no, read_of}
use Rattle.case.specs.law.Judged.{case_questions}
use Rattle.plan.specs.law.Judged.{judge_of}

-- what the call leaves: what is told, and the two lent lists
pub record BytesJudged : Type 0 where
  pub told : Told
  pub case_list : List ℤ
  pub plan_list : List ℤ

-- the answer of a reading
abbrev pub read_answer : Ending → Answer
read_answer all = Ok tt
read_answer (no number place) = Err (no_at number 0 place)

-- "1 to 3 on plan bytes become 5 (for 1), 6, 7"
abbrev pub plan_number : ℕ → ℕ
plan_number number = cond (eqb number 1) 5 (cond (eqb number 2) 6 7)

abbrev pub on_plan_bytes : Answer → Answer
on_plan_bytes (Ok _) = Ok tt
on_plan_bytes (Err n) = Err (no_at (plan_number n.number) n.step n.place)

-- a "no" ends the call, and a yes goes on to what is told next
abbrev pub refused_or : Answer → Told → Told
refused_or (Ok _) next = next
refused_or (Err n) next = refuses n.number n.step n.place

-- "A list not reached is unchanged."
abbrev pub reached_if : Answer → List ℤ → List ℤ → List ℤ
reached_if (Ok _) reached list = reached
reached_if (Err n) reached list = list

unfoldable pub bytes_judged : List ℕ → List ℕ → List ℤ → List ℤ → BytesJudged
bytes_judged case_bytes plan_bytes case_list plan_list =
    let case = (read_of case_bytes (length case_list)).stored in
    let case_read = read_answer (read_of case_bytes (length case_list)).ended in
    let case_judged = first_no (case_questions case) in
    let plan = (read_of plan_bytes (length plan_list)).stored in
    let plan_read = on_plan_bytes (read_answer (read_of plan_bytes (length plan_list)).ended) in
    record {
      told = refused_or case_read (refused_or case_judged (refused_or plan_read (judge_of case plan)));
      case_list = overlay case case_list;
      plan_list = reached_if (or_else case_read case_judged) (overlay plan plan_list) plan_list;
    }
