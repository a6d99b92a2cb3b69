-- From the answer on a case to the verdict, over plain lists.
use Rattle.std.specs.Prelude.{◌≡◌, Bool, true, false, ◌&&◌, List, [], ◌∷◌, ◌++◌, ℕ, ◌+◌, ◌*◌, ◌≤◌, eqb, ℤ, pos, get_or, take, drop, Ok, Err}
use Rattle.std.proofs.Math.Path.{refl, ap, sym}
use Rattle.std.proofs.Common.{◌∙◌, append_assoc, take_at}
use native.Mathlib.Omega.{arith}
use borrow.Author.Tests.{eqb-true}
use Rattle.std.proofs.Math.IntN.{nat_abs}
use Rattle.std.proofs.Math.ListN.{length}
use Rattle.std.proofs.lemmas.Bool.{false≢true}
use Rattle.numbers.specs.law.Told.{Told, gives, refuses, overlay}
use Rattle.numbers.specs.law.Question.{first_no, told, Answer, no_at, found}
use Rattle.numbers.specs.inside.QuestionLaws.{first_no_append, first_yes, second_yes, answer_yes, told_same}
use Rattle.numbers.specs.inside.ReadingBounds.{count_within, read_no}
use Rattle.numbers.specs.law.Reading.{Ending, all, no, read_of, end_told, read_told}
use Rattle.case.specs.law.Layout.{number_at, steps_of}
use Rattle.case.specs.inside.FieldLaws.{and_second}
use Rattle.case.specs.law.Judged.{case_questions, judged_case}
use Rattle.case.specs.declared.records.Laying.{Laying}
use Rattle.case.specs.law.LayoutOf.{LayoutOf, LayingOf}
use Rattle.plan.specs.law.Compared.{same}
use Rattle.plan.specs.inside.Preconditions.{AcceptedCase, PlanLaid}
use Rattle.plan.specs.inside.CaseSizes.{list_yes}
use Rattle.plan.specs.law.PlanLayout.{step_at, step_width}
use Rattle.plan.specs.law.PlanHead.{head_kept, head_question, head_questions, head_judged, HeadLaid}
use Rattle.plan.specs.law.Totals.{totals_of}
use Rattle.plan.specs.law.Judged.{plan_step, plan_questions, questions, verdict_told, judge_of, Verdict}
use Rattle.plan.specs.law.JudgedBytes.{read_answer, plan_number, on_plan_bytes, refused_or, reached_if, bytes_judged}
use Rattle.numbers.specs.law.Items.{over}

and_rest : (a b c : Bool) → (a && b) ≡ true → c ≡ (a && (b && c))
and_rest true true c e = refl
and_rest true false c e = absurd (false≢true e)
and_rest false b c e = absurd (false≢true e)

and_none : (a b c : Bool) → (a && b) ≡ false → false ≡ (a && (b && c))
and_none true true c e = absurd (false≢true (sym e))
and_none true false c e = refl
and_none false b c e = refl

-- the answer that was told is the first no of the case's questions
pub case_answer : (case : List ℤ) (a : Answer) → told a ≡ judged_case case → first_no (case_questions case) ≡ a
unfolding judged_case
case_answer case a e = sym (told_same a (first_no (case_questions case)) e)

-- a yes to the case, and its layout
pub case_laid : {case : List ℤ} {l : Laying} → LayingOf case l → l.answer ≡ Ok tt → (AcceptedCase case) × (LayoutOf case l.layout)
case_laid {case} {l} d y =
    let k : AcceptedCase case = record { yes = case_answer case l.answer d.told_is ∙ y } in
    (k, d.passed (list_yes k))

module _ (case plan : List ℤ) where
  -- ---- 20

  pub head_length : {steps width : ℕ} → steps ≡ steps_of case → width ≡ step_width case → 2 + steps * width ≡ step_at case (steps_of case)
  unfolding step_at
  head_length s w = rw (s, w)

  -- the first two numbers, which are asked before the length
  module _ {r : Bool} (e : r ≡ (same (number_at plan 0) (pos 1) && same (number_at plan 1) (pos (steps_of case)))) where
    pub head_yes : r ≡ true → eqb (length plan) (step_at case (steps_of case)) ≡ head_kept case plan
    unfolding head_kept
    head_yes h = and_rest _ _ (eqb (length plan) (step_at case (steps_of case))) (sym e ∙ h)

    pub head_no : r ≡ false → r ≡ head_kept case plan
    unfolding head_kept
    head_no h = h ∙ and_none _ _ (eqb (length plan) (step_at case (steps_of case))) (sym e ∙ h)

  pub plan_laid : head_kept case plan ≡ true → PlanLaid case plan
  unfolding head_kept
  plan_laid h = record {
    long = eqb-true _ _ (and_second (same (number_at plan 1) (pos (steps_of case))) _ (and_second (same (number_at plan 0) (pos 1)) _ h));
  }

  pub head_refused : head_kept case plan ≡ false → Err (no_at 20 0 0) ≡ found (first_no (plan_questions case plan)) (totals_of case plan)
  unfolding plan_questions
  head_refused h = rw h

  pub head_passed : {r : Verdict} → head_kept case plan ≡ true → r ≡ found (first_no (over (plan_step case plan) 0 (steps_of case))) (totals_of case plan)
      → r ≡ found (first_no (plan_questions case plan)) (totals_of case plan)
  unfolding plan_questions
  head_passed h e = rw h e

  -- ---- the case and 20

  pub head_answer : (a : Answer) → told a ≡ head_judged case plan → first_no (head_questions case plan) ≡ a
  unfolding head_judged
  head_answer a e = sym (told_same a (first_no (head_questions case plan)) e)

  module _ (y : first_no (head_questions case plan) ≡ Ok tt) where
    pub head_case : AcceptedCase case
    unfolding head_questions
    head_case = record { yes = first_yes (case_questions case) (head_question case plan ∷ []) y }

    pub head_keeps : head_kept case plan ≡ true
    unfolding head_questions
    head_keeps = answer_yes (head_kept case plan) 20 0 0 (Ok tt) (second_yes (case_questions case) (head_question case plan ∷ []) y)

  -- a yes to both, with the layout of the case and the length of the plan
  pub head_laid : {l : Laying} → HeadLaid case plan l → l.answer ≡ Ok tt → (AcceptedCase case) × (LayoutOf case l.layout) × (PlanLaid case plan)
  head_laid {l} d y =
      let h = head_answer l.answer d.told_is ∙ y in
      (head_case h, d.laid.passed (list_yes (head_case h)), plan_laid (head_keeps h))

  -- after them the steps are asked
  pub head_before : questions case plan ≡ head_questions case plan ++ over (plan_step case plan) 0 (steps_of case)
  unfolding questions plan_questions head_questions
  head_before = sym (append_assoc (case_questions case) (head_question case plan ∷ []) (over (plan_step case plan) 0 (steps_of case)))

  -- ---- the verdict on two lists

  pub judge_yes : first_no (case_questions case) ≡ Ok tt → {r : Verdict} → r ≡ found (first_no (plan_questions case plan)) (totals_of case plan)
      → verdict_told r ≡ judge_of case plan
  unfolding judge_of questions
  judge_yes y e = ap verdict_told e ∙ rw (first_no_append, y)

  pub judge_no : {n s p : ℕ} → first_no (head_questions case plan) ≡ Err (no_at n s p) → refuses n s p ≡ judge_of case plan
  unfolding judge_of
  judge_no e = rw (head_before, first_no_append, e)

-- ---- what is told of a reading tells how it ended

module _ (bytes : List ℕ) (room : ℕ) where
  pub record ReadAll (count : ℕ) : Type 0 where
    pub ended : (read_of bytes room).ended ≡ all
    pub counted : count ≡ length (read_of bytes room).stored
    pub within : count ≤ room

  pub read_all : {count : ℕ} → gives (pos count ∷ []) ≡ read_told (read_of bytes room) → ReadAll count
  unfolding read_told
  read_all {count} e = go (read_of bytes room).ended refl e
    where
      go : (d : Ending) → (read_of bytes room).ended ≡ d → gives (pos count ∷ []) ≡ end_told d (length (read_of bytes room).stored) → ReadAll count
      go all h k = record { ended = h; counted = ap (λ (t : Told). nat_abs (get_or t.values 0 (pos 0))) k; within = count_within bytes room count e }
      go (no n p) h k = let v = ap (λ (t : Told). length t.values) k in let f : ⊥ = omega arith in absurd f

  -- the numbers that were read are the front of the list
  pub read_front : {count : ℕ} (old list : List ℤ) → ReadAll count → list ≡ overlay (read_of bytes room).stored old
      → take count list ≡ (read_of bytes room).stored
  read_front {count} old list r e = rw e (take_at (read_of bytes room).stored (drop (length (read_of bytes room).stored) old) count (sym r.counted))

-- ---- the verdict on two byte strings: what is told, and the plan's list, from where the case list is known, and from where the case is accepted

unfoldable pub plan_bytes_told : List ℤ → List ℕ → ℕ → Told
plan_bytes_told case plan_bytes room = refused_or (on_plan_bytes (read_answer (read_of plan_bytes room).ended)) (judge_of case (read_of plan_bytes room).stored)

unfoldable pub case_list_told : List ℤ → List ℕ → ℕ → Told
case_list_told case plan_bytes room = refused_or (first_no (case_questions case)) (plan_bytes_told case plan_bytes room)

unfoldable pub plan_list_after : List ℤ → List ℕ → List ℤ → List ℤ
plan_list_after case plan_bytes list = reached_if (first_no (case_questions case)) (overlay (read_of plan_bytes (length list)).stored list) list

module _ (case : List ℤ) (plan_bytes : List ℕ) (room : ℕ) where
  pub plan_read_lem : {count : ℕ} (list : List ℤ) {r : Verdict} → first_no (case_questions case) ≡ Ok tt → ReadAll plan_bytes room count
      → take count list ≡ (read_of plan_bytes room).stored
      → r ≡ found (first_no (plan_questions case (take count list))) (totals_of case (take count list))
      → verdict_told r ≡ plan_bytes_told case plan_bytes room
  unfolding plan_bytes_told
  plan_read_lem {count} list y a e h = judge_yes case (take count list) y h ∙ rw (e, a.ended)

  pub plan_unread : {n p m : ℕ} → (read_of plan_bytes room).ended ≡ no n p → m ≡ plan_number n → refuses m 0 p ≡ plan_bytes_told case plan_bytes room
  unfolding plan_bytes_told
  plan_unread e d = rw (d, e)

module _ (case : List ℤ) (plan_bytes : List ℕ) (list : List ℤ) where
  pub case_passed : {t : Told} → first_no (case_questions case) ≡ Ok tt → t ≡ plan_bytes_told case plan_bytes (length list)
      → t ≡ case_list_told case plan_bytes (length list)
  unfolding case_list_told
  case_passed y e = rw y e

  pub list_reached : {new : List ℤ} → first_no (case_questions case) ≡ Ok tt → new ≡ overlay (read_of plan_bytes (length list)).stored list
      → new ≡ plan_list_after case plan_bytes list
  unfolding plan_list_after
  list_reached y e = rw y e

  pub case_stopped : {n s p : ℕ} → first_no (case_questions case) ≡ Err (no_at n s p)
      → (refuses n s p ≡ case_list_told case plan_bytes (length list)) × (list ≡ plan_list_after case plan_bytes list)
  unfolding case_list_told plan_list_after
  case_stopped e = (rw e, rw e)

module _ (case_bytes plan_bytes : List ℕ) (case_list plan_list : List ℤ) where
  -- the case bytes were read to the end, and `front` is what they hold
  pub case_read_lem : {front : List ℤ} {t : Told} → (read_of case_bytes (length case_list)).ended ≡ all → front ≡ (read_of case_bytes (length case_list)).stored
      → t ≡ case_list_told front plan_bytes (length plan_list) → t ≡ (bytes_judged case_bytes plan_bytes case_list plan_list).told
  unfolding bytes_judged case_list_told plan_bytes_told
  case_read_lem a e h = h ∙ rw (e, a)

  pub list_of : {front new : List ℤ} → (read_of case_bytes (length case_list)).ended ≡ all → front ≡ (read_of case_bytes (length case_list)).stored
      → new ≡ plan_list_after front plan_bytes plan_list → new ≡ (bytes_judged case_bytes plan_bytes case_list plan_list).plan_list
  unfolding bytes_judged plan_list_after
  list_of a e h = h ∙ rw (e, a)

  -- they were not, and the plan's list is not reached
  pub case_unread : {n p : ℕ} → (read_of case_bytes (length case_list)).ended ≡ no n p
      → (refuses n 0 p ≡ (bytes_judged case_bytes plan_bytes case_list plan_list).told)
      × (plan_list ≡ (bytes_judged case_bytes plan_bytes case_list plan_list).plan_list)
  unfolding bytes_judged
  case_unread e = (rw e, rw e)

  -- what is told of that reading is told of the call
  pub case_unread_told : {n s p : ℕ} → refuses n s p ≡ read_told (read_of case_bytes (length case_list))
      → refuses n s p ≡ (bytes_judged case_bytes plan_bytes case_list plan_list).told
  unfolding read_told
  case_unread_told e =
      let d = read_no case_bytes (length case_list) e in
      let r = read_of case_bytes (length case_list) in
      e ∙ ap (λ (x : Ending). end_told x (length r.stored)) d ∙ (case_unread d).0

  pub case_list_lem : {new : List ℤ} → new ≡ overlay (read_of case_bytes (length case_list)).stored case_list
      → new ≡ (bytes_judged case_bytes plan_bytes case_list plan_list).case_list
  unfolding bytes_judged
  case_list_lem e = e

-- ---- rules: 20, past it the steps, and past the case the plan's bytes

pub ruleset head_told = (head_length, head_no)

pub ruleset plan_judged = (plan_laid, head_refused, head_passed)

pub ruleset case_told = (case_answer, case_passed, list_reached)
