-- What the verdict on case and plan says of the ledger's answer.
use Rattle.std.specs.Prelude.{◌≡◌, true, List, ℕ, ℤ, Ok, Err}
use Rattle.std.proofs.Math.Path.{refl, ap}
use Rattle.std.proofs.Common.{sym, ◌∙◌}
use native.Mathlib.Omega.{arith}
use Rattle.std.proofs.Math.ListN.{length}
use Rattle.numbers.specs.law.Told.{Told}
use Rattle.numbers.specs.law.Question.{first_no, or_else, Answer, no_at, found}
use Rattle.numbers.specs.inside.QuestionLaws.{told_same, first_no_append, all_yes}
use Rattle.plan.specs.declared.totals.Totals.{Totals}
use Rattle.plan.specs.law.Totals.{totals_of}
use Rattle.plan.specs.law.Judged.{questions, verdict_told, judge_of}
use Rattle.plan.specs.law.Ledger.{names_nodes, times_ordered, region_questions, ledger_questions, figures_for, ledger_is, Ledger}

module _ (case plan : List ℤ) where
  -- an accepted verdict has six values and a refusal two, so that neither passes for the other
  pub judged_yes : (t : Totals) → judge_of case plan ≡ verdict_told (Ok t) → first_no (questions case plan) ≡ Ok tt
  unfolding judge_of
  judged_yes t e = go (first_no (questions case plan)) e
    where
      go : (a : Answer) → verdict_told (found a (totals_of case plan)) ≡ verdict_told (Ok t) → a ≡ Ok tt
      go (Ok _) e = refl
      go (Err n) e = let k = ap (λ (x : Told). length x.values) e in let f : ⊥ = omega arith in absurd f

  pub judged_no : (n s p : ℕ) → judge_of case plan ≡ verdict_told (Err (no_at n s p)) → first_no (questions case plan) ≡ Err (no_at n s p)
  unfolding judge_of
  judged_no n s p e = go (first_no (questions case plan)) e
    where
      go : (a : Answer) → verdict_told (found a (totals_of case plan)) ≡ verdict_told (Err (no_at n s p)) → a ≡ Err (no_at n s p)
      go (Ok _) e = let k = ap (λ (x : Told). length x.values) e in let f : ⊥ = omega arith in absurd f
      go (Err m) e = told_same (Err m) (Err (no_at n s p)) e

  -- "After all the above"
  pub ledger_asks : (set s t : ℤ) → first_no (ledger_questions case plan set s t)
      ≡ or_else (first_no (questions case plan)) (first_no (region_questions case set s t))
  unfolding ledger_questions
  ledger_asks set s t = first_no_append (questions case plan) (region_questions case set s t)

module _ (case plan : List ℤ) (set s t : ℤ) where
  -- a plan that is accepted leaves 40 and 41 to decide, and one that is refused decides
  pub ledger_after : (x : Totals) {r : Ledger} → judge_of case plan ≡ verdict_told (Ok x)
      → r ≡ found (first_no (region_questions case set s t)) (figures_for case plan set s t) → r ≡ ledger_is case plan set s t
  ledger_after x e h =
      h ∙ ap (λ (a : Answer). found a (figures_for case plan set s t))
      (sym (ledger_asks case plan set s t ∙ ap (λ (a : Answer). or_else a (first_no (region_questions case set s t))) (judged_yes case plan x e)))

  pub ledger_refused : (n i p : ℕ) → judge_of case plan ≡ verdict_told (Err (no_at n i p)) → Err (no_at n i p) ≡ ledger_is case plan set s t
  ledger_refused n i p e =
      ap (λ (a : Answer). found a (figures_for case plan set s t))
      (sym (ledger_asks case plan set s t ∙ ap (λ (a : Answer). or_else a (first_no (region_questions case set s t))) (judged_no case plan n i p e)))

  -- the set and the times, once 40 and 41 are answered yes
  pub nodes_kept : first_no (region_questions case set s t) ≡ Ok tt → names_nodes case set ≡ true
  unfolding region_questions
  nodes_kept y = (all_yes (region_questions case set s t) y).0

  pub times_kept : first_no (region_questions case set s t) ≡ Ok tt → times_ordered case s t ≡ true
  unfolding region_questions
  times_kept y = (all_yes (region_questions case set s t) y).1.0
