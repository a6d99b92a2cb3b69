-- On the way to demand 3: 40 and 41 pass a set of nodes and times in their order, and the ledger of an accepted plan gives its figures.
use Rattle.std.specs.Prelude.{◌≡◌, ◌&&◌, List, ℤ, pos, Ok}
use Rattle.std.proofs.Common.{ap, ◌∙◌}
use Rattle.std.proofs.Math.Path.{ap₂}
use Rattle.std.proofs.Math.Bool.{true}
use Rattle.std.specs.Int.Signed.{le_z}
use Rattle.numbers.specs.inside.SignedParts.{size, ints}
use Rattle.numbers.specs.law.Question.{first_no, or_else, Answer, found}
use Rattle.numbers.specs.inside.QuestionLaws.{none_no}
use Rattle.case.specs.inside.Places.{nodes_in_set}
use Rattle.case.specs.law.Layout.{steps_of}
use Rattle.case.specs.inside.FieldLaws.{and_first, and_second}
use Rattle.plan.specs.declared.totals.Totals.{Totals}
use Rattle.plan.specs.law.Judged.{verdict_told, judge_of}
use Rattle.plan.specs.law.Ledger.{names_nodes, times_ordered, region_questions, ledger_questions, figures_for, ledger_is}
use Rattle.plan.specs.inside.Preconditions.{AcceptedCase}
use Rattle.plan.specs.inside.CaseSizes.{counted}
use Rattle.plan.specs.claims.Acceptance.{sound}
use Rattle.plan.specs.inside.LedgerVerdict.{judged_yes, ledger_asks}
use Rattle.plan.specs.inside.RegionSet.{nodes_pass}
use Rattle.plan.specs.law.Vouched.{RegionOf}

-- the times that 41 lets pass
pub record Times (case : List ℤ) (s t : ℤ) : Type 0 where
  pub first : le_z (pos 0) s ≡ true
  pub order : le_z s t ≡ true
  pub last : le_z t (pos (steps_of case)) ≡ true

pub times_of : (case : List ℤ) (s t : ℤ) → times_ordered case s t ≡ true → Times case s t
unfolding times_ordered
times_of case s t h =
    let l = le_z t (pos (steps_of case)) in
    let k = and_second (le_z (pos 0) s) (le_z s t && l) h in
    record { first = and_first _ _ h; order = and_first _ _ k; last = and_second (le_z s t) l k }

module _ (case plan : List ℤ) (set s t : ℤ) (totals : Totals) (accepted : judge_of case plan ≡ verdict_told (Ok totals))
    (nodes : names_nodes case set ≡ true) (times : times_ordered case s t ≡ true) where
  all_yes : first_no (ledger_questions case plan set s t) ≡ Ok tt
  unfolding region_questions
  all_yes =
      ledger_asks case plan set s t
      ∙ ap₂ or_else (judged_yes case plan totals accepted) (none_no (region_questions case set s t) (nodes, (times, tt)))

  pub region_given : ledger_is case plan set s t ≡ Ok (figures_for case plan set s t)
  region_given = ap (λ (x : Answer). found x (figures_for case plan set s t)) all_yes

-- ---- the same where the hypotheses are plain

module _ (case plan : List ℤ) (set s t : ℤ) (totals : Totals) (accepted : judge_of case plan ≡ verdict_told (Ok totals))
    (region : RegionOf case set s t) where
  pub region_nodes : names_nodes case set ≡ true
  region_nodes =
      let c : AcceptedCase case = record { yes = (sound case plan totals accepted).case_yes } in
      nodes_pass case set (nodes_in_set case (counted c)) (omega (ints, region.a_set, size set)) region.only_nodes

  pub region_times : times_ordered case s t ≡ true
  unfolding times_ordered
  region_times =
      let a : le_z (pos 0) s ≡ true = omega (ints, region.from_0, size s) in
      let b : le_z s t ≡ true = omega (ints, region.in_order, size s, size t) in
      let d : le_z t (pos (steps_of case)) ≡ true = omega (ints, region.to_k, size t) in
      rw (a, b, d)
