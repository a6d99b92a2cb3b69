-- Figures that are told are those of the law, and then no question of 60 to 62 has a "no"; by the case of the answer.
-- Assumes nothing.
use Rattle.std.specs.Prelude.{true, List, ◌≡◌, refl, ℤ, length, Ok, Err}
use Rattle.std.proofs.Common.{sym, ap, arith}
use Rattle.numbers.specs.law.Told.{Told}
use Rattle.numbers.specs.law.Question.{first_no, found, Answer}
use Rattle.settlement.specs.declared.figures.Figures.{Figures}
use Rattle.settlement.specs.law.RecordRules.{in_grams, settle_questions}
use Rattle.settlement.specs.law.Settled.{settled_figures}
use Rattle.settlement.specs.law.Settling.{settlement_told, settle_of}
use Rattle.settlement.specs.inside.Merging.{Meters}
use Rattle.settlement.specs.inside.Asked.{asked_meters, asked_agreed}

-- two figures of which the same is told
pub figures_same : (f g : Figures) → settlement_told (Ok f) ≡ settlement_told (Ok g) → f ≡ g
figures_same f g e = let w = ap (λ (t : Told). t.values) e in parts (cc) (cc) (cc) (cc) (cc)
  where
    parts : f.total ≡ g.total → f.agreed ≡ g.agreed → f.cut ≡ g.cut → f.sender ≡ g.sender → f.receiver ≡ g.receiver → f ≡ g
    parts t a c s r i = record { total = t i; agreed = a i; cut = c i; sender = s i; receiver = r i }

answer_settled : (a : Answer) (f g : Figures) → settlement_told (found a g) ≡ settlement_told (Ok f) → (a ≡ Ok tt) × (f ≡ g)
answer_settled (Ok _) f g e = (refl, figures_same f g (sym e))
answer_settled (Err n) f g e = let w = ap (λ (t : Told). length t.values) e in let z : ⊥ = omega arith in absurd z

module _ (sender receiver : List ℤ) (agreed : ℤ) (f : Figures) (e : settle_of sender receiver agreed ≡ settlement_told (Ok f)) where
  told : (first_no (settle_questions sender receiver agreed) ≡ Ok tt) × (f ≡ settled_figures sender receiver agreed)
  unfolding settle_of
  told = answer_settled (first_no (settle_questions sender receiver agreed)) f (settled_figures sender receiver agreed) e

  pub told_yes : first_no (settle_questions sender receiver agreed) ≡ Ok tt
  told_yes = told.0

  pub told_figures : f ≡ settled_figures sender receiver agreed
  told_figures = told.1

  pub told_meters : Meters sender receiver
  told_meters = asked_meters sender receiver agreed told_yes

  pub told_agreed : in_grams agreed ≡ true
  told_agreed = asked_agreed sender receiver agreed told_yes
