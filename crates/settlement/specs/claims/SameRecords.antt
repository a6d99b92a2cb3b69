-- "If both records are the same, the total is theirs and the last three counts are 0." Each row finds itself, and differs from itself by 0, which is agreed:
-- so none is cut or alone.
-- Assumes nothing.
use Rattle.std.specs.Prelude.{true, List, [], ◌∷◌, ◌≡◌, refl, ℕ, ◌<◌, ℤ, pos, ◌-ℤ◌, ◌≤ℤ◌, Ok}
use Rattle.std.proofs.Math.Path.{ap}
use Rattle.std.proofs.Common.{◌∙◌, arith}
use Rattle.numbers.specs.law.Told.{gives}
use Rattle.numbers.specs.inside.SignedParts.{ints, taken, size}
use Rattle.numbers.specs.inside.SumLaws.{count_none}
use Rattle.settlement.specs.declared.figures.Figures.{Figures}
use Rattle.settlement.specs.law.Records.{rows_of, grams_of}
use Rattle.settlement.specs.law.LookUp.{found}
use Rattle.settlement.specs.law.Settled.{agrees, opposite, cut_at, alone_at, settled_figures}
use Rattle.settlement.specs.law.Settling.{settlement_told, settle_of}
use Rattle.settlement.specs.inside.LookUpLaws.{row_found}
use Rattle.settlement.specs.inside.ToldLaws.{told_figures, told_meters}
use Rattle.settlement.specs.claims.SettleRules.{InGrams, MeterRules, sound, complete}
use Rattle.settlement.specs.claims.Counted.{sender_rows}
use Rattle.settlement.specs.claims.Totals.{all_grams, total_of_sender}

pub record OwnFigures (meter : List ℤ) (f : Figures) : Type 0 where
  pub total : f.total ≡ all_grams meter
  pub agreed : f.agreed ≡ rows_of meter
  pub cut : f.cut ≡ 0
  pub sender : f.sender ≡ 0
  pub receiver : f.receiver ≡ 0

agrees_itself : (agreed s : ℤ) → pos 0 ≤ℤ agreed → agrees agreed s s ≡ true
unfolding agrees
agrees_itself agreed s h = omega (ints, taken s s, size (s -ℤ s))

module _ (meter : List ℤ) (agreed : ℤ) (f : Figures) (e : settle_of meter meter agreed ≡ settlement_told (Ok f)) where
  finds_itself : (i : ℕ) → i < rows_of meter → opposite meter meter i ≡ found (grams_of meter i)
  finds_itself i h = row_found meter (told_meters meter meter agreed f e).of_sender i i h refl

  none_cut : f.cut ≡ 0
  unfolding settled_figures cut_at
  none_cut =
      let a = (sound meter meter agreed f e).within.least in
      ap (λ (g : Figures). g.cut) (told_figures meter meter agreed f e)
      ∙ count_none (rows_of meter) (cut_at meter meter agreed) (λ i h. rw (finds_itself i h, agrees_itself agreed (grams_of meter i) a))

  none_alone : (f.sender ≡ 0) × (f.receiver ≡ 0)
  unfolding settled_figures alone_at
  none_alone =
      let q = told_figures meter meter agreed f e in
      let n = count_none (rows_of meter) (alone_at meter meter) (λ i h. rw (finds_itself i h)) in
      (ap (λ (g : Figures). g.sender) q ∙ n, ap (λ (g : Figures). g.receiver) q ∙ n)

  pub same_records : OwnFigures meter f
  same_records = record {
    total = total_of_sender meter meter agreed f e none_alone.1 none_cut;
    agreed = omega (arith, sender_rows meter meter agreed f e, none_cut, none_alone);
    cut = none_cut;
    sender = none_alone.0;
    receiver = none_alone.1;
  }

-- A record that keeps its rules is settled with itself, whichever of the two it was recorded for.
pub itself_settled : (meter : List ℤ) (agreed : ℤ) → MeterRules meter → InGrams agreed
    → settle_of meter meter agreed ≡ gives (all_grams meter ∷ pos (rows_of meter) ∷ pos 0 ∷ pos 0 ∷ pos 0 ∷ [])
itself_settled meter agreed m g =
    let s = complete meter meter agreed (record { of_sender = m; of_receiver = m; within = g }) in
    let o = same_records meter agreed (settled_figures meter meter agreed) s in
    s ∙ rw (o.total, o.agreed, o.cut, o.sender, o.receiver)
