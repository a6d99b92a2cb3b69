-- The settled total lies between 0 and what both records have, and where no time is in the receiver's record only, not above what the sender's has. What
-- stands of a row lies between 0 and its own grams, and so do the sums of it.
-- Assumes nothing.
use Rattle.std.specs.Prelude.{Bool, cond, List, ◌≡◌, ℕ, zero, suc, ◌≤◌, ◌<◌, ℤ, ◌+ℤ◌, ◌≤ℤ◌, Ok}
use Rattle.std.proofs.Math.Bool.{true, false}
use Rattle.std.proofs.Math.Path.{refl, sym, ap}
use Rattle.std.proofs.Common.{ap₂, ◌∙◌, arith}
use Rattle.std.proofs.lemmas.Bool.{not-false}
use Rattle.std.proofs.Math.IntN.{pos, +ℤ_idr}
use Rattle.std.specs.Int.Signed.{le_z}
use Rattle.numbers.specs.law.Sums.{sum, only}
use Rattle.numbers.specs.inside.SignedParts.{ints, added, size}
use Rattle.numbers.specs.inside.SumLaws.{sum_cong, sum_zero, abs_sum_le, none_counted}
use Rattle.settlement.specs.declared.figures.Figures.{Figures}
use Rattle.settlement.specs.law.Records.{rows_of, time_of, grams_of}
use Rattle.settlement.specs.law.LookUp.{Found, found, missing, same_time, look_up_in, look_up}
use Rattle.settlement.specs.law.Settled.{agrees, settled_pair, standing, is_cut, opposite}
use Rattle.settlement.specs.law.Settled.{standing_at, cut_at, alone_at, alone_grams, settled_total, settled_figures}
use Rattle.settlement.specs.law.Settling.{settlement_told, settle_of}
use Rattle.settlement.specs.inside.ToldLaws.{told_figures}
use Rattle.settlement.specs.claims.SettleRules.{MeterRules, sound}

-- the sum of a record's masses
abbrev pub all_grams : List ℤ → ℤ
all_grams meter = sum (rows_of meter) (grams_of meter)

-- ---- parts of a mass, and of a sum

record Part (x y : ℤ) : Type 0 where
  least : pos 0 ≤ℤ y
  most : y ≤ℤ x

-- grams that are found are not below 0
abbrev NotBelow : Found → Type 0
NotBelow (found r) = pos 0 ≤ℤ r
NotBelow missing = Unit {0}

found_in : {meter : List ℤ} → MeterRules meter → (time : ℤ) (n : ℕ) → n ≤ rows_of meter → NotBelow (look_up_in meter time n)
unfolding look_up_in
found_in m time zero h = tt
found_in {meter} m time (suc n) h = go (same_time (time_of meter n) time) (found_in m time n (omega arith))
  where
    go : (b : Bool) → NotBelow (look_up_in meter time n) → NotBelow (cond b (found (grams_of meter n)) (look_up_in meter time n))
    go true k = (m.masses n h).least
    go false k = k

module _ (agreed s : ℤ) where
  standing_part : (x : Found) → pos 0 ≤ℤ s → NotBelow x → Part s (standing agreed s x)
  unfolding settled_pair
  standing_part (found r) h k = go (agrees agreed s r) (le_z s r) refl
    where
      go : (a b : Bool) → le_z s r ≡ b → Part s (cond a s (cond b s r))
      go true b e = omega ints
      go false true e = omega ints
      go false false e = omega ints
  standing_part missing h k = omega ints

  uncut_stands : (x : Found) → is_cut agreed s x ≡ false → standing agreed s x ≡ s
  unfolding settled_pair
  uncut_stands (found r) e = rw (not-false (agrees agreed s r) e)
  uncut_stands missing e = refl

only_part : (b : Bool) {x : ℤ} → pos 0 ≤ℤ x → Part x (only b x)
only_part true h = omega ints
only_part false h = omega ints

sum_part : (k : ℕ) (f g : ℕ → ℤ) → ((i : ℕ) → i < k → Part (g i) (f i)) → Part (sum k g) (sum k f)
unfolding sum
sum_part zero f g h = omega ints
sum_part (suc k) f g h =
    omega (ints, sum_part k f g (λ i l. h i (omega arith)), h k (omega arith), added (sum k f) (f k), added (sum k g) (g k))

-- at most 5,000 rows of at most 10^12
all_most : {meter : List ℤ} → MeterRules meter → all_grams meter ≤ℤ pos 5000000000000000
all_most {meter} m =
    let b = abs_sum_le (rows_of meter) 1000000000000 (grams_of meter) (λ i h. omega (ints, m.masses i h, size (grams_of meter i))) in
    omega (ints, b, m.few, size (all_grams meter))

-- ---- the total

module _ (sender receiver : List ℤ) (agreed : ℤ) (f : Figures) (e : settle_of sender receiver agreed ≡ settlement_told (Ok f)) where
  abbrev stands : ℤ
  stands = sum (rows_of sender) (standing_at sender receiver agreed)

  abbrev alone : ℤ
  alone = sum (rows_of receiver) (alone_grams receiver sender)

  record TotalParts : Type 0 where
    is : f.total ≡ stands +ℤ alone
    of_stands : Part (all_grams sender) stands
    of_alone : Part (all_grams receiver) alone

  parts : TotalParts
  unfolding settled_figures settled_total standing_at opposite look_up alone_grams
  parts =
      let r = sound sender receiver agreed f e in
      record {
        is = ap (λ (g : Figures). g.total) (told_figures sender receiver agreed f e);
        of_stands = sum_part (rows_of sender) (standing_at sender receiver agreed) (grams_of sender) (λ i h.
            standing_part agreed (grams_of sender i) (opposite sender receiver i) (r.of_sender.masses i h).least
            (found_in r.of_receiver (time_of sender i) (rows_of receiver) (omega arith)));
        of_alone = sum_part (rows_of receiver) (alone_grams receiver sender) (grams_of receiver) (λ j h.
            only_part (alone_at receiver sender j) (r.of_receiver.masses j h).least);
      }

  none_alone : f.receiver ≡ 0 → alone ≡ pos 0
  unfolding alone_grams settled_figures
  none_alone z =
      let n = sym (ap (λ (g : Figures). g.receiver) (told_figures sender receiver agreed f e)) ∙ z in
      sum_cong (rows_of receiver) _ (λ j. pos 0) (λ j h. rw (none_counted (rows_of receiver) (alone_at receiver sender) n j h)) ∙ sum_zero (rows_of receiver)

  none_cut : f.cut ≡ 0 → stands ≡ all_grams sender
  unfolding standing_at cut_at settled_figures
  none_cut z =
      let n = sym (ap (λ (g : Figures). g.cut) (told_figures sender receiver agreed f e)) ∙ z in
      sum_cong (rows_of sender) _ (grams_of sender) (λ i h.
      uncut_stands agreed (grams_of sender i) (opposite sender receiver i) (none_counted (rows_of sender) (cut_at sender receiver agreed) n i h))

  pub total_least : pos 0 ≤ℤ f.total
  total_least = omega (ints, parts, added stands alone)

  pub total_most : f.total ≤ℤ (all_grams sender +ℤ all_grams receiver)
  total_most = omega (ints, parts, added stands alone, added (all_grams sender) (all_grams receiver))

  pub total_room : f.total ≤ℤ pos 10000000000000000
  total_room =
      let r = sound sender receiver agreed f e in
      omega (ints, parts, added stands alone, all_most r.of_sender, all_most r.of_receiver)

  -- where no time is in the receiver's record only
  pub total_upto_sender : f.receiver ≡ 0 → f.total ≤ℤ all_grams sender
  total_upto_sender z = omega (ints, parts, added stands alone, none_alone z)

  -- and where no row is cut either
  pub total_of_sender : f.receiver ≡ 0 → f.cut ≡ 0 → f.total ≡ all_grams sender
  total_of_sender z c = parts.is ∙ ap₂ ◌+ℤ◌ (none_cut c) (none_alone z) ∙ +ℤ_idr (all_grams sender)
