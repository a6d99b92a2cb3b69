-- It is one line, and it begins with `accepted` exactly where both files are within their limits and are read to their ends, and every rule holds.
-- Assumes nothing.
use Rattle.std.specs.Prelude.{◌≡◌, Bool, true, false, cond, List, [], ◌∷◌, ◌++◌, ℕ, eqb, ℤ, pos, length, replicate, get_or, take, Ok}
use Rattle.std.proofs.Math.Path.{refl, subst}
use Rattle.std.proofs.Common.{ap, sym, ◌∙◌, append_assoc, rules, arith, eqb-true}
use Rattle.std.proofs.Math.ListN.{length-replicate}
use Rattle.numbers.specs.law.Told.{Told}
use Rattle.plan.specs.law.Totals.{totals_of}
use Rattle.plan.specs.law.Judged.{verdict_told}
use Rattle.plan.specs.claims.BytesAccepted.{numbers_in, BytesAccepted, bytes_zero, accepted_bytes}
use Rattle.line.specs.law.Line.{accepted, refused, spaced, sentence_of, line_of}
use Rattle.line.specs.inside.LineLaws.{AllAbove, above_append, spaced_above}
use Rattle.line.specs.law.Files.{case_numbers, plan_numbers, within_limits, too_long, files_told, files_line}

-- ---- "prints one line"

-- characters from the space on, and the end of the line after them
pub record OneLine (line : List ℕ) : Type 0 where
  pub text : List ℕ
  pub whole : line ≡ text ++ (10 ∷ [])
  pub plain : AllAbove 31 text

one_sentence : (word : List ℕ) (list : List ℤ) → AllAbove 31 word → OneLine (sentence_of word list)
unfolding sentence_of
one_sentence word list a = record {
  text = word ++ spaced list;
  whole = sym (append_assoc word (spaced list) (10 ∷ []));
  plain = above_append 31 word (spaced list) a (spaced_above list);
}

pub told_one_line : (t : Told) → OneLine (line_of t)
told_one_line t = go (eqb t.number 0)
  where
    go : (b : Bool) → OneLine (cond b (sentence_of accepted t.values) (sentence_of refused (pos t.number ∷ t.values)))
    go true = one_sentence accepted t.values (search rules)
    go false = one_sentence refused (pos t.number ∷ t.values) (search rules)

pub one_line : (case plan : List ℕ) → OneLine (files_line case plan)
unfolding files_line
one_line case plan = go (within_limits case plan)
  where
    go : (w : Bool) → OneLine (cond w (line_of (files_told case plan)) too_long)
    go true = told_one_line (files_told case plan)
    go false = record { text = 116 ∷ 111 ∷ 111 ∷ 32 ∷ 108 ∷ 111 ∷ 110 ∷ 103 ∷ []; whole = refl; plain = search rules }

-- ---- what `accepted` says

pub record FilesAccepted (case plan : List ℕ) : Type 0 where
  pub short : within_limits case plan ≡ true
  pub judged : BytesAccepted case plan case_numbers plan_numbers

-- only of what is told with the number 0
says_zero : (t : Told) → take 8 (line_of t) ≡ accepted → t.number ≡ 0
unfolding sentence_of
says_zero t e = go (eqb t.number 0) refl e
  where
    go : (b : Bool) → eqb t.number 0 ≡ b → take 8 (cond b (sentence_of accepted t.values) (sentence_of refused (pos t.number ∷ t.values))) ≡ accepted
        → t.number ≡ 0
    go true z e = eqb-true t.number 0 z
    go false z e = let f : ⊥ = omega (arith, ap (λ (l : List ℕ). get_or l 0 0) e) in absurd f

zeros : ℕ → List ℤ
zeros n = replicate n (pos 0)

module _ (case plan : List ℕ) where
  pub says_accepted : take 8 (files_line case plan) ≡ accepted → FilesAccepted case plan
  unfolding files_line zeros
  says_accepted e = go (within_limits case plan) refl e
    where
      judged : (files_told case plan).number ≡ 0 → BytesAccepted case plan case_numbers plan_numbers
      judged z =
          let b = bytes_zero case plan (zeros case_numbers) (zeros plan_numbers) z in
          let c = subst (λ (n : ℕ). BytesAccepted case plan n (length (zeros plan_numbers))) (length-replicate case_numbers (pos 0)) b in
          subst (BytesAccepted case plan case_numbers) (length-replicate plan_numbers (pos 0)) c

      go : (w : Bool) → within_limits case plan ≡ w → take 8 (cond w (line_of (files_told case plan)) too_long) ≡ accepted → FilesAccepted case plan
      go true w e = record { short = w; judged = judged (says_zero (files_told case plan) e) }
      go false w e = let f : ⊥ = omega (arith, ap (λ (l : List ℕ). get_or l 0 0) e) in absurd f

  -- and then the six totals come after the word
  pub accepted_says : FilesAccepted case plan
      → files_line case plan ≡ line_of (verdict_told (Ok (totals_of (numbers_in case case_numbers) (numbers_in plan plan_numbers))))
  unfolding files_line zeros
  accepted_says a =
      let c = length-replicate case_numbers (pos 0) in
      let p = length-replicate plan_numbers (pos 0) in
      let j = subst (BytesAccepted case plan case_numbers) (sym p) a.judged in
      let b = subst (λ (n : ℕ). BytesAccepted case plan n (length (zeros plan_numbers))) (sym c) j in
      let t = accepted_bytes case plan (zeros case_numbers) (zeros plan_numbers) b in
      rw a.short (ap line_of t ∙ rw (c, p))
