-- Lines as table T and the examples have them, and their room.
-- Assumes nothing.
use Rattle.std.specs.Prelude.{◌≡◌, refl, List, [], ◌∷◌, ◌++◌, ℕ, suc, ◌*◌, ◌^◌, ◌≤◌, ◌<◌, ℤ, pos, negsuc, length, Ok, Err}
use Rattle.std.proofs.Common.{ap, ◌∙◌, arith, length-append}
use Rattle.std.specs.Int.Signed.{mag}
use Rattle.plan.specs.law.Judged.{Verdict, verdict_told, judge_of}
use Rattle.plan.specs.claims.TableT.{RowHolds, AllHold, case_c, plan_p, rows, table}
use Rattle.line.specs.law.Decimal.{decimal, signed}
use Rattle.line.specs.law.Line.{accepted, refused, spaced, sentence_of, line_of, line_bytes}
use Rattle.line.specs.inside.LineLaws.{refusal_line}
use Rattle.line.specs.claims.Decimal.{few_digits}

-- ---- computed

pub record Rows : Type 0 where
  -- table T, 1: `accepted 0 0 0 0 599988 611988`
  pub row1 : line_of (judge_of (case_c (pos 0) (pos 0)) (plan_p (pos 900)))
      ≡ 97 ∷ 99 ∷ 99 ∷ 101 ∷ 112 ∷ 116 ∷ 101 ∷ 100 ∷ 32 ∷ 48 ∷ 32 ∷ 48 ∷ 32 ∷ 48 ∷ 32 ∷ 48
      ∷ 32 ∷ 53 ∷ 57 ∷ 57 ∷ 57 ∷ 56 ∷ 56 ∷ 32 ∷ 54 ∷ 49 ∷ 49 ∷ 57 ∷ 56 ∷ 56 ∷ 10 ∷ []
  -- table T, 2: `refused 28 1 0`
  pub row2 : line_of (judge_of (case_c (pos 0) (pos 0)) (plan_p (pos 901)))
      ≡ 114 ∷ 101 ∷ 102 ∷ 117 ∷ 115 ∷ 101 ∷ 100 ∷ 32 ∷ 50 ∷ 56 ∷ 32 ∷ 49 ∷ 32 ∷ 48 ∷ 10 ∷ []
  -- ` -1 10 -90`
  pub negative : spaced (negsuc 0 ∷ pos 10 ∷ negsuc 89 ∷ []) ≡ 32 ∷ 45 ∷ 49 ∷ 32 ∷ 49 ∷ 48 ∷ 32 ∷ 45 ∷ 57 ∷ 48 ∷ []
  -- `-9223372036854775808`, and `9223372036854775807`
  pub least : signed (negsuc 9223372036854775807) ≡ 45 ∷ 57 ∷ 50 ∷ 50 ∷ 51 ∷ 51 ∷ 55 ∷ 50 ∷ 48 ∷ 51 ∷ 54 ∷ 56 ∷ 53 ∷ 52 ∷ 55 ∷ 55 ∷ 53 ∷ 56 ∷ 48 ∷ 56 ∷ []
  pub largest : signed (pos 9223372036854775807) ≡ 57 ∷ 50 ∷ 50 ∷ 51 ∷ 51 ∷ 55 ∷ 50 ∷ 48 ∷ 51 ∷ 54 ∷ 56 ∷ 53 ∷ 52 ∷ 55 ∷ 55 ∷ 53 ∷ 56 ∷ 48 ∷ 55 ∷ []

pub computed : Rows
unfolding sentence_of decimal AllHold RowHolds rows
computed = record { row1 = ap line_of table.0 ∙ refl; row2 = ap line_of table.1.0 ∙ refl; negative = refl; least = refl; largest = refl }

-- ---- every line has room

-- a number of 64 bits with its sign has at most 20 characters, and 21 with the space
abbrev pub AllFit : List ℤ → Type 0
AllFit [] = Unit {0}
AllFit (x ∷ list) = (mag x < 2 ^ 63) × AllFit list

signed_few : (x : ℤ) → mag x < 2 ^ 63 → length (signed x) ≤ 20
signed_few (pos n) h = omega (arith, few_digits n 18 (omega arith))
signed_few (negsuc n) h = omega (arith, few_digits (suc n) 18 (omega arith))

pub spaced_few : (list : List ℤ) → AllFit list → length (spaced list) ≤ 21 * length list
spaced_few [] a = omega arith
spaced_few (x ∷ list) a = omega (arith, length-append (32 ∷ signed x) (spaced list), signed_few x a.0, spaced_few list a.1)

sentence_few : (word : List ℕ) (list : List ℤ) → AllFit list → length word ≤ 8 → length list ≤ 6 → length (sentence_of word list) ≤ line_bytes
unfolding sentence_of
sentence_few word list a h k =
    omega (arith, length-append word (spaced list ++ (10 ∷ [])), length-append (spaced list) (10 ∷ []), spaced_few list a)

-- the numbers of a verdict are of 64 bits, and a refusal's number is not 0
abbrev pub Fits : Verdict → Type 0
Fits (Ok t) = AllFit (t.pressure ∷ t.demand ∷ pos t.switching ∷ pos t.residual ∷ t.opening ∷ t.closing ∷ [])
Fits (Err n) = (1 ≤ n.number) × AllFit (pos n.number ∷ pos n.step ∷ pos n.place ∷ [])

pub line_fits : (v : Verdict) → Fits v → length (line_of (verdict_told v)) ≤ line_bytes
line_fits (Ok t) a = sentence_few accepted _ a (omega arith) (omega arith)
line_fits (Err n) a = rw (refusal_line n.number n.step n.place a.0) (sentence_few refused _ a.1 (omega arith) (omega arith))
