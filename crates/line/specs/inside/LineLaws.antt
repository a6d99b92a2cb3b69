-- The characters of a line: a number's are above the space. A refusal's line begins with `refused`.
use Rattle.std.specs.Prelude.{◌≡◌, List, [], ◌∷◌, ◌++◌, ℕ, suc, ◌/◌, ◌≤◌, ◌<◌, ℤ, pos, negsuc}
use Rattle.std.proofs.Common.{arith, ne_eqb}
use Rattle.numbers.specs.law.Told.{refuses}
use Rattle.line.specs.law.Decimal.{last_digit, decimal, signed}
use Rattle.line.specs.law.Line.{refused, spaced, sentence_of, line_of}
use Rattle.line.specs.inside.DigitLaws.{one_digit, more_digits, by_digits}

-- every character of the text is above n
abbrev pub AllAbove : ℕ → List ℕ → Type 0
AllAbove n [] = Unit {0}
AllAbove n (c ∷ text) = (n < c) × AllAbove n text

pub above_append : (n : ℕ) (xs ys : List ℕ) → AllAbove n xs → AllAbove n ys → AllAbove n (xs ++ ys)
above_append n [] ys a b = b
above_append n (x ∷ xs) ys a b = (a.0, above_append n xs ys a.1 b)

looser : (m n : ℕ) (text : List ℕ) → m ≤ n → AllAbove n text → AllAbove m text
looser m n [] h a = tt
looser m n (c ∷ text) h a = (omega (arith, a.0), looser m n text h a.1)

-- digits are above the sign
pub digits_above : (n : ℕ) → AllAbove 45 (decimal n)
digits_above = by_digits (λ n. AllAbove 45 (decimal n)) (λ n h. rw (one_digit n h) (omega arith, tt))
    (λ n h a. rw (more_digits n h) (above_append 45 (decimal (n / 10)) (last_digit n ∷ []) a (omega arith, tt)))

pub signed_above : (x : ℤ) → AllAbove 32 (signed x)
signed_above (pos n) = looser 32 45 (decimal n) (omega arith) (digits_above n)
signed_above (negsuc n) = (omega arith, looser 32 45 (decimal (suc n)) (omega arith) (digits_above (suc n)))

pub spaced_above : (list : List ℤ) → AllAbove 31 (spaced list)
spaced_above [] = tt
spaced_above (x ∷ list) =
    above_append 31 (32 ∷ signed x) (spaced list) (omega arith, looser 31 32 (signed x) (omega arith) (signed_above x)) (spaced_above list)

-- a refusal's number is not 0
pub refusal_line : (number step place : ℕ) → 1 ≤ number
    → line_of (refuses number step place) ≡ sentence_of refused (pos number ∷ pos step ∷ pos place ∷ [])
refusal_line number step place h = rw (ne_eqb number 0 (λ e. omega arith))
