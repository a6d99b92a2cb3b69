-- "The answer gives the settled total and four counts". Each sender's row is settled with the receiver's row of its time; then come the receiver's rows
-- whose time the sender's record has not.
-- Assumes nothing.
use Rattle.std.specs.Prelude.{Bool, true, false, not, cond, List, ℕ, ℤ, pos, nat_abs, ◌+ℤ◌, ◌-ℤ◌}
use Rattle.std.specs.Int.Signed.{le_z}
use Rattle.numbers.specs.law.Sums.{sum, count, only}
use Rattle.settlement.specs.declared.figures.Figures.{Figures}
use Rattle.settlement.specs.law.Records.{rows_of, time_of, grams_of}
use Rattle.settlement.specs.law.LookUp.{Found, found, missing, look_up}

-- "if the two differ by at most the agreed grams"
unfoldable pub agrees : ℤ → ℤ → ℤ → Bool
agrees agreed s r = le_z (pos (nat_abs (s -ℤ r))) agreed

-- "the sender's mass stands, otherwise the smaller"
unfoldable pub settled_pair : ℤ → ℤ → ℤ → ℤ
settled_pair agreed s r = cond (agrees agreed s r) s (cond (le_z s r) s r)

-- ---- a sender's row with the grams s, and what its time has in the receiver's record

-- "For a time in only one record, that row's mass stands."
abbrev pub standing : ℤ → ℤ → Found → ℤ
standing agreed s (found r) = settled_pair agreed s r
standing agreed s missing = s

abbrev pub is_agreed : ℤ → ℤ → Found → Bool
is_agreed agreed s (found r) = agrees agreed s r
is_agreed agreed s missing = false

abbrev pub is_cut : ℤ → ℤ → Found → Bool
is_cut agreed s (found r) = not (agrees agreed s r)
is_cut agreed s missing = false

abbrev pub is_missing : Found → Bool
is_missing (found r) = false
is_missing missing = true

-- ---- row by row

-- what row i of one record has in the other
unfoldable pub opposite : List ℤ → List ℤ → ℕ → Found
opposite meter other i = look_up other (time_of meter i)

unfoldable pub standing_at : List ℤ → List ℤ → ℤ → ℕ → ℤ
standing_at sender receiver agreed i = standing agreed (grams_of sender i) (opposite sender receiver i)

unfoldable pub agreed_at : List ℤ → List ℤ → ℤ → ℕ → Bool
agreed_at sender receiver agreed i = is_agreed agreed (grams_of sender i) (opposite sender receiver i)

unfoldable pub cut_at : List ℤ → List ℤ → ℤ → ℕ → Bool
cut_at sender receiver agreed i = is_cut agreed (grams_of sender i) (opposite sender receiver i)

-- is row i of the record at a time that the other has not?
unfoldable pub alone_at : List ℤ → List ℤ → ℕ → Bool
alone_at meter other i = is_missing (opposite meter other i)

unfoldable pub alone_grams : List ℤ → List ℤ → ℕ → ℤ
alone_grams meter other i = only (alone_at meter other i) (grams_of meter i)

-- ---- the figures

unfoldable pub settled_total : List ℤ → List ℤ → ℤ → ℤ
settled_total sender receiver agreed =
    sum (rows_of sender) (standing_at sender receiver agreed) +ℤ sum (rows_of receiver) (alone_grams receiver sender)

unfoldable pub settled_figures : List ℤ → List ℤ → ℤ → Figures
settled_figures sender receiver agreed = record {
  total = settled_total sender receiver agreed;
  agreed = count (rows_of sender) (agreed_at sender receiver agreed);
  cut = count (rows_of sender) (cut_at sender receiver agreed);
  sender = count (rows_of sender) (alone_at sender receiver);
  receiver = count (rows_of receiver) (alone_at receiver sender);
}
