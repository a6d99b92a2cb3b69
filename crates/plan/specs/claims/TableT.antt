-- Table T, "proved together by one statement over the rows": `rows` has it as document 01 prints it, and `table` says that each of them holds.
-- It is carried by computation: what is told of a row is computed from the definitions of the law, and is what the row has.
-- Assumes nothing.
use Rattle.std.specs.Prelude.{◌≡◌, refl, List, [], ◌∷◌, ◌++◌, ℕ, ℤ, pos, neg_ℤ, length, replicate}
use Rattle.numbers.specs.law.Told.{Told, gives, refuses}
use Rattle.numbers.specs.law.Groups.{encode}
use Rattle.numbers.specs.law.Reading.{all, read_of, read_told}
use Rattle.plan.specs.law.Judged.{judge_of}
use Rattle.plan.specs.law.JudgedBytes.{bytes_judged}
use Rattle.plan.specs.law.Ledger.{ledger_of}
use Rattle.plan.specs.inside.Computed.{law}

-- ---- rows

pub data Row : Type 0 where
  -- what is told of a case and a plan
  judges : (case plan : List ℤ) → Told → Row
  -- what the ledger tells of them for a node set, from step s to step t
  draws : (case plan : List ℤ) (set s t : ℤ) → Told → Row
  -- what is told of the bytes of a case and of a plan, with lists of so many places
  judges_bytes : (case_bytes plan_bytes : List ℕ) (case_room plan_room : ℕ) → Told → Row
  -- the numbers are written as the bytes, and are what is read from them
  codes : List ℤ → List ℕ → Row
  -- what is told of reading the bytes into a list of one place
  reads : List ℕ → Told → Row

unfoldable pub RowHolds : Row → Type 0
RowHolds (judges case plan told) = judge_of case plan ≡ told
RowHolds (draws case plan set s t told) = ledger_of case plan set s t ≡ told
RowHolds (judges_bytes case_bytes plan_bytes case_room plan_room told) =
    (bytes_judged case_bytes plan_bytes (replicate case_room (pos 0)) (replicate plan_room (pos 0))).told ≡ told
RowHolds (codes list bytes) = (encode list ≡ bytes) × (read_of bytes (length list) ≡ record { stored = list; ended = all })
RowHolds (reads bytes told) = read_told (read_of bytes 1) ≡ told

unfoldable pub AllHold : List Row → Type 0
AllHold [] = Unit {0}
AllHold (r ∷ rows) = RowHolds r × AllHold rows

-- ---- the table's cases and plans

-- -900 is written `minus 900`
abbrev pub minus : ℕ → ℤ
minus n = neg_ℤ (pos n)

-- "Case C", with the tolerances E and H, which are 0 in C itself
abbrev pub case_c : (E H : ℤ) → List ℤ
case_c E H =
    (pos 1 ∷ pos 2 ∷ pos 1 ∷ pos 0 ∷ pos 1 ∷ E ∷ H ∷ [])
    ++ ((pos 60 ∷ [])
    ++ ((pos 1 ∷ pos 50000 ∷ pos 40000 ∷ pos 60000 ∷ pos 45000 ∷ pos 55000 ∷ pos 1100 ∷ [])
    ++ ((pos 2 ∷ pos 49998 ∷ pos 40000 ∷ pos 60000 ∷ pos 45000 ∷ pos 55000 ∷ minus 900 ∷ [])
    ++ (pos 2 ∷ pos 0 ∷ pos 1 ∷ pos 2000 ∷ pos 6 ∷ pos 1000 ∷ pos 1000 ∷ pos 0 ∷ pos 0 ∷ pos 0 ∷ pos 0 ∷ []))))

-- "Plan P", with the pipe's b, which is 900 in P itself
abbrev pub plan_p : (b : ℤ) → List ℤ
plan_p b =
    (pos 1 ∷ pos 1 ∷ [])
    ++ ((pos 51000 ∷ pos 1100 ∷ pos 0 ∷ pos 0 ∷ pos 0 ∷ pos 0 ∷ [])
    ++ ((pos 50998 ∷ minus 900 ∷ pos 0 ∷ pos 0 ∷ pos 0 ∷ pos 0 ∷ [])
    ++ (pos 1100 ∷ b ∷ pos 0 ∷ pos 0 ∷ [])))

-- a compressor with two machines: p0 of its in end, the kind and the demand of its out end, its out bound, and acthigh of its out end
abbrev pub two_machines : (p0 kind demand bound acthigh : ℤ) → List ℤ
two_machines p0 kind demand bound acthigh =
    (pos 1 ∷ pos 2 ∷ pos 1 ∷ pos 1 ∷ pos 1 ∷ pos 0 ∷ pos 0 ∷ pos 60 ∷ [])
    ++ ((pos 0 ∷ p0 ∷ pos 0 ∷ pos 200000 ∷ pos 0 ∷ pos 200000 ∷ pos 0 ∷ [])
    ++ ((kind ∷ pos 40000 ∷ pos 0 ∷ pos 200000 ∷ pos 0 ∷ acthigh ∷ demand ∷ [])
    ++ ((pos 5 ∷ pos 0 ∷ pos 1 ∷ pos 1000 ∷ pos 0 ∷ pos 0 ∷ pos 7 ∷ pos 0 ∷ pos 3 ∷ pos 2 ∷ bound ∷ [])
    ++ ((pos 1 ∷ pos 1 ∷ pos 2 ∷ pos 0 ∷ pos 0 ∷ [])
    ++ ((pos 0 ∷ pos 0 ∷ pos 0 ∷ pos 1 ∷ pos 0 ∷ pos 0 ∷ pos 0 ∷ [])
    ++ (pos 1000 ∷ pos 1200 ∷ pos 1000 ∷ pos 1300 ∷ []))))))

-- "In end with p0 and p 40,000, out bound 200,000, machines 1,200 and 1,300", with p0 left open
abbrev pub drifted6 : (p0 : ℤ) → List ℤ
drifted6 p0 = two_machines p0 (pos 0) (pos 0) (pos 200000) (pos 200000)

abbrev pub case6 : List ℤ
case6 = drifted6 (pos 40000)

-- its in end at the pressure 40,000, its out end at `out` with the slacks s- and u-, and the machines that are on
abbrev pub raised : (machines out sminus uminus : ℤ) → List ℤ
raised machines out sminus uminus =
    (pos 1 ∷ pos 1 ∷ [])
    ++ ((pos 40000 ∷ pos 0 ∷ pos 0 ∷ pos 0 ∷ pos 0 ∷ pos 0 ∷ [])
    ++ ((out ∷ pos 0 ∷ pos 0 ∷ sminus ∷ pos 0 ∷ uminus ∷ [])
    ++ (pos 0 ∷ pos 0 ∷ pos 1 ∷ machines ∷ pos 0 ∷ pos 0 ∷ [])))

abbrev pub plan6 : (out : ℤ) → List ℤ
plan6 out = raised (pos 3) out (pos 0) (pos 0)

-- what an accepted plan is told on them: the compressor, off at 0, costs 7
abbrev pub accepted6 : Told
accepted6 = gives (pos 0 ∷ pos 0 ∷ pos 7 ∷ pos 0 ∷ pos 0 ∷ pos 0 ∷ [])

-- ---- the table

unfoldable pub rows : List Row
rows =
    -- "1. C, P: accepted 0 0 0 0 599988 611988, the totals in order."
    judges (case_c (pos 0) (pos 0)) (plan_p (pos 900)) (gives (pos 0 ∷ pos 0 ∷ pos 0 ∷ pos 0 ∷ pos 599988 ∷ pos 611988 ∷ []))
    -- "2. P with the pipe's b 901: refused 28 1 0 (number, step, place)."
    ∷ judges (case_c (pos 0) (pos 0)) (plan_p (pos 901)) (refuses 28 1 0)
    -- "3. As 2, E 60, H 1: accepted, residual 120."
    ∷ judges (case_c (pos 60) (pos 1)) (plan_p (pos 901)) (gives (pos 0 ∷ pos 0 ∷ pos 0 ∷ pos 120 ∷ pos 599988 ∷ pos 611988 ∷ []))
    -- "4. E 59: 28."
    ∷ judges (case_c (pos 59) (pos 1)) (plan_p (pos 901)) (refuses 28 1 0)
    -- "5. As 3, set {1}, 0 to 1: brought in 60, residual 60." The set {1} is the number 2. It is one node, with no inner pipe and so no gas.
    ∷ draws (case_c (pos 60) (pos 1)) (plan_p (pos 901)) (pos 2) (pos 0) (pos 1) (gives (pos 1 ∷ pos 0 ∷ pos 0 ∷ pos 0 ∷ pos 60 ∷ pos 60 ∷ []))
    -- "6. [..] out 60,000 passes 26, 60,001 doesn't." The case and the plan around the row's figures are `case6` and `plan6` above; the row "reads the in end's
    -- 40,000 as the current pressure" (document 02, P1).
    ∷ judges case6 (plan6 (pos 60000)) (gives (pos 0 ∷ pos 0 ∷ pos 7 ∷ pos 0 ∷ pos 0 ∷ pos 0 ∷ []))
    ∷ judges case6 (plan6 (pos 60001)) (refuses 26 1 0)
    -- "7. -900 is 87 0E; 64 is 80 01."
    ∷ codes (minus 900 ∷ []) (0x87 ∷ 0x0E ∷ [])
    ∷ codes (pos 64 ∷ []) (0x80 ∷ 0x01 ∷ [])
    -- "8. 80 is 1; 80 00 is 2; no bytes, no numbers." The places are those of P2: of 1 the length of the data, of 2 the byte 00.
    ∷ reads (0x80 ∷ []) (refuses 1 0 1)
    ∷ reads (0x80 ∷ 0x00 ∷ []) (refuses 2 0 1)
    ∷ reads [] (gives (pos 0 ∷ []))
    ∷ codes [] []
    ∷ []

pub table : AllHold rows
unfolding AllHold RowHolds rows law
table = (refl, (refl, (refl, (refl, (refl, (refl, (refl, ((refl, refl), ((refl, refl), (refl, (refl, (refl, ((refl, refl), tt)))))))))))))
