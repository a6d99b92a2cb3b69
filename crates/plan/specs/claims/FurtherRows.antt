-- Rows that are not table T's, in the same form: totals that its rows leave at 0, the ledger's refusals, the call on two byte strings, and refused readings.
-- They are carried by computation, as the table is.
-- Assumes nothing.
use Rattle.std.specs.Prelude.{refl, List, [], ◌∷◌, ◌++◌, ℕ, ℤ, pos}
use Rattle.numbers.specs.law.Told.{Told, gives, refuses}
use Rattle.plan.specs.inside.Computed.{law}
use Rattle.plan.specs.claims.TableT.{Row, judges, draws, judges_bytes, reads, RowHolds, AllHold, minus, case_c, plan_p}

-- ---- a compressor that runs backward

-- A sink (node 0), an inner node and a source (node 2), which begins at p0; a pipe from 0 to 1 and a compressor from 1 to 2; two steps, of 60 s and 120 s.
-- The station's directions have node 1 as entry and as exit, its states the compressor off and on. At step 0 it has the first of each. The compressor's out
-- bound and acthigh of node 1, its out end when it runs backward, are left open.
abbrev pub runs_backward : (p0 bound acthigh : ℤ) → List ℤ
runs_backward p0 bound acthigh =
    (pos 1 ∷ pos 3 ∷ pos 2 ∷ pos 1 ∷ pos 2 ∷ pos 60 ∷ pos 1 ∷ [])
    ++ ((pos 60 ∷ pos 180 ∷ [])
    ++ ((pos 2 ∷ pos 39997 ∷ pos 30000 ∷ pos 60000 ∷ pos 40000 ∷ pos 59990 ∷ minus 520 ∷ minus 1500 ∷ [])
    ++ ((pos 0 ∷ pos 40000 ∷ pos 30000 ∷ pos 60000 ∷ pos 30000 ∷ acthigh ∷ pos 0 ∷ pos 0 ∷ [])
    ++ ((pos 1 ∷ p0 ∷ pos 40000 ∷ pos 60000 ∷ pos 50300 ∷ pos 60000 ∷ pos 2510 ∷ pos 1500 ∷ [])
    ++ ((pos 2 ∷ pos 0 ∷ pos 1 ∷ pos 3000 ∷ pos 3 ∷ pos 1000 ∷ pos 1000 ∷ pos 0 ∷ pos 0 ∷ pos 0 ∷ pos 0 ∷ [])
    ++ ((pos 5 ∷ pos 1 ∷ pos 2 ∷ pos 3000 ∷ pos 0 ∷ pos 1 ∷ pos 7 ∷ pos 0 ∷ pos 1 ∷ pos 1 ∷ bound ∷ [])
    ++ ((pos 2 ∷ pos 2 ∷ pos 1 ∷ pos 0 ∷ pos 0 ∷ [])
    ++ ((pos 2 ∷ pos 0 ∷ pos 1000 ∷ [])
    ++ ((pos 0 ∷ pos 2 ∷ pos 2000 ∷ [])
    ++ ((pos 1 ∷ pos 0 ∷ pos 1 ∷ pos 100 ∷ [])
    ++ ((pos 2 ∷ pos 1 ∷ pos 0 ∷ pos 200 ∷ [])
    ++ (pos 2500 ∷ pos 1200 ∷ []))))))))))))

abbrev pub case_b : (p0 : ℤ) → List ℤ
case_b p0 = runs_backward p0 (pos 60000) (pos 60000)

-- From step 1 on the compressor runs backward, so that node 2 is its in end, in the second direction and the second state. Node 2 stands at `first` in step 1
-- and at `second` in step 2, below its actlow, 50300, by the two slacks.
abbrev pub raised_from : (first first_slack second second_slack : ℤ) → List ℤ
raised_from first first_slack second second_slack =
    (pos 1 ∷ pos 2 ∷ [])
    ++ ((pos 59997 ∷ minus 500 ∷ pos 0 ∷ pos 20 ∷ pos 0 ∷ pos 7 ∷ [])
    ++ ((pos 60000 ∷ pos 0 ∷ pos 0 ∷ pos 0 ∷ pos 0 ∷ pos 0 ∷ [])
    ++ ((first ∷ pos 2500 ∷ pos 10 ∷ pos 0 ∷ first_slack ∷ pos 0 ∷ [])
    ++ ((minus 500 ∷ minus 2501 ∷ pos 0 ∷ pos 0 ∷ [])
    ++ ((pos 0 ∷ pos 2500 ∷ pos 2 ∷ pos 1 ∷ [])
    ++ ((pos 1 ∷ pos 1 ∷ [])
    ++ ((pos 59997 ∷ minus 1500 ∷ pos 0 ∷ pos 0 ∷ pos 0 ∷ pos 7 ∷ [])
    ++ ((pos 60000 ∷ pos 0 ∷ pos 0 ∷ pos 0 ∷ pos 0 ∷ pos 0 ∷ [])
    ++ ((second ∷ pos 1500 ∷ pos 0 ∷ pos 0 ∷ second_slack ∷ pos 0 ∷ [])
    ++ ((minus 1500 ∷ minus 1500 ∷ pos 0 ∷ pos 0 ∷ [])
    ++ ((pos 0 ∷ pos 1500 ∷ pos 2 ∷ pos 1 ∷ [])
    ++ (pos 1 ∷ pos 1 ∷ []))))))))))))

abbrev pub plan_b : List ℤ
plan_b = raised_from (pos 50000) (pos 300) (pos 50000) (pos 300)

abbrev pub accepted_b : Told
accepted_b = gives (pos 614 ∷ pos 30 ∷ pos 2207 ∷ pos 120 ∷ pos 239991 ∷ pos 359991 ∷ [])

-- ---- C and P in groups of seven

abbrev bytes_c : List ℕ
bytes_c =
    (0x02 ∷ 0x04 ∷ 0x02 ∷ 0x00 ∷ 0x02 ∷ 0x00 ∷ 0x00 ∷ 0x78 ∷ [])
    ++ ((0x02 ∷ 0xA0 ∷ 0x8D ∷ 0x06 ∷ 0x80 ∷ 0xF1 ∷ 0x04 ∷ 0xC0 ∷ 0xA9 ∷ 0x07
    ∷ 0x90 ∷ 0xBF ∷ 0x05 ∷ 0xB0 ∷ 0xDB ∷ 0x06 ∷ 0x98 ∷ 0x11 ∷ [])
    ++ ((0x04 ∷ 0x9C ∷ 0x8D ∷ 0x06 ∷ 0x80 ∷ 0xF1 ∷ 0x04 ∷ 0xC0 ∷ 0xA9 ∷ 0x07
    ∷ 0x90 ∷ 0xBF ∷ 0x05 ∷ 0xB0 ∷ 0xDB ∷ 0x06 ∷ 0x87 ∷ 0x0E ∷ [])
    ++ (0x04 ∷ 0x00 ∷ 0x02 ∷ 0xA0 ∷ 0x1F ∷ 0x0C ∷ 0xD0 ∷ 0x0F ∷ 0xD0 ∷ 0x0F ∷ 0x00 ∷ 0x00 ∷ 0x00 ∷ 0x00 ∷ [])))

abbrev bytes_p : List ℕ
bytes_p =
    (0x02 ∷ 0x02 ∷ [])
    ++ ((0xF0 ∷ 0x9C ∷ 0x06 ∷ 0x98 ∷ 0x11 ∷ 0x00 ∷ 0x00 ∷ 0x00 ∷ 0x00 ∷ [])
    ++ ((0xEC ∷ 0x9C ∷ 0x06 ∷ 0x87 ∷ 0x0E ∷ 0x00 ∷ 0x00 ∷ 0x00 ∷ 0x00 ∷ [])
    ++ (0x98 ∷ 0x11 ∷ 0x88 ∷ 0x0E ∷ 0x00 ∷ 0x00 ∷ [])))

-- nine bytes of a number, and a tenth
abbrev nine_bytes : List ℕ
nine_bytes = 0x80 ∷ 0x80 ∷ 0x80 ∷ 0x80 ∷ 0x80 ∷ 0x80 ∷ 0x80 ∷ 0x80 ∷ 0x80 ∷ []

abbrev tenth : ℕ → List ℕ
tenth b = nine_bytes ++ (b ∷ [])

-- ---- the rows

unfoldable pub further_rows : List Row
further_rows =
    -- Six totals above 0: pressure slack 7 and 300 in both steps; demand slack 20 and 10; switching cost 2000 for the new direction, 200 for the new state and
    -- 7 for the compressor, all in step 1; residual 60 at the pipe and 60 at node 1. In 26 the out pressure, 60000, is just what the machine, of 1200, reaches
    -- from 50000.
    judges (case_b (pos 50000)) plan_b accepted_b
    ∷ judges (case_b (pos 50000)) (raised_from (pos 49999) (pos 301) (pos 50000) (pos 300)) (refuses 26 1 1)
    -- the pipe inside the set; the pipe at its edge, and gas that leaves it
    ∷ draws (case_b (pos 50000)) plan_b (pos 3) (pos 0) (pos 2) (gives (pos 2 ∷ pos 1 ∷ pos 239991 ∷ pos 359991 ∷ pos 120000 ∷ pos 120 ∷ []))
    ∷ draws (case_b (pos 50000)) plan_b (pos 6) (pos 0) (pos 2) (gives (pos 2 ∷ pos 0 ∷ pos 0 ∷ pos 0 ∷ minus 60 ∷ pos 60 ∷ []))
    -- as row 5, with both nodes
    ∷ draws (case_c (pos 60) (pos 1)) (plan_p (pos 901)) (pos 3) (pos 0) (pos 1)
    (gives (pos 2 ∷ pos 1 ∷ pos 599988 ∷ pos 611988 ∷ pos 12000 ∷ pos 120 ∷ []))
    -- 28 comes before 40, and 40 before 41
    ∷ draws (case_c (pos 59) (pos 1)) (plan_p (pos 901)) (pos 5) (pos 1) (pos 0) (refuses 28 1 0)
    ∷ draws (case_c (pos 60) (pos 1)) (plan_p (pos 901)) (pos 14) (pos 1) (pos 0) (refuses 40 0 2)
    -- no set, and a time past the last step
    ∷ draws (case_c (pos 60) (pos 1)) (plan_p (pos 901)) (minus 1) (pos 0) (pos 1) (refuses 40 0 0)
    ∷ draws (case_c (pos 60) (pos 1)) (plan_p (pos 901)) (pos 2) (pos 0) (pos 2) (refuses 41 0 0)
    -- row 1 from bytes, into lists that have just the room
    ∷ judges_bytes bytes_c bytes_p 33 18 (gives (pos 0 ∷ pos 0 ∷ pos 0 ∷ pos 0 ∷ pos 599988 ∷ pos 611988 ∷ []))
    -- plan bytes that end in a number, that have a last byte 0 and a tenth byte 2, and for whose last number the list is full
    ∷ judges_bytes bytes_c (0x02 ∷ 0x02 ∷ 0xF0 ∷ []) 33 18 (refuses 5 0 3)
    ∷ judges_bytes bytes_c (0x02 ∷ 0x02 ∷ 0x80 ∷ 0x00 ∷ []) 33 18 (refuses 6 0 3)
    ∷ judges_bytes bytes_c (0x02 ∷ 0x02 ∷ tenth 0x02) 33 18 (refuses 6 0 11)
    ∷ judges_bytes bytes_c bytes_p 33 17 (refuses 7 0 25)
    -- a tenth byte 0 is refused where FF is, which is no last byte; the bytes may also end before it
    ∷ reads (tenth 0x00) (refuses 2 0 9)
    ∷ reads (tenth 0xFF) (refuses 2 0 9)
    ∷ reads nine_bytes (refuses 1 0 9)
    -- without a place for a number none of its bytes is asked for: 3 has its first byte, though the next one is missing or wrong
    ∷ reads (0x02 ∷ 0x80 ∷ []) (refuses 3 0 1)
    ∷ reads (0x02 ∷ 0x80 ∷ 0x00 ∷ []) (refuses 3 0 1)
    ∷ []

pub further : AllHold further_rows
unfolding AllHold RowHolds further_rows law
further =
    (refl, (refl, (refl, (refl, (refl, (refl, (refl, (refl, (refl, (refl, (refl, (refl, (refl, (refl, (refl, (refl, (refl, (refl, (refl, tt)))))))))))))))))))
