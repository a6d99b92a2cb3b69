-- The ledger: "After all the above: 40 does the set name only nodes (place: lowest bit that doesn't; 0 for a number outside 0..2^60-1)?
-- 41 is 0 ≤ s ≤ t ≤ k?" Then the six figures.
-- Assumes nothing.
use Rattle.std.specs.Prelude.{Bool, cond, ◌&&◌, List, [], ◌∷◌, ◌++◌, ℕ, zero, suc, ◌-◌, ℤ, pos, Result}
use Rattle.std.specs.Int.Signed.{le_z}
use Rattle.numbers.specs.law.Told.{Told}
use Rattle.numbers.specs.declared.answer.No.{No}
use Rattle.numbers.specs.law.Question.{Question, first_no, found, told_with}
use Rattle.numbers.specs.law.Sets.{member_of, subset_of}
use Rattle.numbers.specs.law.Signed.{pos_part}
use Rattle.case.specs.law.Extents.{set_room}
use Rattle.case.specs.law.Layout.{nodes_of, steps_of}
use Rattle.case.specs.law.StationFields.{first_items}
use Rattle.plan.specs.declared.figures.Figures.{Figures}
use Rattle.plan.specs.law.Compared.{within}
use Rattle.plan.specs.law.Judged.{questions}
use Rattle.plan.specs.law.RegionFigures.{figures_of}

-- ---- 40

-- is the number a set, 0..2^60-1?
abbrev pub is_node_set : ℤ → Bool
is_node_set set = within (pos 0) set (first_items set_room)

-- does the set name only nodes?
unfoldable pub names_nodes : List ℤ → ℤ → Bool
names_nodes case set = is_node_set set && subset_of set (first_items (nodes_of case))

-- the lowest of the c items from v on that is in the set, and 0 where none is
abbrev pub lowest_of : ℤ → ℕ → ℕ → ℕ
lowest_of set v zero = 0
lowest_of set v (suc c) = cond (member_of set v) v (lowest_of set (suc v) c)

-- "place: lowest bit that doesn't; 0 for a number outside 0..2^60-1"
unfoldable pub foreign_node : List ℤ → ℤ → ℕ
foreign_node case set = cond (is_node_set set) (lowest_of set (nodes_of case) (set_room - nodes_of case)) 0

-- ---- 41

unfoldable pub times_ordered : List ℤ → ℤ → ℤ → Bool
times_ordered case s t = le_z (pos 0) s && (le_z s t && le_z t (pos (steps_of case)))

-- ---- "A step or place that isn't named is 0."

unfoldable pub region_questions : List ℤ → ℤ → ℤ → ℤ → List Question
region_questions case set s t =
    record { yes = names_nodes case set; number = 40; step = 0; place = foreign_node case set }
    ∷ record { yes = times_ordered case s t; number = 41; step = 0; place = 0 }
    ∷ []

unfoldable pub ledger_questions : List ℤ → List ℤ → ℤ → ℤ → ℤ → List Question
ledger_questions case plan set s t = questions case plan ++ region_questions case set s t

-- the figures, or the first "no"
abbrev pub Ledger : Type 0
Ledger = Result Figures No

-- the figures in document 01's order
abbrev pub figures_told : Figures → List ℤ
figures_told f = pos f.nodes ∷ pos f.pipes ∷ f.opening ∷ f.closing ∷ f.brought ∷ pos f.residual ∷ []

-- document 01's number and values for the ledger's answer
abbrev pub ledger_told : Ledger → Told
ledger_told v = told_with figures_told v

-- the ledger's figures for a set and times that are not negative, as those that 41 has let pass are
abbrev pub figures_for : List ℤ → List ℤ → ℤ → ℤ → ℤ → Figures
figures_for case plan set s t = figures_of case plan (member_of set) (pos_part s) (pos_part t)

abbrev pub ledger_is : List ℤ → List ℤ → ℤ → ℤ → ℤ → Ledger
ledger_is case plan set s t = found (first_no (ledger_questions case plan set s t)) (figures_for case plan set s t)

unfoldable pub ledger_of : List ℤ → List ℤ → ℤ → ℤ → ℤ → Told
ledger_of case plan set s t = ledger_told (ledger_is case plan set s t)
