-- What is carried from step to step: the pressures, activities, directions and states at time t.
use Rattle.std.specs.Prelude.{Bool, false, List, ℕ, ℤ, pos, get_or}
use Rattle.case.specs.law.Layout.{nodes_of, arcs_of, stations_of}
use Rattle.case.specs.law.LayoutOf.{Holds}
use Rattle.plan.specs.declared.previous.Previous.{Previous}

-- what an array of activities, directions or states has at a place
abbrev pub active_of : List Bool → ℕ → Bool
active_of xs e = get_or xs e false

abbrev pub index_of : List ℕ → ℕ → ℕ
index_of xs s = get_or xs s 0

pub record Carried (case : List ℤ) (x : Previous) (p : ℕ → ℤ) (a : ℕ → Bool) (f z : ℕ → ℕ) : Type 0 where
  pub pressures : Holds (pos 0) x.pressures p (nodes_of case)
  pub active : Holds false x.active a (arcs_of case)
  pub directions : Holds 0 x.directions f (stations_of case)
  pub states : Holds 0 x.states z (stations_of case)
