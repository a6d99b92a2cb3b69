-- What the layout of a case holds.
-- What the judge of a case gives: the answer, and the layout, which is one of zeros where 10 to 12 refuse the list.
-- Assumes nothing.
use Rattle.std.specs.Prelude.{◌≡◌, List, ℕ, ◌<◌, ◌≤◌, ℤ, pos, get_or, replicate, Ok, Err}
use Rattle.case.specs.declared.records.Layout.{Layout}
use Rattle.case.specs.declared.records.Site.{Site}
use Rattle.case.specs.law.Layout.{nodes_of, arcs_of, stations_of, steps_of, station_at}
use Rattle.case.specs.law.StationNodes.{station_nodes, plain_nodes}
use Rattle.numbers.specs.law.Question.{first_no, told, no_at}
use Rattle.case.specs.declared.records.Laying.{Laying}
use Rattle.case.specs.law.Judged.{list_questions, judged_case}

-- an array holds f at its first n places
pub record Holds {A : Type 0} (none : A) (xs : List A) (f : ℕ → A) (n : ℕ) : Type 0 where
  pub each : (i : ℕ) → i < n → get_or xs i none ≡ f i

-- and `none` from its place n on
pub record Clear {A : Type 0} (none : A) (xs : List A) (n : ℕ) : Type 0 where
  pub each : (i : ℕ) → n ≤ i → get_or xs i none ≡ none

-- where a station's rows begin, and its nodes
abbrev pub site_of : List ℤ → ℕ → Site
site_of case s = record { offset = station_at case s; nodes = station_nodes case s }

abbrev pub no_site : Site
no_site = record { offset = 0; nodes = pos 0 }

-- the layout's array has a place for each of 8 stations, with zeros past the case's own
pub record LayoutOf (case : List ℤ) (l : Layout) : Type 0 where
  pub steps : l.steps ≡ steps_of case
  pub nodes : l.nodes ≡ nodes_of case
  pub arcs : l.arcs ≡ arcs_of case
  pub stations : l.stations ≡ stations_of case
  -- where each station's rows begin, and its nodes
  pub sites : Holds no_site l.sites (site_of case) (stations_of case)
  pub sites_past : Clear no_site l.sites (stations_of case)
  -- the nodes that end an arc of kind 0 to 2
  pub plain : l.plain ≡ plain_nodes case

abbrev pub no_layout : Layout
no_layout = record {
  steps = 0;
  nodes = 0;
  arcs = 0;
  stations = 0;
  sites = replicate 8 no_site;
  plain = pos 0;
}

pub record LayingOf (case : List ℤ) (l : Laying) : Type 0 where
  pub told_is : told l.answer ≡ judged_case case
  pub passed : first_no (list_questions case) ≡ Ok tt → LayoutOf case l.layout
  pub refused : (number step place : ℕ) → first_no (list_questions case) ≡ Err (no_at number step place) → l.layout ≡ no_layout
