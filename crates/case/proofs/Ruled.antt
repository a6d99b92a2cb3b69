-- What the rules find by the layout is what the law says of the case.
-- Assumes nothing.
use Rattle.std.specs.Prelude.{◌≡◌, List, ℕ, ℤ, get_or, Ok}
use Rattle.std.proofs.Common.{ap, leb-true}
use Rattle.numbers.specs.law.Question.{first_no}
use Rattle.numbers.specs.law.Sets.{member_of}
use Rattle.numbers.specs.law.Sums.{count}
use Rattle.numbers.specs.inside.ItemLaws.{item_yes}
use Rattle.numbers.specs.inside.QuestionLaws.{all_yes}
use Rattle.case.specs.declared.records.Layout.{Layout}
use Rattle.case.specs.declared.records.Site.{Site}
use Rattle.case.specs.law.Layout.{stations_of}
use Rattle.case.specs.law.LayoutOf.{LayoutOf, no_site}
use Rattle.case.specs.law.OneStation.{in_station}
use Rattle.case.specs.law.StationSize.{station_size, all_station_sizes}
use Rattle.case.specs.inside.Counts.{Sized}
use Rattle.case.specs.inside.CountLaws.{count_same}
use Rattle.case.specs.inside.SetLaws.{node_set, fence_of}
use Rattle.case.proofs.Asked.{questions}

-- 14: the stations that have the node, by the layout's sites
pub stations_with : {l : List ℤ} {y : Layout} → LayoutOf l y → (v : ℕ)
    → count y.stations (λ s. member_of (get_or y.sites s no_site).nodes v) ≡ count (stations_of l) (in_station l v)
stations_with {l} {y} h v =
    rw h.stations
    (count_same (λ s. member_of (get_or y.sites s no_site).nodes v) (in_station l v) (stations_of l)
    (λ s p. ap (λ (z : Site). member_of z.nodes v) (h.sites.each s p)))

-- 15, where it has let the case pass
pub sized : (l : List ℤ) → first_no (all_station_sizes l) ≡ Ok tt → Sized l
unfolding all_station_sizes station_size
sized l e = record { each = λ s p. leb-true _ _ (all_yes (station_size l s) (item_yes (station_size l) (stations_of l) e s p)).0 }

pub ruleset rule_laws = (questions, node_set, fence_of, sized)
