-- Demand 3, proved: the rooms of two desks are the layout of the catalogue from the set of lines.
use mathlib.Core.Path.{◌∙◌, ap}
use mathlib.Core.List.{◌++◌}
use Rattle.catalogue.specs.Catalogue.{Catalogue}
use Rattle.catalogue.specs.Lists.{Occurs}
use Rattle.catalogue.specs.Last.{last_catalogue}
use Rattle.catalogue.specs.Room.{encode}
use Rattle.catalogue.specs.Demand.{Demand3}
use Rattle.catalogue.proofs.laws.demand.Set.{one_catalogue, kept}
use Rattle.catalogue.proofs.laws.demand.Feed.{feed_zeroed}

pub demand_3 : Demand3
demand_3 ls ms p q e s =
    let o = one_catalogue ls ms e s in (
      last_catalogue ls,
      record {
        first = feed_zeroed ls p ∙ ap (λ (c : Catalogue). encode c ++ p) o.0;
        second = feed_zeroed ms q ∙ ap (λ (c : Catalogue). encode c ++ q) o.1;
        catalogue = record { defined = o.2; only = o.3; kept = kept (Occurs ls) (last_catalogue ls) o.2 s.bounded.no_blank };
      },
    )
