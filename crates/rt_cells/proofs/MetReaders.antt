-- The readers that are left to be met: the first link of the place has the first of them.
use Rattle.std.proofs.Common.{◌≡◌, List, [], ◌∷◌, map, true, false, ap, ◌∙◌}
use Rattle.std.specs.List.{take_while}
use Rattle.rt_cells.specs.declared.sources.Reader.{Reader}
use Rattle.rt_cells.specs.declared.places.Place.{Place}
use Rattle.rt_cells.specs.Orders.{same_place}
use Rattle.rt_cells.proofs.Scan.{goes_on, stops}

-- those who are met from some links on
abbrev pub met_from : Place → List (Place × Reader) → List Reader
met_from place links = map (λ link. link.1) (take_while (λ link. same_place place link.0) links)

-- a link of the place is met first
pub met_first : (place : Place) (links rest : List (Place × Reader)) (link : Place × Reader) → links ≡ link ∷ rest → same_place place link.0 ≡ true
    → met_from place links ≡ link.1 ∷ met_from place rest
met_first place links rest link is own =
    ap (met_from place) is ∙ ap (map (λ link. link.1)) (goes_on (λ link. same_place place link.0) link rest own)

-- at another link none is left
pub met_none : (place : Place) (links rest : List (Place × Reader)) (link : Place × Reader) → links ≡ link ∷ rest → same_place place link.0 ≡ false → met_from place links ≡ []
met_none place links rest link is other =
    ap (met_from place) is ∙ ap (map (λ link. link.1)) (stops (λ link. same_place place link.0) link rest other)

-- nor where no link is
pub met_end : (place : Place) (links : List (Place × Reader)) → links ≡ [] → met_from place links ≡ []
met_end place links is = ap (met_from place) is
