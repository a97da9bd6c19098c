-- Where each source stands in the table of readers.
use Rattle.rt_cells.specs.declared.sources.Source.{Source}
use Rattle.rt_cells.specs.declared.sources.Source.TheVariants as source
use Rattle.rt_cells.specs.declared.places.Place.{Place}
use Rattle.rt_cells.specs.declared.places.Place.TheVariants as place

-- The place of a source: a context stands by its scope first.
abbrev pub place_of : Source → Place
place_of (source.Cell number) = place.Cell number
place_of (source.Error scope) = place.Error scope
place_of (source.Context kind scope) = place.Context scope kind

-- The source of a place.
abbrev pub source_at : Place → Source
source_at (place.Cell number) = source.Cell number
source_at (place.Error scope) = source.Error scope
source_at (place.Context scope kind) = source.Context kind scope
