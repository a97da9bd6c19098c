-- How the readers that stand by the places of sources are tied to each reader's sources.
use Rattle.std.specs.Prelude.{◌≡◌, Bool, not, ◌&&◌, List, [], Option}
use Rattle.std.specs.declared.cmp.Ordering.{Ordering}
use Rattle.std.specs.Option.{IfSome}
use Rattle.std.specs.Ordering.{is_eq, then_cmp, on}
use Rattle.std.specs.List.{list_any}
use Rattle.std.specs.List.Sorted.{IsStrictlySortedBy}
use Rattle.std.specs.Map.{keys_of}
use Rattle.std.specs.BTreeMap.{is_at}
use Rattle.rt_cells.specs.declared.sources.Source.{Source}
use Rattle.rt_cells.specs.declared.sources.Reader.{Reader}
use Rattle.rt_cells.specs.declared.sources.Reader.TheVariants as reader
use Rattle.rt_cells.specs.declared.places.Place.{Place}
use Rattle.rt_cells.specs.Orders.{source_cmp, reader_cmp, place_cmp}
use Rattle.rt_cells.specs.Places.{place_of}
use Rattle.rt_cells.specs.Index.{passes}
use Rattle.rt_cells.specs.Reads.{has, sources_at}

-- Pairs by the place of the source, and then by the reader.
abbrev pub link_cmp : Place × Reader → Place × Reader → Ordering
link_cmp = then_cmp (on (λ link. link.0) place_cmp) (on (λ link. link.1) reader_cmp)

-- Whether one of the sources stands at the place.
abbrev pub stands_at : Place → List Source → Bool
stands_at place sources = list_any (λ source. is_eq (place_cmp (place_of source) place)) sources

-- Whether the link is one of the reader to one of the sources.
abbrev pub is_linked : Reader → List Source → Place × Reader → Bool
is_linked reader sources link =
    list_any (λ source. is_at (link_cmp (place_of source, reader)) link) sources

-- Whether the link is one of the reader to one of the sources that isn't kept.
abbrev pub is_let_go : Reader → List Source → List Source → Place × Reader → Bool
is_let_go reader kept sources link = list_any
    (λ source. not (has source kept) && is_at (link_cmp (place_of source, reader)) link) sources

-- The pairs are each reader with its sources' places; readers ascend, and the sources of each.
pub record IsLinked (reads : List (Reader × List Source)) (links : List (Place × Reader)) : Type 0
  where
    pub tied : (link : Place × Reader)
        → list_any (is_at (link_cmp link)) links
        ≡ passes (stands_at link.0) (sources_at link.1 reads)
    pub ascending : IsStrictlySortedBy reader_cmp (keys_of reads)
    pub sorted : (reader : Reader)
        → IfSome (sources_at reader reads) (IsStrictlySortedBy source_cmp)
