-- The readers that stand at a source's place are those that have the source.
use Rattle.std.proofs.Common.{◌≡◌, List, [], map, Bool, true, Option, None, Some, refl, ap, ◌∙◌}
use Rattle.std.specs.declared.ops.Bound.TheVariants.{Included, Unbounded}
use Rattle.std.specs.Option.{unwrap_or}
use Rattle.std.specs.Ordering.{is_eq, is_le, on}
use Rattle.std.specs.List.{filter, take_while}
use Rattle.std.specs.List.Sorted.{IsStrictlySortedBy}
use Rattle.std.specs.Map.{keys_of}
use Rattle.std.specs.BTreeMap.Range.{range_contains}
use Rattle.rt_cells.specs.declared.sources.Source.{Source}
use Rattle.rt_cells.specs.declared.sources.Reader.{Reader}
use Rattle.rt_cells.specs.declared.sources.Reader.TheVariants.{Scope, Context}
use Rattle.rt_cells.specs.declared.places.Place.{Place}
use Rattle.rt_cells.specs.contracts.places.PlaceOrd.TheImpl.Laws as place_laws
use Rattle.rt_cells.specs.Orders.{place_cmp, reader_cmp, same_place}
use Rattle.rt_cells.specs.Places.{place_of}
use Rattle.std.specs.List.{list_any}
use Rattle.std.specs.BTreeMap.{is_at}
use Rattle.rt_cells.specs.Reads.{has, reads_of, readers_of, sources_at}
use Rattle.rt_cells.specs.Index.{passes}
use Rattle.rt_cells.specs.Links.{link_cmp, stands_at, IsLinked}
use Rattle.rt_cells.proofs.Exact.{place_total, reader_total, reader_exact}
use Rattle.rt_cells.proofs.NumbersOf.{zero_least}
use Rattle.rt_cells.proofs.Pairs.{any-map, any-filter, entry_passes, scan_first, seconds_are, sorted_kept, sorted_entries}
use Rattle.rt_cells.proofs.Linked.{stands-has}

-- the first of all readers
abbrev pub first_reader : Reader
first_reader = Scope (record { 0 = 0 })

pub first_is_least : (reader : Reader) → is_le (reader_cmp first_reader reader) ≡ true
first_is_least (Scope scope) = zero_least scope.0
first_is_least (Context number) = refl

-- the readers at the source's place
pub readers_at_place : (reads : List (Reader × List Source)) (links : List (Place × Reader)) (source : Source) → IsLinked reads links → IsStrictlySortedBy link_cmp links
    → map (λ link. link.1) (filter (λ link. is_eq (place_cmp (place_of source) link.0)) links) ≡ readers_of source reads
readers_at_place reads links source linked sorted =
    seconds_are place_cmp reader_cmp place_total reader_total reader_exact (place_of source) (stands_at (place_of source)) links reads sorted linked.ascending
    (λ reader. linked.tied (place_of source, reader))
    ∙ ap (λ (test : Reader × List Source → Bool). map (λ read. read.0) (filter test reads)) (λ i read. stands-has source read.1 i)

-- what a scan from the place's least link on finds
pub readers_found : (reads : List (Reader × List Source)) (links : List (Place × Reader)) (source : Source) → IsLinked reads links → IsStrictlySortedBy link_cmp links
    → map (λ link. link.1) (take_while (λ link. same_place (place_of source) link.0) (filter (range_contains link_cmp (Included (place_of source, first_reader)) Unbounded) links)) ≡ readers_of source reads
readers_found reads links source linked sorted =
    ap (λ (test : Place × Reader → Bool). map (λ link. link.1) (take_while test (filter (range_contains link_cmp (Included (place_of source, first_reader)) Unbounded) links)))
    (λ i link. place_laws.matches_eq-law (place_of source) link.0 i)
    ∙ ap (map (λ link. link.1)) (scan_first place_cmp reader_cmp place_total first_reader first_is_least (place_of source) links sorted)
    ∙ readers_at_place reads links source linked sorted

-- a source's readers ascend where all readers do
pub readers_ascend : (source : Source) (reads : List (Reader × List Source)) → IsStrictlySortedBy reader_cmp (keys_of reads) → IsStrictlySortedBy reader_cmp (readers_of source reads)
readers_ascend source reads ascending =
    sorted_kept (on (λ read. read.0) reader_cmp) reader_cmp (λ read. has source read.1) (λ read. read.0) (λ x y _ _ less. less) reads (sorted_entries reader_cmp reads ascending)

-- whether what was found has the source
pub found_has : (source : Source) (found : Option (List Source)) → passes (has source) found ≡ has source (unwrap_or found [])
found_has source None = refl
found_has source (Some sources) = refl

-- a reader is among a source's readers where it has the source
pub readers_have : (source : Source) (reads : List (Reader × List Source)) → IsStrictlySortedBy reader_cmp (keys_of reads) → (reader : Reader)
    → list_any (is_at (reader_cmp reader)) (readers_of source reads) ≡ has source (reads_of reader reads)
readers_have source reads ascending reader =
    any-map (is_at (reader_cmp reader)) (λ read. read.0) (filter (λ read. has source read.1) reads)
    ∙ any-filter (λ read. is_at (reader_cmp reader) read.0) (λ read. has source read.1) reads
    ∙ entry_passes reader_cmp reader_total (has source) reader reads ascending
    ∙ found_has source (sources_at reader reads)
