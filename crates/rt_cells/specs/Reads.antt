-- Who reads what: each reader with its sources, and the readers of a source.
use Rattle.std.specs.Prelude.{ℕ, Bool, false, List, [], ◌∷◌, map, Option}
use Rattle.std.specs.declared.cmp.Ordering.{Ordering}
use Rattle.std.specs.Option.{unwrap_or}
use Rattle.std.specs.Ordering.{is_eq}
use Rattle.std.specs.List.{list_any, filter, flat_map}
use Rattle.std.specs.Map.{lookup, remove_entry}
use Rattle.std.specs.BTreeMap.{insert_entry, is_at}
use Rattle.std.specs.BTreeSet.{insert_key}
use Rattle.rt_values.specs.declared.names.ScopeId.{ScopeId}
use Rattle.rt_cells.specs.declared.sources.Source.{Source}
use Rattle.rt_cells.specs.declared.sources.Source.TheVariants.{Context}
use Rattle.rt_cells.specs.declared.sources.Reader.{Reader}
use Rattle.rt_cells.specs.declared.sources.Reader.TheVariants as reader
use Rattle.rt_cells.specs.Orders.{scope_cmp, source_cmp, reader_cmp}

-- The distinct items of a list, ascending.
abbrev pub in_order : {K : Type 0} → (K → K → Ordering) → List K → List K
in_order cmp [] = []
in_order cmp (k ∷ ks) = insert_key cmp (in_order cmp ks) k

-- Whether the source is among the sources.
abbrev pub has : Source → List Source → Bool
has source sources = list_any (is_at (source_cmp source)) sources

-- A reader's sources, where it has any.
abbrev pub sources_at : Reader → List (Reader × List Source) → Option (List Source)
sources_at reader reads = lookup (is_at (reader_cmp reader)) reads

-- A reader's sources, ascending.
abbrev pub reads_of : Reader → List (Reader × List Source) → List Source
reads_of reader reads = unwrap_or (sources_at reader reads) []

-- The readers of a source, ascending.
abbrev pub readers_of : Source → List (Reader × List Source) → List Reader
readers_of source reads = map (λ read. read.0) (filter (λ read. has source read.1) reads)

-- A scope reads the source.
abbrev pub is_read_by : ℕ → Source → List (Reader × List Source) → Bool
is_read_by scope source reads = has source (reads_of (reader.Scope (record { 0 = scope })) reads)

-- The reader has no sources.
abbrev pub without_reader : Reader → List (Reader × List Source) → List (Reader × List Source)
without_reader reader reads = remove_entry (is_at (reader_cmp reader)) reads

-- The reader has just these sources: who has none isn't kept.
abbrev pub with_reads :
    Reader → List Source → List (Reader × List Source) → List (Reader × List Source)
with_reads reader [] reads = without_reader reader reads
with_reads reader (source ∷ sources) reads = insert_entry reader_cmp reads reader (source ∷ sources)

-- The reactive contexts of these numbers have no sources.
abbrev pub without_contexts : List ℕ → List (Reader × List Source) → List (Reader × List Source)
without_contexts [] reads = reads
without_contexts (number ∷ numbers) reads =
    without_contexts numbers (without_reader (reader.Context number) reads)

-- Whether the source is what the scope provides of some kind.
abbrev pub is_context_of : ScopeId → Source → Bool
is_context_of scope (Context kind by) = is_eq (scope_cmp scope by)
is_context_of scope _ = false

-- The sources of every kind of a scope that some reader has, ascending.
abbrev pub context_sources : ScopeId → List (Reader × List Source) → List Source
context_sources scope reads =
    in_order source_cmp (filter (is_context_of scope) (flat_map (λ read. read.1) reads))
