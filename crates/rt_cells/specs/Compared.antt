-- Which source comes first, and which reader.
use Rattle.std.specs.Prelude.{Bool, true, false, nat_lt, ◌&&◌, ◌||◌, ◌==◌}
use Rattle.rt_cells.specs.declared.sources.Source.{Source}
use Rattle.rt_cells.specs.declared.sources.Source.TheVariants as source
use Rattle.rt_cells.specs.declared.sources.Reader.{Reader}
use Rattle.rt_cells.specs.declared.sources.Reader.TheVariants as reader

-- cells come before errors, and these before contexts; cells by number, errors by scope, contexts by kind and then by scope
abbrev pub source_before : Source → Source → Bool
source_before (source.Cell m) (source.Cell n) = nat_lt m n
source_before (source.Cell m) (source.Error t) = true
source_before (source.Cell m) (source.Context l t) = true
source_before (source.Error s) (source.Cell n) = false
source_before (source.Error s) (source.Error t) = nat_lt s.0 t.0
source_before (source.Error s) (source.Context l t) = true
source_before (source.Context k s) (source.Cell n) = false
source_before (source.Context k s) (source.Error t) = false
source_before (source.Context k s) (source.Context l t) = nat_lt k l || (k == l && nat_lt s.0 t.0)

-- scopes come before reactive contexts, each by number
abbrev pub reader_before : Reader → Reader → Bool
reader_before (reader.Scope s) (reader.Scope t) = nat_lt s.0 t.0
reader_before (reader.Scope s) (reader.Context n) = true
reader_before (reader.Context m) (reader.Scope t) = false
reader_before (reader.Context m) (reader.Context n) = nat_lt m n
