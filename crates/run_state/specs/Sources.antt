-- The sources of a reactive context, in order of reading, each once.
use Rattle.std.specs.Prelude.{ℕ, List, [], ◌∷◌, ◌++◌, map, nat_eq, if◌then◌else◌}
use Rattle.rt_cells.specs.declared.sources.Source.{Source}
use Rattle.rt_model.specs.Commands.{names_source}
use Rattle.run_records.specs.Records.{source_of}
use Rattle.run_state.specs.declared.read_order.Reading.{Reading}
use Rattle.run_state.specs.declared.read_order.Reading.TheVariants as readings

-- one more source, at the end, where it isn't there yet
abbrev pub joined : List Source → Source → List Source
joined sources source = if names_source (map source_of sources) (source_of source) then sources else sources ++ source ∷ []

-- several more sources, one after another
abbrev pub joined_all : List Source → List Source → List Source
joined_all sources [] = sources
joined_all sources (x ∷ xs) = joined_all (joined sources x) xs

-- what was read into the reactive context of a number since it began, by all that came, the last first
abbrev pub read_into : List Reading → ℕ → List Source
read_into [] n = []
read_into (readings.Begun m ∷ rs) n = if nat_eq m n then [] else read_into rs n
read_into (readings.Read m x ∷ rs) n = if nat_eq m n then joined (read_into rs n) x else read_into rs n
