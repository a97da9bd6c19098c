-- A reactive context that is reset, and what is read into it then.
use Rattle.std.specs.Prelude.{ℕ, List, [], ◌∷◌, map, Option, Some, None}
use Rattle.rt_cells.specs.declared.sources.Source.{Source}
use Rattle.rt_model.specs.Tree.{Types}
use Rattle.rt_model.specs.World.{Command, Reset, ReadInto}
use Rattle.run_records.specs.Records.{source_of}

module _ {K : Types} where
  -- a source is read into a context
  abbrev pub reading_of : ℕ → Source → Command K
  reading_of n x = ReadInto n (source_of x)

  -- a context is reset, and these sources are read into it
  abbrev pub read_anew : ℕ → List Source → List (Command K)
  read_anew n xs = Reset n ∷ map (reading_of n) xs

  -- the commands that are left to be done, of one context at most
  abbrev pub left_of : Option (ℕ × List Source) → List (Command K)
  left_of None = []
  left_of (Some r) = read_anew r.0 r.1
