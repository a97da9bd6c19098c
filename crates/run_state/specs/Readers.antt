-- What scopes have read, and what was read into reactive contexts, as the cells know it.
use Rattle.std.specs.Prelude.{◌≡◌, ℕ, List, [], map, None, Some}
use Rattle.rt_cells.specs.declared.numbered.Held.{Held}
use Rattle.rt_cells.specs.declared.sources.Target.{Target}
use Rattle.rt_cells.specs.declared.sources.Source.{Source}
use Rattle.rt_cells.specs.declared.sources.Reader.{Reader}
use Rattle.rt_cells.specs.declared.sources.Reader.TheVariants as reader
use Rattle.rt_cells.specs.Held.{held_at}
use Rattle.rt_cells.specs.Reads.{has, is_read_by, reads_of}
use Rattle.rt_model.specs.Lists.{at}
use Rattle.rt_model.specs.Tree.{Types}
use Rattle.rt_model.specs.World as model
use Rattle.rt_model.specs.State.{Scope}
use Rattle.rt_model.specs.Commands.{names_source}
use Rattle.run_records.specs.Records.{source_of}
use Rattle.run_state.specs.declared.read_order.Reading.{Reading}
use Rattle.run_state.specs.Sources.{read_into}

module _ {K : Types} where
  -- what a scope has read last; one that isn't live, nothing
  abbrev pub read_by : List (ℕ × Scope K) → ℕ → List model.Source
  read_by scopes s = elim (at scopes s) [ None ↦ [] | Some x ↦ x.reads ]

  -- the cells know of each scope just what it has read last
  pub record AreKnown (scopes : List (ℕ × Scope K)) (reads : List (Reader × List Source)) : Type 0 where
    pub each : (s : ℕ) (x : Source) → is_read_by s x reads ≡ names_source (read_by scopes s) (source_of x)

-- what was read into the reactive context of a number; into one that isn't kept, nothing
abbrev pub read_in : List (ℕ × Held Target) → List Reading → ℕ → List model.Source
read_in kept order n = elim (held_at n kept) [ None ↦ [] | Some x ↦ map source_of (read_into order n) ]

-- the cells know of each reactive context just what was read into it
pub record AreHeard (kept : List (ℕ × Held Target)) (order : List Reading) (reads : List (Reader × List Source)) : Type 0 where
  pub each : (n : ℕ) (x : Source) → has x (reads_of (reader.Context n) reads) ≡ names_source (read_in kept order n) (source_of x)
