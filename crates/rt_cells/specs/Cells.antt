-- Tracked cells, who reads what, and reactive contexts: what a contract sees of all three, and
-- what each call makes of it.
use Rattle.std.specs.Prelude.{ℕ, ◌+◌, ◌++◌, ◌∷◌, [], List, None, Some}
use Rattle.rt_values.specs.declared.names.ScopeId.{ScopeId}
use Rattle.rt_cells.specs.declared.numbered.Held.{Held}
use Rattle.rt_cells.specs.declared.sources.Source.{Source}
use Rattle.rt_cells.specs.declared.sources.Reader.{Reader}
use Rattle.rt_cells.specs.declared.sources.Reader.TheVariants as reader
use Rattle.rt_cells.specs.declared.sources.Target.{Target}
use Rattle.rt_cells.specs.Orders.{source_cmp}
use Rattle.rt_cells.specs.Held.{held_at, entered, without, written, numbers_of, without_scope}
use Rattle.rt_cells.specs.Reads.{in_order, reads_of, with_reads, without_reader, without_contexts}

-- All that is kept. Numbers and readers ascend.
pub record State (V : Type 0) : Type 0 where
  -- the cells by number, each with the scope that owns it and its value
  pub cells : List (ℕ × Held V)
  pub next_cell : ℕ
  -- the readers that have sources, each with these, ascending and distinct
  pub reads : List (Reader × List Source)
  -- the live reactive contexts by number, each with the scope it was made for and whom it tells
  pub contexts : List (ℕ × Held Target)
  pub next_context : ℕ

module _ {V : Type 0} where
  -- Nothing is kept, and the counters stand at these numbers.
  abbrev pub started : ℕ → ℕ → State V
  started first_cell first_context = record {
    cells = [];
    next_cell = first_cell;
    reads = [];
    contexts = [];
    next_context = first_context;
  }

  -- A new cell of the scope, under the next number.
  abbrev pub cell_made : ScopeId → V → State V → State V
  cell_made owner value state = record state {
    cells = entered state.next_cell (record { owner = owner; value = value }) state.cells;
    next_cell = state.next_cell + 1;
  }

  -- A new cell of the scope, after the others, under a number that is no lower than the next one.
  abbrev pub cell_entered : ScopeId → ℕ → V → State V → State V
  cell_entered owner cell value state = record state {
    cells = state.cells ++ (cell, record { owner = owner; value = value }) ∷ [];
    next_cell = cell + 1;
  }

  -- Another value in the cell, where it is kept.
  abbrev pub cell_written : ℕ → V → State V → State V
  cell_written cell value state = record state { cells = written cell value state.cells }

  -- The cell isn't kept.
  abbrev pub cell_dropped : ℕ → State V → State V
  cell_dropped cell state = record state { cells = without cell state.cells }

  -- No cell of the scope is kept.
  abbrev pub cells_of_dropped : ScopeId → State V → State V
  cells_of_dropped owner state = record state { cells = without_scope owner state.cells }

  -- The reader has just the sources that are named.
  abbrev pub reads_set : Reader → List Source → State V → State V
  reads_set reader sources state =
      record state { reads = with_reads reader (in_order source_cmp sources) state.reads }

  -- The reader has one more source.
  abbrev pub read_added : Reader → Source → State V → State V
  read_added reader source state =
      reads_set reader (reads_of reader state.reads ++ source ∷ []) state

  -- The reader has no sources.
  abbrev pub reader_dropped : Reader → State V → State V
  reader_dropped reader state = record state { reads = without_reader reader state.reads }

  -- A new context of the scope, which tells the target, under the next number and without sources.
  abbrev pub context_made : ScopeId → Target → State V → State V
  context_made scope target state = record state {
    contexts = entered state.next_context (record { owner = scope; value = target }) state.contexts;
    next_context = state.next_context + 1;
    reads = without_reader (reader.Context state.next_context) state.reads;
  }

  -- A new context of the scope, after the others, under a number that is no lower than the next one, and without sources.
  abbrev pub context_entered : ScopeId → ℕ → Target → State V → State V
  context_entered owner number target state = record state {
    contexts = state.contexts ++ (number, record { owner = owner; value = target }) ∷ [];
    next_context = number + 1;
    reads = without_reader (reader.Context number) state.reads;
  }

  -- A change that is made where the reactive context is live, and else nothing.
  abbrev pub where_live : ℕ → (State V → State V) → State V → State V
  where_live context change state =
      elim (held_at context state.contexts) [ None ↦ state | Some _ ↦ change state ]

  -- The reactive contexts that were made for the scope are gone, with their sources.
  abbrev pub contexts_dropped : ScopeId → State V → State V
  contexts_dropped scope state = record state {
    contexts = without_scope scope state.contexts;
    reads = without_contexts (numbers_of scope state.contexts) state.reads;
  }
