-- What is left to drop leads where all that there was leads.
use Rattle.std.proofs.Common.{◌≡◌, ℕ, [], length, cond, nat_eq, None}
use Rattle.std.specs.List.{list_any}
use Rattle.rt_values.specs.declared.names.ScopeId.{ScopeId}
use Rattle.rt_cells.specs.declared.sources.Reader.TheVariants as reader
use Rattle.rt_cells.specs.Held.{held_at, numbers_of, without_scope}
use Rattle.rt_cells.specs.Reads.{reads_of, without_contexts}
use Rattle.rt_cells.proofs.cells.Cells.drop_contexts.Given as goal

abbrev pub invariant-loop-number : goal.invariant-loop-number
invariant-loop-number given state = record {
  cells : state.self-inside.cells ≡ state.initial.self-inside.cells;
  next : state.self-inside.contexts.next ≡ state.initial.self-inside.contexts.next;
  others : without_scope state.owner state.self-inside.contexts.held ≡ without_scope state.owner state.initial.self-inside.contexts.held;
  reads : without_contexts (numbers_of state.owner state.self-inside.contexts.held) state.self-inside.reads
      ≡ without_contexts (numbers_of state.owner state.initial.self-inside.contexts.held) state.initial.self-inside.reads;
  scopes : (scope : ScopeId) → reads_of (reader.Scope scope) state.self-inside.reads ≡ reads_of (reader.Scope scope) state.initial.self-inside.reads;
  each : (number : ℕ) → cond (list_any (nat_eq number) (numbers_of state.owner state.self-inside.contexts.held)) [] (reads_of (reader.Context number) state.self-inside.reads)
      ≡ cond (list_any (nat_eq number) (numbers_of state.owner state.initial.self-inside.contexts.held)) [] (reads_of (reader.Context number) state.initial.self-inside.reads);
  left : (number : ℕ) → cond (list_any (nat_eq number) (numbers_of state.owner state.self-inside.contexts.held)) None (held_at number state.self-inside.contexts.held)
      ≡ cond (list_any (nat_eq number) (numbers_of state.owner state.initial.self-inside.contexts.held)) None (held_at number state.initial.self-inside.contexts.held);
}

abbrev pub decreases-loop-number : goal.decreases-loop-number
decreases-loop-number given state = length (numbers_of state.owner state.self-inside.contexts.held)
