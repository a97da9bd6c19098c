-- A task that holds a boundary, as the model has it.
use Rattle.std.specs.Prelude.{ℕ}
use Rattle.tree_nodes.specs.declared.error.SuspendedFuture.{SuspendedFuture}

-- its number, with that of the scope whose body waits for it
abbrev pub holder_of : SuspendedFuture → ℕ × ℕ
holder_of future = ((future.task).0, (future.origin).0)
