-- The edits so far were taken, and with those that are left they are all.
use Rattle.std.proofs.Common.{◌≡◌, ◌≤◌, ◌++◌, List, length, drop}
use Rattle.rt_edits.specs.Sinks.{grown}
use Rattle.rt_edits.specs.declared.edit.Edit.{Edit}
use Rattle.run_outside.specs.Ends.{Took}
use Rattle.run_outside.proofs.writing.write_edits.Given as goal

abbrev pub invariant-loop-edit : goal.invariant-loop-edit
invariant-loop-edit g l =
    Took (g.M.WriteMutations.taken l.fn.sink) (g.M.WriteMutations.taken l.sink) (g.M.WriteMutations.faults l.fn.sink) (g.M.WriteMutations.faults l.sink) l.edit-index
    ×
    (l.edit-index ≤ length l.edits)
    ×
    ((front : List Edit) × (front ++ drop l.edit-index l.edits ≡ l.edits) × (g.M.WriteMutations.taken l.sink ≡ grown (g.M.WriteMutations.taken l.fn.sink) front))
