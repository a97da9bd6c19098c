-- What is left to take out leads where all that there was leads.
use Rattle.std.proofs.Common.{◌≡◌, length}
use Rattle.rt_cells.specs.Held.{numbers_of, without_scope}
use Rattle.rt_cells.proofs.numbered.Numbered.remove_owned.Given as goal

abbrev pub invariant-loop-number : goal.invariant-loop-number
invariant-loop-number given state = record {
  next : state.self.next ≡ state.initial.self.next;
  others : without_scope state.owner state.self.held ≡ without_scope state.owner state.initial.self.held;
}

abbrev pub decreases-loop-number : goal.decreases-loop-number
decreases-loop-number given state = length (numbers_of state.owner state.self.held)
