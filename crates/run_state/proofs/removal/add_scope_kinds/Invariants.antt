use Rattle.std.proofs.Common.{◌≡◌, drop}
use Rattle.rt_model.specs.Removal.{kinds_of_scopes}
use Rattle.run_state.specs.Mirror.{scopes_of}
use Rattle.run_state.proofs.removal.add_scope_kinds.Given as goal

abbrev pub invariant-loop-entry : goal.invariant-loop-entry
invariant-loop-entry g l = kinds_of_scopes l.scope (scopes_of (drop l.entry-index l.scopes)) l.kinds.items ≡ kinds_of_scopes l.scope (scopes_of l.scopes) l.initial.kinds.items
