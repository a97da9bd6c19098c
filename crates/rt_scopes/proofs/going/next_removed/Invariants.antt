-- The rows lead down to the scope, its children are known, and from here the way down ends where it does from its start.
use Rattle.std.proofs.Common.{◌≡◌, ◌-◌, length}
use Rattle.rt_model.specs.Removal.{first_leaf, next_removed}
use Rattle.run_state.specs.Mirror.{scopes_of, state_of}
use Rattle.rt_scopes.specs.Knowing.{IsKnown, Leads}
use Rattle.rt_scopes.proofs.going.next_removed.Given as goal

abbrev pub invariant-loop-step : goal.invariant-loop-step
invariant-loop-step g l = record {
  leads : (kept : _) → Leads (state_of kept l.state) l.known.rows.items l.leaf;
  own : (kept : _) → IsKnown (state_of kept l.state) (l.leaf, l.left);
  way : (kept : _) → first_leaf (state_of kept l.state) (length (scopes_of (l.state.rows).table) - l._step) l.leaf ≡ next_removed (state_of kept l.state) l.scope;
}
