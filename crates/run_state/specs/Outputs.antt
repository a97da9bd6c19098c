-- What is seen of a live scope from outside, by the row that was found under its number.
use Rattle.std.specs.Prelude.{Option, Some, None}
use Rattle.rt_model.specs.OneLog.{types}
use Rattle.rt_model.specs.Tree.{Types, Tree}
use Rattle.rt_model.specs.State.{Scope, side_of}
use Rattle.run_records.specs.Kept.{scope_of}
use Rattle.run_state.specs.declared.scope_state.ScopeState.{ScopeState}

module _ {P C Q V H T E L : Type 0} where
  -- the scope of the definitions that is looked at
  abbrev pub scope_seen : ScopeState P C Q V H T E L → Scope (types C Q V H T E L)
  scope_seen s = scope_of s.scope.now

module _ {K : Types} where
  -- the kept output of the side that shows
  abbrev pub shown_output : Scope K → Option (Tree K)
  shown_output x = elim x.shows [ None ↦ None | Some side ↦ (side_of x side).output ]
