-- What a climb from a scope upwards looks for.
use Rattle.std.specs.Prelude.{ℕ, Bool, false, Option, Some, None}
use Rattle.rt_model.specs.Tree as tree
use Rattle.rt_model.specs.State as state
use Rattle.rt_model.specs.State.{is_side}
use Rattle.run_places.specs.declared.side.SideName.{SideName}
use Rattle.run_places.specs.Places.{side_name_of}
use Rattle.run_state.specs.declared.climbs.Sought.{Sought}
use Rattle.run_state.specs.declared.climbs.Sought.TheVariants.{ErrorBoundary, SuspenseBoundary}

module _ {K : tree.Types} where
  -- a component is sought
  abbrev pub is_sought : Sought → tree.VComponent K → Bool
  is_sought ErrorBoundary c = tree.is_error_boundary c
  is_sought SuspenseBoundary c = tree.is_suspense_boundary c

  -- a scope that was found shows the side
  abbrev pub shows_side : Option (state.Scope K) → state.SideName → Bool
  shows_side None side = false
  shows_side (Some x) side = is_side x.shows side

-- a boundary with a side of it
abbrev pub place_above : ℕ × SideName → ℕ × state.SideName
place_above p = (p.0, side_name_of p.1)
