-- A scope with another side, or with one more number or one more child on a side.
use Rattle.std.specs.Prelude.{ℕ, true, false, nat_eq, ◌≡◌}
use Rattle.rt_model.specs.Lists.{has}
use Rattle.rt_model.specs.Tree.{Types, Place, Kind}
use Rattle.rt_model.specs.State as model
use Rattle.rt_model.specs.State.{with_side}
use Rattle.run_records.specs.Kept.{scope_of}
use Rattle.run_records.specs.declared.rest.Scope.{Scope}
use Rattle.run_places.specs.declared.side.Side.{Side}
use Rattle.run_places.specs.declared.side.SideName.{SideName}
use Rattle.run_places.specs.declared.side.SideName.TheVariants.{Main, Children, Fallback}
use Rattle.run_places.specs.Sides.{and_child, and_number}
use Rattle.run_state.specs.Mounts.{seats_in, seats_on}

module _ {P C Q V H T E L : Type 0} where
  -- a scope with another side
  abbrev pub side_put : SideName → Side P C Q V H T E L → Scope P C Q V H T E L → Scope P C Q V H T E L
  side_put Main side x = record x { rest = record (x.rest) { main_side = side } }
  side_put Children side x = record x { rest = record (x.rest) { children_side = side } }
  side_put Fallback side x = record x { rest = record (x.rest) { fallback_side = side } }

  -- no child but this one stands on the sides of a scope that didn't stand there before
  pub record OneSeat (child : ℕ) (old new : Scope P C Q V H T E L) : Type 0 where
    pub stood : (t : ℕ) → nat_eq child t ≡ false → has (seats_in (scope_of new)) t ≡ true → has (seats_in (scope_of old)) t ≡ true

module _ {K : Types} where
  -- one more number, after the others of the side
  abbrev pub more_number : model.SideName → Place × Kind × ℕ → model.Scope K → model.Scope K
  more_number side n x = with_side x side (and_number (model.side_of x side) n)

  -- one more child, after the others of the side
  abbrev pub more_child : model.SideName → Place × ℕ → model.Scope K → model.Scope K
  more_child side c x = with_side x side (and_child (model.side_of x side) c)

  -- no child stands on a side that doesn't stand on another one
  pub record FewerSeats (new old : model.Side K) : Type 0 where
    pub stood : (t : ℕ) → has (seats_on new) t ≡ true → has (seats_on old) t ≡ true
