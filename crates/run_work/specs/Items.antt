-- Open work of code as that of the model.
use Rattle.std.specs.Prelude.{List, map}
use Rattle.rt_model.specs.OneLog.{types}
use Rattle.rt_model.specs.State as state
use Rattle.tree_mirror.specs.Sealed.{component_of}
use Rattle.run_places.specs.Places.{kind_of, place_of, side_name_of}
use Rattle.run_work.specs.declared.item.Item.{Item}
use Rattle.run_work.specs.declared.item.Item.TheVariants as items
use Rattle.run_work.specs.declared.item.RowStep.{RowStep}
use Rattle.run_work.specs.declared.item.RowStep.TheVariants as rows

-- a step of a boundary's run
abbrev pub row_step_of : RowStep → state.RowStep
row_step_of rows.PatchChildren = state.PatchChildren
row_step_of rows.MadeChildren = state.MadeChildren
row_step_of rows.RunFallback = state.RunFallback
row_step_of rows.ShowFallback = state.ShowFallback
row_step_of rows.ShowChildren = state.ShowChildren
row_step_of rows.DropFallback = state.DropFallback
row_step_of rows.Resolve = state.Resolve

module _ {P C Q V H T E L : Type 0} where
  -- an item of the open work
  abbrev pub item_of : Item P C Q V H T E L → state.Item (types C Q V H T E L)
  item_of (items.Draw s side place kind) = state.Draw s (side_name_of side) (place_of place) (kind_of kind)
  item_of (items.Row b step) = state.Row b (row_step_of step)
  item_of (items.Feed s side place component) = state.Feed s (side_name_of side) (place_of place) (component_of component)
  item_of (items.Make s side place component) = state.Make s (side_name_of side) (place_of place) (component_of component)
  item_of (items.Drop t s side) = state.Drop t s (side_name_of side)

  -- the open work
  abbrev pub work_of : List (Item P C Q V H T E L) → List (state.Item (types C Q V H T E L))
  work_of work = map item_of work
