-- A scope with another side, as the model has it.
use Rattle.std.proofs.Common.{◌≡◌, refl}
use Rattle.rt_model.specs.State as model
use Rattle.rt_model.specs.State.{with_side}
use Rattle.run_records.specs.Kept.{scope_of}
use Rattle.run_records.specs.declared.rest.Scope.{Scope}
use Rattle.run_places.specs.declared.side.Side.{Side}
use Rattle.run_places.specs.declared.side.SideName.{SideName}
use Rattle.run_places.specs.declared.side.SideName.TheVariants as sides
use Rattle.run_places.specs.Places.{side_name_of, side_of}
use Rattle.run_state.specs.Drawn.{drawn_for}
use Rattle.run_state.specs.Heights.{height_in}
use Rattle.run_state.specs.Mounts.{seatless}
use Rattle.run_state.specs.Sides.{side_put}

module _ {P C Q V H T E L : Type 0} where
  pub put_is : (name : SideName) (side : Side P C Q V H T E L) (x : Scope P C Q V H T E L)
      → scope_of (side_put name side x) ≡ with_side (scope_of x) (side_name_of name) (side_of side)
  put_is sides.Main side x = refl
  put_is sides.Children side x = refl
  put_is sides.Fallback side x = refl

  pub height_put : (name : SideName) (side : Side P C Q V H T E L) (x : Scope P C Q V H T E L) → height_in (side_put name side x) ≡ height_in x
  height_put sides.Main side x = refl
  height_put sides.Children side x = refl
  height_put sides.Fallback side x = refl

  pub seatless_put : (name : SideName) (side : Side P C Q V H T E L) (x : Scope P C Q V H T E L) → seatless (side_put name side x) ≡ seatless x
  seatless_put sides.Main side x = refl
  seatless_put sides.Children side x = refl
  seatless_put sides.Fallback side x = refl

  -- one for which the same is drawn
  pub drawn_put : (name : SideName) (side : Side P C Q V H T E L) (x : Scope P C Q V H T E L) → (side_of side).numbers ≡ (model.side_of (scope_of x) (side_name_of name)).numbers
      → drawn_for (side_put name side x) ≡ drawn_for x
  drawn_put sides.Main side x same = λ i. (same i, (side_of (x.rest).children_side).numbers, (side_of (x.rest).fallback_side).numbers)
  drawn_put sides.Children side x same = λ i. ((side_of (x.rest).main_side).numbers, same i, (side_of (x.rest).fallback_side).numbers)
  drawn_put sides.Fallback side x same = λ i. ((side_of (x.rest).main_side).numbers, (side_of (x.rest).children_side).numbers, same i)
