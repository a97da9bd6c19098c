-- A side without a tree, a number and a child is the empty one; two scopes that stood alike are seen alike.
use Rattle.std.proofs.Common.{[], ◌≡◌, map}
use Rattle.std.specs.Prelude.{None, option_map}
use Rattle.rt_model.specs.State.{empty_side}
use Rattle.run_places.specs.declared.side.Side.{Side}
use Rattle.run_places.specs.Places.{node_of, output_of, place_of, placed, seated, side_name_of, side_of}
use Rattle.run_shown.specs.Look.{children_in, fallback_in, sight_in}
use Rattle.run_shown.specs.declared.look.Stood.{Stood}

module _ {P C Q V H T E L : Type 0} where
  pub clear_side : (side : Side P C Q V H T E L) → side.output ≡ None → side.numbers ≡ [] → side.children ≡ [] → side_of side ≡ empty_side
  clear_side side output numbers children =
      (λ k. record {
        output = output_of (output k);
        numbers = placed (map node_of side.nodes) (numbers k);
        children = seated (map place_of side.seats) (children k);
      })

  pub seen_alike : (x y : Stood P C Q V H T E L)
      → x.parent ≡ y.parent → x.height ≡ y.height → x.below ≡ y.below → x.shows ≡ y.shows
      → side_of x.main_side ≡ side_of y.main_side
      → side_of (children_in x.other_sides) ≡ side_of (children_in y.other_sides)
      → side_of (fallback_in x.other_sides) ≡ side_of (fallback_in y.other_sides)
      → sight_in x ≡ sight_in y
  seen_alike x y parent height below shows main children fallback =
      (λ k. record {
        parent = parent k;
        height = height k;
        below = side_name_of (below k);
        shows = option_map side_name_of (shows k);
        main_side = main k;
        children_side = children k;
        fallback_side = fallback k;
      })
