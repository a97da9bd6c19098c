-- The way from refused work up to the root, as a look shows it.
use Rattle.std.specs.Prelude.{ℕ, zero, suc, List, [], ◌∷◌, map, Option, Some, None, option_map}
use Rattle.std.specs.Borrow.{Bor}
use Rattle.rt_model.specs.Tree.{Place}
use Rattle.rt_model.specs.State as state
use Rattle.rt_model.specs.Caused.{Way, place_of_child}
use Rattle.run_places.specs.declared.place.Step.{Step}
use Rattle.run_places.specs.declared.side.Side.{Side}
use Rattle.run_places.specs.declared.side.SideName.{SideName}
use Rattle.run_places.specs.Places.{place_of, side_name_of, side_of}
use Rattle.run_work.specs.declared.item.Item.{Item}
use Rattle.run_work.specs.declared.item.Item.TheVariants as items
use Rattle.run_shown.specs.declared.look.Look.{Look}
use Rattle.run_shown.specs.declared.way.Stop.{Stop}
use Rattle.run_shown.specs.Look.{look_below, look_parent, look_side}

-- a scope on the way
abbrev pub stop_of : Stop → ℕ × (Option state.SideName × Option Place)
stop_of x = (x.scope, (option_map side_name_of x.side, option_map place_of x.place))

-- a way
abbrev pub way_of : List Stop → Way
way_of way = map stop_of way

-- a place that was found
abbrev pub place_found : Option (Bor (List Step)) → Option Place
place_found None = None
place_found (Some place) = Some (place_of place.now)

module _ {P C Q V H T E L : Type 0} where
  -- where a child scope stands on a side, if there is one
  abbrev pub place_on_side : Option (Side P C Q V H T E L) → ℕ → Option Place
  place_on_side None s = None
  place_on_side (Some side) s = place_of_child (side_of side).children s

  -- where a scope stands on this side of its parent
  abbrev pub place_over : Look P C Q V H T E L → ℕ → Option SideName → ℕ → Option Place
  place_over look p None s = None
  place_over look p (Some name) s = place_on_side (look_side look p name) s

  -- the parent on the way, with the place where a scope stands
  abbrev pub stop_over : Look P C Q V H T E L → ℕ → ℕ → ℕ × (Option state.SideName × Option Place)
  stop_over look p s = (p, (option_map side_name_of (look_below look s), place_over look p (look_below look s) s))

  -- the scopes above one, at most n steps up
  abbrev pub above_within : Look P C Q V H T E L → ℕ → ℕ → Way
  above_within look zero s = []
  above_within look (suc n) s = elim (look_parent look s) as (λ o. Way) [ None ↦ [] | Some p ↦ stop_over look p s ∷ above_within look n p ]

  -- the same as one word
  unfoldable pub way_above : Look P C Q V H T E L → ℕ → ℕ → Way
  way_above look n s = above_within look n s

  -- from a place of a scope up to the root
  abbrev pub look_way_up : Look P C Q V H T E L → ℕ → Option state.SideName → Option Place → Way
  look_way_up look s side place = (s, (side, place)) ∷ way_above look look.scopes s

  -- the way to an item of the open work
  abbrev pub look_way : Look P C Q V H T E L → Item P C Q V H T E L → Way
  look_way look (items.Draw s side place kind) = look_way_up look s (Some (side_name_of side)) (Some (place_of place))
  look_way look (items.Make s side place component) = look_way_up look s (Some (side_name_of side)) (Some (place_of place))
  look_way look (items.Feed s side place component) = look_way_up look s (Some (side_name_of side)) (Some (place_of place))
  look_way look (items.Row b step) = look_way_up look b None None
  look_way look (items.Drop t s side) = look_way_up look s (Some (side_name_of side)) None
