-- Child scopes that write nothing, whatever they show.
use Rattle.std.specs.Prelude.{ℕ, ◌&&◌, ◌||◌, Bool, true, not, List, [], ◌∷◌, Option, is_none, is_some}
use Rattle.rt_model.specs.Lists.{at}
use Rattle.rt_model.specs.Tree.{Place}
use Rattle.run_shown.specs.declared.showing.Shown.{Shown}
use Rattle.run_shown.specs.declared.sides.Unit.{Unit as CodeUnit}
use Rattle.run_shown.specs.Look.{look_is_shown}
use Rattle.run_shown.specs.Touched.{is_touched}
use Rattle.run_shown.specs.Ways.{way_of}

module _ {P C Q V H T E L : Type 0} where
  -- a scope that the unit left as it was with all below it, or that shows no more and isn't on the way
  abbrev pub is_calm : CodeUnit P C Q V H T E L → ℕ → Bool
  is_calm unit t =
      not (is_touched unit.touched t && (is_some (at (way_of unit.way.now) t) || look_is_shown unit.after.now t))

  -- so are all of these children
  abbrev pub are_calm : CodeUnit P C Q V H T E L → List (ℕ × ℕ) → Bool
  are_calm unit [] = true
  are_calm unit (e ∷ es) = is_calm unit e.1 && are_calm unit es

  -- so are all children of a side, of which no place was refused
  abbrev pub is_quiet : CodeUnit P C Q V H T E L → Shown P C Q V H T E L → Option Place → Bool
  is_quiet unit old stop = is_none stop && are_calm unit (old.side.now).children
