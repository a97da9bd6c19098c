-- Where a walk through a tree stands, as a path and as a place.
use Rattle.std.specs.Prelude.{ℕ, List, [], ◌∷◌, ◌++◌}
use Rattle.rt_model.specs.Tree as model
use Rattle.run_places.specs.declared.place.Step.{Step}
use Rattle.run_places.specs.declared.place.Step.TheVariants as steps
use Rattle.run_places.specs.declared.trail.Path.{Path}
use Rattle.run_places.specs.declared.trail.Path.TheOpen.{Path-F}
use Rattle.run_places.specs.declared.trail.Path.TheFolds.{fold-Path}
use Rattle.run_places.specs.declared.trail.Trail.{Trail}
use Rattle.run_places.specs.declared.trail.Trail.TheOpen.{Trail-F}
use Rattle.run_places.specs.declared.trail.Trail.TheFolds.{fold-Trail}
use Rattle.run_places.specs.Places.{place_of}

-- one index of a path
abbrev pub path_step : Path-F (List ℕ) → List ℕ
path_step Path-F.Top = []
path_step (Path-F.Below up index) = up.now ++ index ∷ []
path_step (Path-F.Whole path) = path.now

-- the path to a node of a template
abbrev pub path_of : Path → List ℕ
path_of = fold-Path (List ℕ) path_step

-- one step of a place
abbrev pub trail_step : Trail-F (List Step) → List Step
trail_step Trail-F.Root = []
trail_step (Trail-F.Inside above template path) = above.now ++ steps.Inside template.now (path_of path.now) ∷ []
trail_step (Trail-F.Item above position) = above.now ++ steps.Item position ∷ []
trail_step (Trail-F.At whole) = whole.now

-- the steps to where a walk stands
abbrev pub steps_of : Trail → List Step
steps_of = fold-Trail (List Step) trail_step

-- the place where a walk stands
abbrev pub place_on : Trail → model.Place
place_on trail = place_of (steps_of trail)

-- the position of the last item among steps, or one that came before them
abbrev pub item_from : ℕ → List Step → ℕ
item_from n [] = n
item_from n (steps.Inside template path ∷ xs) = item_from n xs
item_from n (steps.Item position ∷ xs) = item_from position xs

-- the position of the last item of a place, 0 where it has none
abbrev pub last_item : List Step → ℕ
last_item place = item_from 0 place
