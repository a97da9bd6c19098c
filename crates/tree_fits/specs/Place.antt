-- The path to a place in a template.
use Rattle.std.specs.Prelude.{ℕ, List, [], ◌∷◌, ◌++◌}
use Rattle.tree_fits.specs.declared.place.Place.{Place}
use Rattle.tree_fits.specs.declared.place.Place.TheOpen.{Place-F}
use Rattle.tree_fits.specs.declared.place.Place.TheFolds.{fold-Place}

-- one step of `path_of`
abbrev pub path_step : Place-F (List ℕ) → List ℕ
path_step Place-F.Top = []
path_step (Place-F.Below parent index) = parent.now ++ index ∷ []

-- the path to a place
abbrev pub path_of : Place → List ℕ
path_of = fold-Place (List ℕ) path_step
