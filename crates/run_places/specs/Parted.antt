-- The two parts of a place.
use Rattle.std.specs.Prelude.{List, [], ◌∷◌, ◌++◌, Option, Some, None}
use Rattle.run_places.specs.declared.place.Step.{Step}

-- steps, and the step below them, if there is one
abbrev pub steps_in : List Step → Option Step → List Step
steps_in above None = above
steps_in above (Some last) = above ++ last ∷ []
