-- The elements so far, and those of what is left, are those of the template.
use Rattle.std.proofs.Common.{◌≡◌, ◌++◌, drop, map}
use Rattle.run_places.specs.Places.{side_of}
use Rattle.run_places.specs.Trails.{place_on}
use Rattle.run_attributes.specs.Given.{entries_of, pieces_elements, template_elements}
use Rattle.run_attributes.proofs.given.elements_in.Given as goal

abbrev pub invariant-loop-piece : goal.invariant-loop-piece
invariant-loop-piece g l =
    map entries_of l.elements ++ pieces_elements (side_of l.side).numbers (place_on l.above) l.template (drop l.piece-index l.piece-items) ≡
    template_elements (side_of l.side).numbers (place_on l.above) l.template
