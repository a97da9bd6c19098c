-- Where a walk stands one step further.
use Rattle.std.proofs.Common.{ℕ, List, ◌≡◌, ap, ◌∙◌}
use Rattle.std.specs.Borrow.{Bor}
use Rattle.tree_nodes.specs.declared.template.TemplateParts.{TemplateParts as CodeTemplate}
use Rattle.tree_mirror.specs.Sealed.{template_of}
use Rattle.run_places.specs.declared.trail.Path.{Path}
use Rattle.run_places.specs.declared.trail.Trail.{Trail}
use Rattle.run_places.specs.declared.trail.Trail.TheViews.{Inside}
use Rattle.run_places.specs.Places.{at_path}
use Rattle.run_places.specs.Trails.{path_of, place_on}
use Rattle.run_places.proofs.Trails.{on_Inside}

-- at a node of a template, by its path
pub stands_below : (above : Bor Trail) (template : Bor CodeTemplate) (path : Bor Path) (whole : List ℕ) → path_of path.now ≡ whole
    → place_on (Inside above template path) ≡ at_path (template_of template.now) (place_on above.now) whole
stands_below above template path whole is = on_Inside above template path ∙ ap (λ q. at_path (template_of template.now) (place_on above.now) q) is
