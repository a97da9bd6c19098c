-- Steps, places and nodes of code as those of the model.
use Rattle.std.specs.Prelude.{ℕ, List, ◌++◌, ◌∷◌, [], map}
use Rattle.rt_model.specs.Tree as model
use Rattle.rt_model.specs.Tree.{Template, Place, inside, item, an_element, a_static_text, a_text, a_placeholder, an_empty_fragment}
use Rattle.tree_mirror.specs.Sealed.{template_of}
use Rattle.run_places.specs.declared.place.Kind.{Kind}
use Rattle.run_places.specs.declared.place.Kind.TheVariants as kinds
use Rattle.run_places.specs.declared.place.Step.{Step}
use Rattle.run_places.specs.declared.place.Step.TheVariants as steps
use Rattle.run_places.specs.declared.nodes.NodeAt.{NodeAt}

-- what kind of document node stands at a place
abbrev pub kind_of : Kind → model.Kind
kind_of kinds.Element = an_element
kind_of kinds.StaticText = a_static_text
kind_of kinds.Text = a_text
kind_of kinds.Placeholder = a_placeholder
kind_of kinds.EmptyFragment = an_empty_fragment

-- a step of a place
abbrev pub step_of : Step → model.Step
step_of (steps.Inside template path) = inside (template_of template) path
step_of (steps.Item position) = item position

-- a place
abbrev pub place_of : List Step → Place
place_of place = map step_of place

-- the place of a path in a template, below a place
abbrev pub at_path : Template → Place → List ℕ → Place
at_path whole above path = above ++ inside whole path ∷ []

-- a node with its place
abbrev pub node_of : NodeAt → Place × model.Kind
node_of n = (place_of n.place, kind_of n.kind)
