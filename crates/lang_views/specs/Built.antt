-- Templates that are built node by node, with their paths.
use Rattle.std.specs.Prelude.{◌≡◌, ◌++◌, ◌∷◌, [], ◌+◌, ℕ, List, length}
use Rattle.rt_model.specs.Tree.{TemplateAttribute, TemplateNodes, no_nodes, element_node, text_node, slot_node, paths_of, slots_among}
use Rattle.rt_language.specs.Syntax.{View, ViewAttribute}
use Rattle.rt_language.specs.Views.{step_of, template_nodes, template_attributes}
use Rattle.lang_views.specs.declared.templates.Paths.{Paths}

-- the paths of the node slots in a row below a path, whose first node has this place
abbrev pub paths_below : List ℕ → ℕ → TemplateNodes → List (List ℕ)
paths_below up i no_nodes = []
paths_below up i (element_node tag namespace attributes children rest) =
    paths_below (up ++ step_of i ∷ []) 0 children ++ paths_below up (i + 1) rest
paths_below up i (text_node text rest) = paths_below up (i + 1) rest
paths_below up i (slot_node k rest) = (up ++ step_of i ∷ []) ∷ paths_below up (i + 1) rest

-- the paths of the attribute slots there
abbrev pub attribute_paths_below : List ℕ → ℕ → TemplateNodes → List (List ℕ)
attribute_paths_below up i no_nodes = []
attribute_paths_below up i (element_node tag namespace attributes children rest) =
    paths_of (slots_among attributes (up ++ step_of i ∷ []))
    ++ (attribute_paths_below (up ++ step_of i ∷ []) 0 children ++ attribute_paths_below up (i + 1) rest)
attribute_paths_below up i (text_node text rest) = attribute_paths_below up (i + 1) rest
attribute_paths_below up i (slot_node k rest) = attribute_paths_below up (i + 1) rest

-- the nodes that a view gives, numbered after those so far
abbrev pub numbered : Paths → View → TemplateNodes
numbered p view = template_nodes (length p.node_paths) (length p.attr_paths) view

-- the attributes that follow, numbered after those so far
abbrev pub numbered_attributes : Paths → List ViewAttribute → List TemplateAttribute
numbered_attributes p attributes = template_attributes (length p.attr_paths) attributes

-- one attribute is built, before those that come after it
pub record AttributeBuilt (before after : Paths) (attribute : ViewAttribute) (made : TemplateAttribute) : Type 0 where
  pub stands : (rest : List ViewAttribute) → numbered_attributes before (attribute ∷ rest) ≡ made ∷ numbered_attributes after rest
  pub paths : (rest : List TemplateAttribute) → before.attr_paths ++ paths_of (slots_among (made ∷ rest) before.path) ≡ after.attr_paths
      ++ paths_of (slots_among rest before.path)
  pub node_paths : after.node_paths ≡ before.node_paths
  pub path : after.path ≡ before.path

-- the attributes of an element are built
pub record AttributesBuilt (before after : Paths) (attributes : List ViewAttribute) (made : List TemplateAttribute) : Type 0 where
  pub stand : numbered_attributes before attributes ≡ made
  pub paths : after.attr_paths ≡ before.attr_paths ++ paths_of (slots_among made before.path)
  pub node_paths : after.node_paths ≡ before.node_paths
  pub path : after.path ≡ before.path

-- one node is built, before those that come after it
pub record NodeBuilt (before after : Paths) (node : View → View) (made : TemplateNodes → TemplateNodes) : Type 0 where
  pub nodes : (rest : View) → numbered before (node rest) ≡ made (numbered after rest)
  pub node_paths : (up : List ℕ) (i : ℕ) → before.path ≡ up ++ step_of i ∷ [] → (rest : TemplateNodes)
      → before.node_paths ++ paths_below up i (made rest) ≡ after.node_paths ++ paths_below up (i + 1) rest
  pub attribute_paths : (up : List ℕ) (i : ℕ) → before.path ≡ up ++ step_of i ∷ [] → (rest : TemplateNodes)
      → before.attr_paths ++ attribute_paths_below up i (made rest) ≡ after.attr_paths ++ attribute_paths_below up (i + 1) rest
  pub path : after.path ≡ before.path

-- a row of nodes is built below the present path
pub record RowBuilt (before after : Paths) (view : View) (made : TemplateNodes) : Type 0 where
  pub nodes : numbered before view ≡ made
  pub node_paths : after.node_paths ≡ before.node_paths ++ paths_below before.path 0 made
  pub attribute_paths : after.attr_paths ≡ before.attr_paths ++ attribute_paths_below before.path 0 made
  pub path : after.path ≡ before.path
