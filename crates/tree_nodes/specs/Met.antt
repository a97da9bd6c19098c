-- What a walk through a template meets, depth first, each with its path.
use Rattle.std.specs.Prelude.{ℕ, ◌+◌, List, [], ◌∷◌, ◌++◌, length, map}
use Rattle.tree_nodes.specs.declared.template.TemplateAttribute.{TemplateAttribute}
use Rattle.tree_nodes.specs.declared.template.TemplateAttribute.TheVariants.{Static, Dynamic}
use Rattle.tree_nodes.specs.declared.template.TemplateNode.{TemplateNode}
use Rattle.tree_nodes.specs.declared.template.TemplateNode.TheOpen.{TemplateNode-F}
use Rattle.tree_nodes.specs.declared.template.TemplateNode.TheFolds.{fold-TemplateNode}

-- what a walk meets: an element with its attributes and the count of its children, one of its
-- attribute slots, a text, a node slot
pub data Met : Type 0 where
  AtElement : (path : List ℕ) → (attrs : List TemplateAttribute) → (children : ℕ) → Met
  AtAttribute : (path : List ℕ) → (id : ℕ) → Met
  AtText : (path : List ℕ) → Met
  AtSlot : (path : List ℕ) → (id : ℕ) → Met

-- what is met in an attribute of the element at a path: its slot, if it is one
abbrev pub met_attr : List ℕ → TemplateAttribute → List Met
met_attr path (Static name namespace value) = []
met_attr path (Dynamic id) = AtAttribute path id ∷ []

-- the attribute slots of the element at a path
abbrev pub met_attrs : List ℕ → List TemplateAttribute → List Met
met_attrs path [] = []
met_attrs path (attr ∷ rest) = met_attr path attr ++ met_attrs path rest

-- what is met in each of several siblings below a path, of which the first has the index k
abbrev pub met_among : List (List ℕ → List Met) → List ℕ → ℕ → List Met
met_among [] path k = []
met_among (below ∷ rest) path k = below (path ++ k ∷ []) ++ met_among rest path (k + 1)

-- one level of a template: an element, its attributes, its children
abbrev pub met_step : TemplateNode-F (List ℕ → List Met) → List ℕ → List Met
met_step (TemplateNode-F.Element tag namespace attrs children) path =
    AtElement path attrs (length children) ∷ (met_attrs path attrs ++ met_among children path 0)
met_step (TemplateNode-F.Text text) path = AtText path ∷ []
met_step (TemplateNode-F.Dynamic id) path = AtSlot path id ∷ []

-- what is met in a node at a path
abbrev pub met : TemplateNode → List ℕ → List Met
met = fold-TemplateNode (List ℕ → List Met) met_step

-- what is met in a template with these roots
abbrev pub met_in : List TemplateNode → List Met
met_in roots = met_among (map met roots) [] 0
