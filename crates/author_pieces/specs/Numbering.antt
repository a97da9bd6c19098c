-- The template of shapes: slots are numbered, and paths are noted, as they are met.
use Rattle.std.specs.Prelude.{ℕ, ◌+◌, List, [], ◌∷◌, ◌++◌, length, map, None, nat_le, if◌then◌else◌}
use Rattle.tree_nodes.specs.declared.template.TemplateParts.{TemplateParts as Template}
use Rattle.tree_nodes.specs.declared.template.TemplateAttribute.{TemplateAttribute}
use Rattle.tree_nodes.specs.declared.template.TemplateAttribute.TheVariants as attributes
use Rattle.tree_nodes.specs.declared.template.TemplateNode.{TemplateNode}
use Rattle.tree_nodes.specs.declared.template.TemplateNode.TheVariants as nodes
use Rattle.author_pieces.specs.declared.numbering.Paths.{Paths}
use Rattle.author_pieces.specs.declared.shapes.Shape.{Shape}
use Rattle.author_pieces.specs.declared.shapes.Shape.TheOpen.{Shape-F}
use Rattle.author_pieces.specs.declared.shapes.Shape.TheFolds.{fold-Shape}
use Rattle.author_pieces.specs.declared.shapes.ShapeAttribute.{ShapeAttribute}
use Rattle.author_pieces.specs.declared.shapes.ShapeAttribute.TheVariants.{Fixed, Open}

-- a step of a path is a byte: past the 256th node of a row it is that of the 256th
abbrev pub step_of : ℕ → ℕ
step_of i = if nat_le i 255 then i else 255

-- the path of the node at an index below a path
abbrev pub below : List ℕ → ℕ → List ℕ
below above i = above ++ step_of i ∷ []

-- one more before the others, which are made after it
abbrev pub after : {T : Type 0} → T × Paths → (Paths → List T × Paths) → List T × Paths
after made rest = (made.0 ∷ (rest made.1).0, (rest made.1).1)

-- an attribute of the element at a path
abbrev pub attr_at : List ℕ → ShapeAttribute → Paths → TemplateAttribute × Paths
attr_at path (Fixed name value) p = (attributes.Static name None value, p)
attr_at path Open p = (attributes.Dynamic (length p.attr_paths), record p { attr_paths = p.attr_paths ++ path ∷ [] })

-- the attributes of the element at a path
abbrev pub attrs_at : List ℕ → List ShapeAttribute → Paths → List TemplateAttribute × Paths
attrs_at path [] p = ([], p)
attrs_at path (attr ∷ rest) p = after (attr_at path attr p) (attrs_at path rest)

-- what makes a node at a path
abbrev pub Maker : Type 0
Maker = List ℕ → Paths → TemplateNode × Paths

-- the nodes of a row below a path, of which the first has the index k
abbrev pub among : List Maker → List ℕ → ℕ → Paths → List TemplateNode × Paths
among [] above k p = ([], p)
among (make ∷ rest) above k p = after (make (below above k) p) (among rest above (k + 1))

-- an element, from its attributes and its children
abbrev pub element_of : List ℕ → List TemplateAttribute → List TemplateNode × Paths → TemplateNode × Paths
element_of tag attrs kids = (nodes.Element tag None attrs kids.0, kids.1)

-- one level of a shape
abbrev pub made_step : Shape-F Maker → Maker
made_step (Shape-F.Element tag attrs kids) path p =
    element_of tag (attrs_at path attrs p).0 (among kids path 0 (attrs_at path attrs p).1)
made_step (Shape-F.Words text) path p = (nodes.Text text, p)
made_step Shape-F.Hole path p = (nodes.Dynamic (length p.node_paths), record p { node_paths = p.node_paths ++ path ∷ [] })

-- the node of a shape at a path
abbrev pub numbered : Shape → Maker
numbered = fold-Shape Maker made_step

-- no path yet
abbrev pub no_paths : Paths
no_paths = record { node_paths = []; attr_paths = [] }

-- a template of roots and the paths that were met
abbrev pub finished : List TemplateNode × Paths → Template
finished made = record { roots = made.0; node_paths = made.1.node_paths; attr_paths = made.1.attr_paths }

-- the template of these roots
unfoldable pub template_of : List Shape → Template
template_of roots = finished (among (map numbered roots) [] 0 no_paths)
