-- The form of a template: what is written of its roots and paths tells it from all others.
use Rattle.std.specs.Prelude.{ℕ, List, [], ◌∷◌, ◌++◌, length, Option, None, Some, if◌then◌else◌, nat_lt}
use Rattle.tree_nodes.specs.declared.written.Form.{Form}
use Rattle.tree_nodes.specs.declared.template.TemplateAttribute.{TemplateAttribute}
use Rattle.tree_nodes.specs.declared.template.TemplateAttribute.TheVariants.{Static, Dynamic}
use Rattle.tree_nodes.specs.declared.template.TemplateNode.{TemplateNode}
use Rattle.tree_nodes.specs.declared.template.TemplateNode.TheOpen.{TemplateNode-F}
use Rattle.tree_nodes.specs.declared.template.TemplateNode.TheFolds.{fold-TemplateNode}
use Rattle.tree_nodes.specs.declared.template.TemplateParts.{TemplateParts}

-- nothing is written
abbrev pub empty_form : Form
empty_form = record { marks = []; wides = [] }

-- what is written after something else
abbrev pub form_then : Form → Form → Form
form_then first rest = record { marks = first.marks ++ rest.marks; wides = first.wides ++ rest.wides }

-- a number that fits a mark, before the rest
abbrev pub small_marked : ℕ → Form → Form
small_marked mark rest = record rest { marks = mark ∷ rest.marks }

-- one that doesn't
abbrev pub wide_marked : ℕ → Form → Form
wide_marked mark rest = record rest { marks = 255 ∷ rest.marks; wides = mark ∷ rest.wides }

-- a number, before the rest
abbrev pub marked : ℕ → Form → Form
marked mark rest = if nat_lt mark 255 then small_marked mark rest else wide_marked mark rest

-- the bytes of a text, before the rest
abbrev pub texted : List ℕ → Form → Form
texted text rest = record rest { marks = text ++ rest.marks }

-- a text with its length, before the rest
abbrev pub text_in_form : List ℕ → Form → Form
text_in_form text rest = marked (length text) (texted text rest)

-- a namespace or none, before the rest
abbrev pub space_in_form : Option (List ℕ) → Form → Form
space_in_form None rest = marked 0 rest
space_in_form (Some text) rest = marked 1 (text_in_form text rest)

-- an attribute, before the rest
abbrev pub attribute_in_form : TemplateAttribute → Form → Form
attribute_in_form (Static name namespace value) rest = marked 0 (text_in_form name (space_in_form namespace (text_in_form value rest)))
attribute_in_form (Dynamic id) rest = marked 1 (marked id rest)

-- attributes, before the rest
abbrev pub attributes_in_form : List TemplateAttribute → Form → Form
attributes_in_form [] rest = rest
attributes_in_form (a ∷ attrs) rest = attribute_in_form a (attributes_in_form attrs rest)

-- one after another, before the rest
abbrev pub all_in_form : List (Form → Form) → Form → Form
all_in_form [] rest = rest
all_in_form (f ∷ fs) rest = f (all_in_form fs rest)

-- one level of a template, before the rest
abbrev pub form_step : TemplateNode-F (Form → Form) → Form → Form
form_step (TemplateNode-F.Element tag namespace attrs children) rest =
    marked 0 (text_in_form tag (space_in_form namespace (marked (length attrs) (attributes_in_form attrs
    (marked (length children) (all_in_form children rest))))))
form_step (TemplateNode-F.Text text) rest = marked 1 (text_in_form text rest)
form_step (TemplateNode-F.Dynamic id) rest = marked 2 (marked id rest)

-- a node, before the rest
unfoldable pub node_in_form : TemplateNode → Form → Form
node_in_form = fold-TemplateNode (Form → Form) form_step

-- nodes, before the rest
abbrev pub nodes_in_form : List TemplateNode → Form → Form
nodes_in_form [] rest = rest
nodes_in_form (n ∷ ns) rest = node_in_form n (nodes_in_form ns rest)

-- roots with their count, before the rest
abbrev pub roots_in_form : List TemplateNode → Form → Form
roots_in_form roots rest = marked (length roots) (nodes_in_form roots rest)

-- paths one after another, before the rest
abbrev pub paths_in_form : List (List ℕ) → Form → Form
paths_in_form [] rest = rest
paths_in_form (p ∷ ps) rest = text_in_form p (paths_in_form ps rest)

-- paths with their count, before the rest
abbrev pub all_paths_in_form : List (List ℕ) → Form → Form
all_paths_in_form paths rest = marked (length paths) (paths_in_form paths rest)

-- the form of a template
abbrev pub form_of : TemplateParts → Form
form_of parts = roots_in_form parts.roots (all_paths_in_form parts.node_paths (all_paths_in_form parts.attr_paths empty_form))
