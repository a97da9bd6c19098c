-- A template's nodes at the mirror, one by one, and back again: the mirror loses nothing of a template.
use Rattle.std.proofs.Common.{ℕ, List, [], ◌∷◌, ◌≡◌, refl, sym, ap, ◌∙◌, subst, map}
use Rattle.std.specs.Prelude.{Option}
use Rattle.tree_nodes.specs.declared.template.TemplateParts.{TemplateParts as Template}
use Rattle.tree_nodes.specs.declared.template.TemplateAttribute.{TemplateAttribute}
use Rattle.tree_nodes.specs.declared.template.TemplateAttribute.TheVariants as attributes
use Rattle.tree_nodes.specs.declared.template.TemplateNode.{TemplateNode}
use Rattle.tree_nodes.specs.declared.template.TemplateNode.TheVariants as nodes
use Rattle.tree_nodes.specs.declared.template.TemplateNode.TheOpen.{TemplateNode-F}
use Rattle.tree_nodes.specs.declared.template.TemplateNode.TheViews.{out-TemplateNode, roll-TemplateNode, roll-out-TemplateNode}
use Rattle.tree_nodes.specs.declared.template.TemplateNode.TheFolds.{fold-roll-TemplateNode, ind-TemplateNode, map-TemplateNode}
use Rattle.rt_model.specs.Tree as model
use Rattle.rt_model.specs.Tree.{TemplateNodes, no_nodes, element_node, text_node, slot_node, fixed, from_slot}
use Rattle.tree_mirror.specs.Mirror as mirror
use Rattle.tree_mirror.specs.Mirror.{attribute_in, all_before, before_step}
use Rattle.tree_mirror.specs.Sealed.{node_before, nodes_of, template_of}

-- what is below a node, at the mirror
abbrev pub below : TemplateNode-F TemplateNode → TemplateNode-F (TemplateNodes → TemplateNodes)
below x = map-TemplateNode TemplateNode (TemplateNodes → TemplateNodes) node_before x

pub before_rolled : (x : TemplateNode-F TemplateNode) (rest : TemplateNodes) → node_before (roll-TemplateNode x) rest ≡ before_step (below x) rest
unfolding node_before
before_rolled x rest = ap (λ (g : TemplateNodes → TemplateNodes). g rest) (fold-roll-TemplateNode (TemplateNodes → TemplateNodes) before_step x)

pub before_out : (node : TemplateNode) (rest : TemplateNodes) → node_before node rest ≡ before_step (below (out-TemplateNode node)) rest
before_out node rest = ap (λ n. node_before n rest) (sym (roll-out-TemplateNode node)) ∙ before_rolled (out-TemplateNode node) rest

pub before_Element : (tag : List ℕ) (namespace : Option (List ℕ)) (attrs : List TemplateAttribute) (children : List TemplateNode) (rest : TemplateNodes)
    → node_before (nodes.Element tag namespace attrs children) rest ≡ element_node tag namespace (map attribute_in attrs) (nodes_of children) rest
before_Element tag namespace attrs children rest =
    ap (λ n. node_before n rest) (sym (nodes.rolls-Element tag namespace attrs children)) ∙
    before_rolled (TemplateNode-F.Element tag namespace attrs children) rest

pub before_Text : (text : List ℕ) (rest : TemplateNodes) → node_before (nodes.Text text) rest ≡ text_node text rest
before_Text text rest = ap (λ n. node_before n rest) (sym (nodes.rolls-Text text)) ∙ before_rolled (TemplateNode-F.Text text) rest

pub before_Dynamic : (id : ℕ) (rest : TemplateNodes) → node_before (nodes.Dynamic id) rest ≡ slot_node id rest
before_Dynamic id rest = ap (λ n. node_before n rest) (sym (nodes.rolls-Dynamic id)) ∙ before_rolled (TemplateNode-F.Dynamic id) rest

-- back from the mirror

abbrev attribute_back : model.TemplateAttribute → TemplateAttribute
attribute_back (fixed name namespace value) = attributes.Static name namespace value
attribute_back (from_slot id) = attributes.Dynamic id

abbrev nodes_back : TemplateNodes → List TemplateNode
nodes_back no_nodes = []
nodes_back (element_node tag namespace attrs children rest) = nodes.Element tag namespace (map attribute_back attrs) (nodes_back children) ∷ nodes_back rest
nodes_back (text_node text rest) = nodes.Text text ∷ nodes_back rest
nodes_back (slot_node id rest) = nodes.Dynamic id ∷ nodes_back rest

attributes-back : (attrs : List TemplateAttribute) → map attribute_back (map attribute_in attrs) ≡ attrs
attributes-back [] = refl
attributes-back (attributes.Static name namespace value ∷ attrs) = ap (λ rest. attributes.Static name namespace value ∷ rest) (attributes-back attrs)
attributes-back (attributes.Dynamic id ∷ attrs) = ap (λ rest. attributes.Dynamic id ∷ rest) (attributes-back attrs)

-- a node comes back, before those that come after it
abbrev Back : TemplateNode → Type 0
Back node = (rest : TemplateNodes) → nodes_back (node_before node rest) ≡ node ∷ nodes_back rest

-- nodes, each of which comes back
abbrev Backs : Type 0
Backs = (node : TemplateNode) × Back node

all-back : (es : List Backs) → nodes_back (all_before (map node_before (map (λ e. e.0) es)) no_nodes) ≡ map (λ e. e.0) es
all-back [] = refl
all-back (e ∷ es) = e.1 (all_before (map node_before (map (λ x. x.0) es)) no_nodes) ∙ ap (λ ns. e.0 ∷ ns) (all-back es)

abbrev rolled : TemplateNode-F TemplateNode → TemplateNode
rolled (TemplateNode-F.Element tag namespace attrs children) = nodes.Element tag namespace attrs children
rolled (TemplateNode-F.Text text) = nodes.Text text
rolled (TemplateNode-F.Dynamic id) = nodes.Dynamic id

rolled-is : (x : TemplateNode-F TemplateNode) → rolled x ≡ roll-TemplateNode x
rolled-is (TemplateNode-F.Element tag namespace attrs children) = sym (nodes.rolls-Element tag namespace attrs children)
rolled-is (TemplateNode-F.Text text) = sym (nodes.rolls-Text text)
rolled-is (TemplateNode-F.Dynamic id) = sym (nodes.rolls-Dynamic id)

abbrev bare : TemplateNode-F Backs → TemplateNode-F TemplateNode
bare y = map-TemplateNode Backs TemplateNode (λ e. e.0) y

level-back : (y : TemplateNode-F Backs) (rest : TemplateNodes) → nodes_back (before_step (below (bare y)) rest) ≡ rolled (bare y) ∷ nodes_back rest
level-back (TemplateNode-F.Element tag namespace attrs children) rest =
    ap (λ given. nodes.Element tag namespace given (nodes_back (all_before (map node_before (map (λ e. e.0) children)) no_nodes)) ∷ nodes_back rest) (attributes-back attrs) ∙
    ap (λ ns. nodes.Element tag namespace attrs ns ∷ nodes_back rest) (all-back children)
level-back (TemplateNode-F.Text text) rest = refl
level-back (TemplateNode-F.Dynamic id) rest = refl

node-back : (node : TemplateNode) → Back node
node-back =
    ind-TemplateNode Back (λ x y is rest.
    ap nodes_back (before_rolled x rest) ∙
    subst (λ z. nodes_back (before_step (below z) rest) ≡ rolled z ∷ nodes_back rest) is (level-back y rest) ∙
    ap (λ n. n ∷ nodes_back rest) (rolled-is x))

roots-back : (roots : List TemplateNode) → nodes_back (nodes_of roots) ≡ roots
roots-back [] = refl
roots-back (n ∷ ns) = node-back n (nodes_of ns) ∙ ap (λ rest. n ∷ rest) (roots-back ns)

-- the template that a template of the model came from
abbrev pub template_back : model.Template → Template
template_back u = record { roots = nodes_back u.roots; node_paths = u.node_paths; attr_paths = u.attribute_paths }

pub template-back : (u : Template) → template_back (template_of u) ≡ u
template-back u = ap (λ roots. record u { roots = roots }) (roots-back u.roots)

-- templates that are one at the mirror are one
pub template-apart : (u v : Template) → template_of u ≡ template_of v → u ≡ v
template-apart u v h = sym (template-back u) ∙ ap template_back h ∙ template-back v

-- the sealed template is that of the mirror
pub roots-are : (roots : List TemplateNode) → nodes_of roots ≡ mirror.nodes_of roots
unfolding node_before
roots-are roots = refl
