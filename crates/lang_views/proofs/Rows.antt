-- Templates that are built node by node, with the paths of their slots.
use Rattle.std.proofs.Common.{ℕ, List, [], ◌∷◌, ◌++◌, ◌≡◌, refl, sym, ap, subst, ◌∙◌, map, ◌+◌, length, arith}
use Rattle.std.proofs.lemmas.List.{append_assoc}
use Rattle.std.specs.Prelude.{Option, Some, None, MatchOption}
use Rattle.rt_lemmas.proofs.Lists.{map_append, one_longer, length_append}
use Rattle.tree_nodes.specs.declared.template.TemplateAttribute as code
use Rattle.tree_nodes.specs.declared.template.TemplateNode.{TemplateNode}
use Rattle.tree_nodes.specs.declared.template.TemplateNode.TheVariants as made
use Rattle.rt_model.specs.Tree.{Template, TemplateAttribute, fixed, from_slot, TemplateNodes, no_nodes, element_node, text_node, slot_node, paths_of, node_slots, attribute_slots, slots_among}
use Rattle.tree_mirror.specs.Mirror.{attribute_in, all_before}
use Rattle.tree_mirror.specs.Sealed as mirror
use Rattle.tree_mirror.proofs.SealedNodes.{before_Element, before_Text, before_Dynamic}
use Rattle.rt_language.specs.Syntax as language
use Rattle.rt_language.specs.Syntax.{View, NoViews, TextView, ElementView, SlotView, StaticAttribute, SlotAttribute, ListenerAttribute}
use Rattle.rt_language.specs.Views.{own_slots, attribute_slots_of, node_slots_of, step_of, in_bytes, template_attributes, template_nodes, template_in_bytes}
use Rattle.lang_syntax.specs.Mirror as source
use Rattle.lang_syntax.specs.Mirror.{node_before, view_of}
use Rattle.lang_syntax.specs.declared.view.ViewAttribute.{ViewAttribute}
use Rattle.lang_syntax.specs.declared.view.ViewNode.{ViewNode}
use Rattle.lang_syntax.specs.declared.view.ViewNode.TheVariants as nodes
use Rattle.lang_syntax.specs.declared.view.ViewSlot.{ViewSlot}
use Rattle.lang_views.specs.Built.{paths_below, attribute_paths_below, numbered, numbered_attributes, AttributeBuilt, AttributesBuilt, NodeBuilt, RowBuilt}
use Rattle.lang_views.specs.Meant.{slot_of}
use Rattle.lang_views.specs.declared.templates.Paths.{Paths}
use Rattle.lang_views.proofs.Nodes.{node-Text, node-Element, node-Slot}
use Rattle.lang_views.proofs.Taken.{append_nil}

-- how many paths there are

paths-append : (xs ys : List (ℕ × List ℕ)) → paths_of (xs ++ ys) ≡ paths_of xs ++ paths_of ys
paths-append [] ys = refl
paths-append (x ∷ xs) ys = ap (λ zs. x.1 ∷ zs) (paths-append xs ys)

own_count : (a : ℕ) (given : List language.ViewAttribute) (path : List ℕ) → length (paths_of (slots_among (template_attributes a given) path)) ≡ own_slots given
own_count a [] path = refl
own_count a (StaticAttribute name value ∷ rest) path = own_count a rest path
own_count a (SlotAttribute name value ∷ rest) path = let more = own_count (a + 1) rest path in omega (arith, more)
own_count a (ListenerAttribute name action arguments ∷ rest) path = let more = own_count (a + 1) rest path in omega (arith, more)

node_count : (n a : ℕ) (view : View) (up : List ℕ) (i : ℕ) → length (paths_below up i (template_nodes n a view)) ≡ node_slots_of view
node_count n a NoViews up i = refl
node_count n a (TextView text rest) up i = node_count n a rest up (i + 1)
node_count n a (ElementView tag namespace given kids rest) up i =
    let xs = paths_below (up ++ step_of i ∷ []) 0 (template_nodes n (a + own_slots given) kids) in
    let ys = paths_below up (i + 1) (template_nodes (n + node_slots_of kids) (a + (own_slots given + attribute_slots_of kids)) rest) in
    let below = node_count n (a + own_slots given) kids (up ++ step_of i ∷ []) 0 in
    let after = node_count (n + node_slots_of kids) (a + (own_slots given + attribute_slots_of kids)) rest up (i + 1) in
    length_append xs ys ∙ (λ j. below j + after j)
node_count n a (SlotView slot rest) up i = let more = node_count (n + 1) a rest up (i + 1) in omega (arith, more)

attribute_count : (n a : ℕ) (view : View) (up : List ℕ) (i : ℕ) → length (attribute_paths_below up i (template_nodes n a view)) ≡ attribute_slots_of view
attribute_count n a NoViews up i = refl
attribute_count n a (TextView text rest) up i = attribute_count n a rest up (i + 1)
attribute_count n a (ElementView tag namespace given kids rest) up i =
    let os = paths_of (slots_among (template_attributes a given) (up ++ step_of i ∷ [])) in
    let xs = attribute_paths_below (up ++ step_of i ∷ []) 0 (template_nodes n (a + own_slots given) kids) in
    let ys = attribute_paths_below up (i + 1) (template_nodes (n + node_slots_of kids) (a + (own_slots given + attribute_slots_of kids)) rest) in
    let own = own_count a given (up ++ step_of i ∷ []) in
    let below = attribute_count n (a + own_slots given) kids (up ++ step_of i ∷ []) 0 in
    let after = attribute_count (n + node_slots_of kids) (a + (own_slots given + attribute_slots_of kids)) rest up (i + 1) in
    length_append os (xs ++ ys) ∙ ap (λ (k : ℕ). length os + k) (length_append xs ys) ∙
    (λ j. own j + (below j + after j))
attribute_count n a (SlotView slot rest) up i = attribute_count (n + 1) a rest up (i + 1)

-- attributes

-- an attribute that stands in the template
pub static-built : (p : Paths) (given : ViewAttribute) (name value : List ℕ) (attribute : TemplateAttribute) → source.attribute_of given ≡ StaticAttribute name value
    → attribute ≡ fixed name None value
    → AttributeBuilt p p (source.attribute_of given) attribute
static-built p given name value attribute is made =
    record {
      stands = λ rest. ap (λ a. numbered_attributes p (a ∷ rest)) is ∙ ap (λ a. a ∷ numbered_attributes p rest) (sym made);
      paths = λ rest. ap (λ a. p.attr_paths ++ paths_of (slots_among (a ∷ rest) p.path)) made;
      node_paths = refl;
      path = refl;
    }

-- an attribute slot
slot_built : (before after : Paths) (given : language.ViewAttribute) (attribute : TemplateAttribute)
    → ((rest : List language.ViewAttribute) → numbered_attributes before (given ∷ rest) ≡ from_slot (length before.attr_paths) ∷ template_attributes (length before.attr_paths + 1) rest)
    → attribute ≡ from_slot (length before.attr_paths)
    → after ≡ record before { attr_paths = before.attr_paths ++ before.path ∷ [] }
    → AttributeBuilt before after given attribute
slot_built before after given attribute shape made is =
    record {
      stands = λ rest.
          shape rest ∙
          (λ i. sym made i ∷ template_attributes (sym (ap (λ (p : Paths). length p.attr_paths) is ∙ one_longer before.attr_paths before.path) i) rest);
      paths = λ rest.
          ap (λ a. before.attr_paths ++ paths_of (slots_among (a ∷ rest) before.path)) made ∙
          sym (append_assoc before.attr_paths (before.path ∷ []) (paths_of (slots_among rest before.path))) ∙
          ap (λ (p : Paths). p.attr_paths ++ paths_of (slots_among rest before.path)) (sym is);
      node_paths = ap (λ (p : Paths). p.node_paths) is;
      path = ap (λ (p : Paths). p.path) is;
    }

pub slot-built : (before after : Paths) (given : ViewAttribute) (name : List ℕ) (value : language.Expression) (attribute : TemplateAttribute) → source.attribute_of given ≡ SlotAttribute name value
    → attribute ≡ from_slot (length before.attr_paths)
    → after ≡ record before { attr_paths = before.attr_paths ++ before.path ∷ [] }
    → AttributeBuilt before after (source.attribute_of given) attribute
slot-built before after given name value attribute is made step =
    slot_built before after (source.attribute_of given) attribute (λ rest. ap (λ a. numbered_attributes before (a ∷ rest)) is) made step

pub listener-built : (before after : Paths) (given : ViewAttribute) (name : List ℕ) (action : ℕ) (arguments : language.Expressions) (attribute : TemplateAttribute) → source.attribute_of given ≡ ListenerAttribute name action arguments
    → attribute ≡ from_slot (length before.attr_paths)
    → after ≡ record before { attr_paths = before.attr_paths ++ before.path ∷ [] }
    → AttributeBuilt before after (source.attribute_of given) attribute
listener-built before after given name action arguments attribute is made step =
    slot_built before after (source.attribute_of given) attribute (λ rest. ap (λ a. numbered_attributes before (a ∷ rest)) is) made step

-- nodes

-- by another name for the node and for what is made
renamed : (before after : Paths) (f g : View → View) (h k : TemplateNodes → TemplateNodes)
    → ((rest : View) → f rest ≡ g rest) → ((rest : TemplateNodes) → h rest ≡ k rest) → NodeBuilt before after f h → NodeBuilt before after g k
renamed before after f g h k same alike built =
    subst (λ (x : View → View). NodeBuilt before after x k) (λ i rest. same rest i)
    (subst (λ (y : TemplateNodes → TemplateNodes). NodeBuilt before after f y) (λ i rest. alike rest i) built)

pub text-built : (p : Paths) (node : ViewNode) (text : List ℕ) (m : TemplateNode) → node ≡ nodes.Text text → m ≡ made.Text text
    → NodeBuilt p p (node_before node) (mirror.node_before m)
text-built p node text m is copied =
    renamed p p (λ rest. TextView text rest) (node_before node) (λ rest. text_node text rest) (mirror.node_before m)
    (λ rest. sym (ap (λ n. node_before n rest) is ∙ node-Text text rest))
    (λ rest. sym (ap (λ n. mirror.node_before n rest) copied ∙ before_Text text rest))
    (record { nodes = λ rest. refl; node_paths = λ up i at rest. refl; attribute_paths = λ up i at rest. refl; path = refl })

pub hole-built : (before after : Paths) (node : ViewNode) (slot : ViewSlot) (m : TemplateNode) → node ≡ nodes.Slot slot → m ≡ made.Dynamic (length before.node_paths)
    → after ≡ record before { node_paths = before.node_paths ++ before.path ∷ [] }
    → NodeBuilt before after (node_before node) (mirror.node_before m)
hole-built before after node slot m is numbering step =
    renamed before after (λ rest. SlotView (slot_of slot) rest) (node_before node) (λ rest. slot_node (length before.node_paths) rest) (mirror.node_before m)
    (λ rest. sym (ap (λ n. node_before n rest) is ∙ node-Slot slot rest))
    (λ rest. sym (ap (λ n. mirror.node_before n rest) numbering ∙ before_Dynamic (length before.node_paths) rest))
    (record {
      nodes = λ rest i. slot_node (length before.node_paths) (template_nodes (sym (ap (λ (p : Paths). length p.node_paths) step ∙ one_longer before.node_paths before.path) i) (length (sym step i).attr_paths) rest);
      node_paths = λ up i at rest.
          ap (λ path. before.node_paths ++ path ∷ paths_below up (i + 1) rest) (sym at) ∙
          sym (append_assoc before.node_paths (before.path ∷ []) (paths_below up (i + 1) rest)) ∙
          ap (λ (p : Paths). p.node_paths ++ paths_below up (i + 1) rest) (sym step);
      attribute_paths = λ up i at rest. ap (λ (p : Paths). p.attr_paths ++ attribute_paths_below up (i + 1) rest) (sym step);
      path = ap (λ (p : Paths). p.path) step;
    })

element_built : (before p after : Paths) (tag : List ℕ) (namespace : Option (List ℕ)) (given : List language.ViewAttribute) (kids : View) (attrs : List TemplateAttribute) (children : TemplateNodes)
    → AttributesBuilt before p given attrs → RowBuilt p after kids children
    → NodeBuilt before after (λ rest. ElementView tag namespace given kids rest) (λ rest. element_node tag namespace attrs children rest)
element_built before p after tag namespace given kids attrs children own row =
    let n = length before.node_paths in
    let a = length before.attr_paths in
    let own_is : length p.attr_paths ≡ a + own_slots given =
    ap length own.paths ∙ length_append before.attr_paths (paths_of (slots_among attrs before.path)) ∙
    ap (λ (k : ℕ). a + k) (ap (λ ts. length (paths_of (slots_among ts before.path))) (sym own.stand) ∙ own_count a given before.path) in
    let node_is : length p.node_paths ≡ n = ap length own.node_paths in
    let below_nodes : length after.node_paths ≡ n + node_slots_of kids =
    ap length row.node_paths ∙ length_append p.node_paths (paths_below p.path 0 children) ∙
    (λ j. node_is j + (ap (λ ts. length (paths_below p.path 0 ts)) (sym row.nodes) ∙ node_count (length p.node_paths) (length p.attr_paths) kids p.path 0) j) in
    let below_attributes : length after.attr_paths ≡ a + own_slots given + attribute_slots_of kids =
    ap length row.attribute_paths ∙ length_append p.attr_paths (attribute_paths_below p.path 0 children) ∙
    (λ j. own_is j + (ap (λ ts. length (attribute_paths_below p.path 0 ts)) (sym row.nodes) ∙ attribute_count (length p.node_paths) (length p.attr_paths) kids p.path 0) j) in
    let all_attributes : a + (own_slots given + attribute_slots_of kids) ≡ length after.attr_paths = omega (arith, below_attributes) in
    let inner : template_nodes n (a + own_slots given) kids ≡ children = (λ j. template_nodes (sym node_is j) (sym own_is j) kids) ∙ row.nodes in
    record {
      nodes = λ rest j. element_node tag namespace (own.stand j) (inner j) (template_nodes (sym below_nodes j) (all_attributes j) rest);
      node_paths = λ up i at rest.
          let xs = paths_below (up ++ step_of i ∷ []) 0 children in
          let ys = paths_below up (i + 1) rest in
          let grown : after.node_paths ≡ before.node_paths ++ xs =
          row.node_paths ∙ (λ j. own.node_paths j ++ paths_below ((own.path ∙ at) j) 0 children) in
          sym (append_assoc before.node_paths xs ys) ∙ ap (λ zs. zs ++ ys) (sym grown);
      attribute_paths = λ up i at rest.
          let os = paths_of (slots_among attrs (up ++ step_of i ∷ [])) in
          let xs = attribute_paths_below (up ++ step_of i ∷ []) 0 children in
          let ys = attribute_paths_below up (i + 1) rest in
          let first : p.attr_paths ≡ before.attr_paths ++ os = own.paths ∙ ap (λ path. before.attr_paths ++ paths_of (slots_among attrs path)) at in
          let grown : after.attr_paths ≡ (before.attr_paths ++ os) ++ xs =
          row.attribute_paths ∙ (λ j. first j ++ attribute_paths_below ((own.path ∙ at) j) 0 children) in
          sym (append_assoc before.attr_paths os (xs ++ ys)) ∙
          sym (append_assoc (before.attr_paths ++ os) xs ys) ∙
          ap (λ zs. zs ++ ys) (sym grown);
      path = row.path ∙ own.path;
    }

pub element-built : (before p after : Paths) (node : ViewNode) (tag : List ℕ) (namespace : Option (List ℕ)) (given : List ViewAttribute) (kids : List ViewNode) (attrs : List code.TemplateAttribute) (children : List TemplateNode) (m : TemplateNode)
    → node ≡ nodes.Element tag namespace given kids → m ≡ made.Element tag namespace attrs children
    → AttributesBuilt before p (map source.attribute_of given) (map attribute_in attrs)
    → RowBuilt p after (view_of kids) (mirror.nodes_of children)
    → NodeBuilt before after (node_before node) (mirror.node_before m)
element-built before p after node tag namespace given kids attrs children m is copied own row =
    let shape : (rest : View) → node_before node rest ≡ ElementView tag namespace (map source.attribute_of given) (view_of kids) rest =
    λ rest. ap (λ n. node_before n rest) is ∙ node-Element tag namespace given kids rest in
    renamed before after (λ rest. ElementView tag namespace (map source.attribute_of given) (view_of kids) rest) (node_before node)
    (λ rest. element_node tag namespace (map attribute_in attrs) (mirror.nodes_of children) rest) (mirror.node_before m)
    (λ rest. sym (shape rest))
    (λ rest. sym (ap (λ n. mirror.node_before n rest) copied ∙ before_Element tag namespace attrs children rest))
    (element_built before p after tag namespace (map source.attribute_of given) (view_of kids) (map attribute_in attrs) (mirror.nodes_of children) own row)

-- rows of nodes

-- a row as far as it is built: what is left gives the rest
pub record RowSoFar (first now : Paths) (whole left : View) (there : List TemplateNode) (i : ℕ) : Type 0 where
  pub nodes : all_before (map mirror.node_before there) (numbered now left) ≡ numbered first whole
  pub node_paths : now.node_paths ++ paths_below first.path i (numbered now left) ≡ first.node_paths ++ paths_below first.path 0 (numbered first whole)
  pub attribute_paths : now.attr_paths ++ attribute_paths_below first.path i (numbered now left) ≡ first.attr_paths ++ attribute_paths_below first.path 0 (numbered first whole)
  pub path : now.path ≡ first.path

pub row-start : (first : Paths) (whole : View) → RowSoFar first first whole whole [] 0
row-start first whole = record { nodes = refl; node_paths = refl; attribute_paths = refl; path = refl }

before_one : (there : List TemplateNode) (m : TemplateNode) (rest : TemplateNodes)
    → all_before (map mirror.node_before (there ++ m ∷ [])) rest ≡ all_before (map mirror.node_before there) (mirror.node_before m rest)
before_one [] m rest = refl
before_one (t ∷ there) m rest = ap (λ ns. mirror.node_before t ns) (before_one there m rest)

-- lists with one item put on end alike
fronts : (xs ys : List ℕ) (x y : ℕ) → xs ++ x ∷ [] ≡ ys ++ y ∷ [] → xs ≡ ys
fronts [] [] x y h = refl
fronts [] (b ∷ []) x y h = cc
fronts [] (b ∷ (c ∷ ys)) x y h = cc
fronts (a ∷ []) [] x y h = cc
fronts (a ∷ (b ∷ xs)) [] x y h = cc
fronts (a ∷ xs) (b ∷ ys) x y h =
    let heads : a ≡ b = cc in
    let tails : xs ++ x ∷ [] ≡ ys ++ y ∷ [] = cc in
    λ i. heads i ∷ fronts xs ys x y tails i

not_empty : (xs : List ℕ) (x : ℕ) → xs ++ x ∷ [] ≡ [] → ⊥
not_empty [] x h = cc
not_empty (y ∷ xs) x h = cc

-- what is left once the last item is off
pub popped : (last : Option ℕ) (before after front : List ℕ) (x : ℕ) → MatchOption last ((before ≡ []) × (after ≡ [])) (λ y. before ≡ after ++ y ∷ [])
    → before ≡ front ++ x ∷ [] → after ≡ front
popped None before after front x none was = absurd (not_empty front x (sym was ∙ none.0))
popped (Some y) before after front x taken was = sym (fronts front after x y (sym was ∙ taken))

-- one more node
pub row-more : (first p q r s : Paths) (whole rest : View) (node : ViewNode) (there longer : List TemplateNode) (m : TemplateNode) (i : ℕ)
    → q.node_paths ≡ p.node_paths → q.attr_paths ≡ p.attr_paths → q.path ≡ p.path ++ step_of i ∷ []
    → NodeBuilt q r (node_before node) (mirror.node_before m)
    → s.node_paths ≡ r.node_paths → s.attr_paths ≡ r.attr_paths → (r.path ≡ first.path ++ step_of i ∷ [] → s.path ≡ first.path)
    → longer ≡ there ++ m ∷ []
    → RowSoFar first p whole (node_before node rest) there i
    → RowSoFar first s whole rest longer (i + 1)
row-more first p q r s whole rest node there longer m i q_nodes q_attributes q_path built s_nodes s_attributes off long so_far =
    let here : q.path ≡ first.path ++ step_of i ∷ [] = q_path ∙ ap (λ path. path ++ step_of i ∷ []) so_far.path in
    let pushed : numbered p (node_before node rest) ≡ numbered q (node_before node rest) =
    λ j. template_nodes (length (sym q_nodes j)) (length (sym q_attributes j)) (node_before node rest) in
    let left : numbered r rest ≡ numbered s rest = λ j. template_nodes (length (sym s_nodes j)) (length (sym s_attributes j)) rest in
    let next : numbered p (node_before node rest) ≡ mirror.node_before m (numbered s rest) =
    pushed ∙ built.nodes rest ∙ ap (λ ns. mirror.node_before m ns) left in
    record {
      nodes =
          ap (λ ts. all_before (map mirror.node_before ts) (numbered s rest)) long ∙ before_one there m (numbered s rest) ∙
          ap (λ ns. all_before (map mirror.node_before there) ns) (sym next) ∙ so_far.nodes;
      node_paths =
          ap (λ ps. ps ++ paths_below first.path (i + 1) (numbered s rest)) s_nodes ∙
          sym (built.node_paths first.path i here (numbered s rest)) ∙
          (λ j. q_nodes j ++ paths_below first.path i (sym next j)) ∙ so_far.node_paths;
      attribute_paths =
          ap (λ ps. ps ++ attribute_paths_below first.path (i + 1) (numbered s rest)) s_attributes ∙
          sym (built.attribute_paths first.path i here (numbered s rest)) ∙
          (λ j. q_attributes j ++ attribute_paths_below first.path i (sym next j)) ∙ so_far.attribute_paths;
      path = off (built.path ∙ here);
    }

-- no node is left
pub row-end : (first now : Paths) (whole left : View) (there : List TemplateNode) (i : ℕ) → left ≡ NoViews → RowSoFar first now whole left there i → RowBuilt first now whole (mirror.nodes_of there)
row-end first now whole left there i none so_far =
    let nodes : numbered first whole ≡ mirror.nodes_of there = sym so_far.nodes ∙ ap (λ view. all_before (map mirror.node_before there) (numbered now view)) none in
    record {
      nodes = nodes;
      node_paths =
          sym (append_nil now.node_paths) ∙ ap (λ view. now.node_paths ++ paths_below first.path i (numbered now view)) (sym none) ∙ so_far.node_paths ∙
          ap (λ ns. first.node_paths ++ paths_below first.path 0 ns) nodes;
      attribute_paths =
          sym (append_nil now.attr_paths) ∙ ap (λ view. now.attr_paths ++ attribute_paths_below first.path i (numbered now view)) (sym none) ∙ so_far.attribute_paths ∙
          ap (λ ns. first.attr_paths ++ attribute_paths_below first.path 0 ns) nodes;
      path = so_far.path;
    }

-- paths as bytes

bytes-append : (xs ys : List (ℕ × List ℕ)) → in_bytes (paths_of (xs ++ ys)) ≡ in_bytes (paths_of xs) ++ in_bytes (paths_of ys)
bytes-append xs ys = ap in_bytes (paths-append xs ys) ∙ map_append (map step_of) (paths_of xs) (paths_of ys)

one_below : (up : List ℕ) (i : ℕ) → map step_of up ++ step_of i ∷ [] ≡ map step_of (up ++ i ∷ [])
one_below up i = sym (map_append step_of up (i ∷ []))

own_bytes : (given : List TemplateAttribute) (path : List ℕ)
    → paths_of (slots_among given (map step_of path)) ≡ in_bytes (paths_of (slots_among given path))
own_bytes [] path = refl
own_bytes (fixed name namespace value ∷ rest) path = own_bytes rest path
own_bytes (from_slot k ∷ rest) path = ap (λ ps. map step_of path ∷ ps) (own_bytes rest path)

node_bytes : (up : List ℕ) (i : ℕ) (nodes : TemplateNodes) → paths_below (map step_of up) i nodes ≡ in_bytes (paths_of (node_slots up i nodes))
node_bytes up i no_nodes = refl
node_bytes up i (element_node tag namespace given children rest) =
    (λ j. paths_below (one_below up i j) 0 children ++ paths_below (map step_of up) (i + 1) rest) ∙
    (λ j. node_bytes (up ++ i ∷ []) 0 children j ++ node_bytes up (i + 1) rest j) ∙
    sym (bytes-append (node_slots (up ++ i ∷ []) 0 children) (node_slots up (i + 1) rest))
node_bytes up i (text_node text rest) = node_bytes up (i + 1) rest
node_bytes up i (slot_node k rest) = λ j. one_below up i j ∷ node_bytes up (i + 1) rest j

attribute_bytes : (up : List ℕ) (i : ℕ) (nodes : TemplateNodes)
    → attribute_paths_below (map step_of up) i nodes ≡ in_bytes (paths_of (attribute_slots up i nodes))
attribute_bytes up i no_nodes = refl
attribute_bytes up i (element_node tag namespace given children rest) =
    (λ j. paths_of (slots_among given (one_below up i j)) ++ (attribute_paths_below (one_below up i j) 0 children ++ attribute_paths_below (map step_of up) (i + 1) rest)) ∙
    (λ j. own_bytes given (up ++ i ∷ []) j ++ (attribute_bytes (up ++ i ∷ []) 0 children j ++ attribute_bytes up (i + 1) rest j)) ∙
    ap (λ ps. in_bytes (paths_of (slots_among given (up ++ i ∷ []))) ++ ps) (sym (bytes-append (attribute_slots (up ++ i ∷ []) 0 children) (attribute_slots up (i + 1) rest))) ∙
    sym (bytes-append (slots_among given (up ++ i ∷ [])) (attribute_slots (up ++ i ∷ []) 0 children ++ attribute_slots up (i + 1) rest))
attribute_bytes up i (text_node text rest) = attribute_bytes up (i + 1) rest
attribute_bytes up i (slot_node k rest) = attribute_bytes up (i + 1) rest

pub nodes-in-bytes : (roots : TemplateNodes) → paths_below [] 0 roots ≡ in_bytes (paths_of (node_slots [] 0 roots))
nodes-in-bytes roots = node_bytes [] 0 roots

pub attributes-in-bytes : (roots : TemplateNodes) → attribute_paths_below [] 0 roots ≡ in_bytes (paths_of (attribute_slots [] 0 roots))
attributes-in-bytes roots = attribute_bytes [] 0 roots

-- the template of nodes that are built, with their paths
abbrev pub template_so : Paths → TemplateNodes → Template
template_so p roots = record { roots = roots; node_paths = p.node_paths; attribute_paths = p.attr_paths }

-- a row that is built from the start is the template of its view
pub all-built : (first now : Paths) (view : View) (made : TemplateNodes) → first.node_paths ≡ [] → first.attr_paths ≡ [] → first.path ≡ []
    → RowBuilt first now view made → template_so now made ≡ template_in_bytes (template_nodes 0 0 view)
all-built first now view made no_nodes_yet none_yet top built =
    let roots : template_nodes 0 0 view ≡ made = (λ j. template_nodes (length (sym no_nodes_yet j)) (length (sym none_yet j)) view) ∙ built.nodes in
    let nodes : now.node_paths ≡ in_bytes (paths_of (node_slots [] 0 (template_nodes 0 0 view))) =
    built.node_paths ∙ (λ j. no_nodes_yet j ++ paths_below (top j) 0 (sym roots j)) ∙ nodes-in-bytes (template_nodes 0 0 view) in
    let attributes : now.attr_paths ≡ in_bytes (paths_of (attribute_slots [] 0 (template_nodes 0 0 view))) =
    built.attribute_paths ∙ (λ j. none_yet j ++ attribute_paths_below (top j) 0 (sym roots j)) ∙ attributes-in-bytes (template_nodes 0 0 view) in
    λ j. record { roots = sym roots j; node_paths = nodes j; attribute_paths = attributes j }
