-- What a walk through a template meets is what the definitions find in its nodes.
use Rattle.std.proofs.Common.{ℕ, suc, ◌+◌, Bool, true, false, ◌&&◌, List, [], ◌∷◌, ◌++◌, ◌≡◌, Option, map, length, refl, sym, ap, subst, ◌∙◌, add-one, append_assoc, arith}
use Rattle.std.specs.Prelude.{nat_le}
use Rattle.std.specs.List.{list_all, slice_index_or}
use Rattle.rt_lemmas.proofs.Lists.{length_end}
use Rattle.tree_nodes.specs.declared.template.TemplateAttribute.{TemplateAttribute}
use Rattle.tree_nodes.specs.declared.template.TemplateAttribute.TheVariants as attributes
use Rattle.tree_nodes.specs.declared.template.TemplateNode.{TemplateNode}
use Rattle.tree_nodes.specs.declared.template.TemplateNode.TheVariants as nodes
use Rattle.tree_nodes.specs.declared.template.TemplateNode.TheOpen.{TemplateNode-F}
use Rattle.tree_nodes.specs.declared.template.TemplateNode.TheViews.{roll-TemplateNode}
use Rattle.tree_nodes.specs.declared.template.TemplateNode.TheFolds.{fold-roll-TemplateNode, ind-TemplateNode, map-TemplateNode}
use Rattle.tree_nodes.specs.Met.{Met, AtElement, AtAttribute, AtText, AtSlot, met_attrs, met_among, met_step, met}
use Rattle.tree_nodes.specs.Names.{Name, distinct, names_in}
use Rattle.tree_nodes.specs.Slots as slots
use Rattle.tree_nodes.specs.BlockTest.{met_fits}
use Rattle.rt_model.specs.Tree as model
use Rattle.rt_model.specs.Tree.{TemplateNodes, no_nodes, element_node, text_node, slot_node, fixed, from_slot, slots_among, node_slots, attribute_slots, attributes_in}
use Rattle.rt_model.specs.Fits.{row_length, nodes_fit, all_once, element_names, given_names}
use Rattle.tree_mirror.specs.Mirror.{attribute_in, all_before}
use Rattle.tree_mirror.specs.Sealed.{node_before, nodes_of}
use Rattle.tree_mirror.proofs.SealedNodes.{before_Element, before_Text, before_Dynamic}
use Rattle.rt_scopes.proofs.TestNames.{le_same, once_same}

met_rolled : (x : TemplateNode-F TemplateNode) (path : List ℕ) → met (roll-TemplateNode x) path ≡ met_step (map-TemplateNode TemplateNode (List ℕ → List Met) met x) path
met_rolled x path = ap (λ (g : List ℕ → List Met). g path) (fold-roll-TemplateNode (List ℕ → List Met) met_step x)

length_met : (ns : List TemplateNode) → length (map met ns) ≡ length ns
length_met [] = refl
length_met (n ∷ ns) = ap suc (length_met ns)

met_Element : (tag : List ℕ) (namespace : Option (List ℕ)) (attrs : List TemplateAttribute) (children : List TemplateNode) (path : List ℕ)
    → met (nodes.Element tag namespace attrs children) path ≡ AtElement path attrs (length children) ∷ (met_attrs path attrs ++ met_among (map met children) path 0)
met_Element tag namespace attrs children path =
    ap (λ n. met n path) (sym (nodes.rolls-Element tag namespace attrs children))
    ∙ met_rolled (TemplateNode-F.Element tag namespace attrs children) path
    ∙ ap (λ k. AtElement path attrs k ∷ (met_attrs path attrs ++ met_among (map met children) path 0)) (length_met children)

met_Text : (text path : List ℕ) → met (nodes.Text text) path ≡ AtText path ∷ []
met_Text text path = ap (λ n. met n path) (sym (nodes.rolls-Text text)) ∙ met_rolled (TemplateNode-F.Text text) path

met_Dynamic : (id : ℕ) (path : List ℕ) → met (nodes.Dynamic id) path ≡ AtSlot path id ∷ []
met_Dynamic id path = ap (λ n. met n path) (sym (nodes.rolls-Dynamic id)) ∙ met_rolled (TemplateNode-F.Dynamic id) path

-- lists of what was met, one after another

node_slots_on : (xs ys : List Met) → slots.node_slots (xs ++ ys) ≡ slots.node_slots xs ++ slots.node_slots ys
node_slots_on [] ys = refl
node_slots_on (AtElement path attrs n ∷ xs) ys = node_slots_on xs ys
node_slots_on (AtAttribute path id ∷ xs) ys = node_slots_on xs ys
node_slots_on (AtText path ∷ xs) ys = node_slots_on xs ys
node_slots_on (AtSlot path id ∷ xs) ys = ap (λ es. (id, path) ∷ es) (node_slots_on xs ys)

attr_slots_on : (xs ys : List Met) → slots.attr_slots (xs ++ ys) ≡ slots.attr_slots xs ++ slots.attr_slots ys
attr_slots_on [] ys = refl
attr_slots_on (AtElement path attrs n ∷ xs) ys = attr_slots_on xs ys
attr_slots_on (AtAttribute path id ∷ xs) ys = ap (λ es. (id, path) ∷ es) (attr_slots_on xs ys)
attr_slots_on (AtText path ∷ xs) ys = attr_slots_on xs ys
attr_slots_on (AtSlot path id ∷ xs) ys = attr_slots_on xs ys

all_on : (test : Met → Bool) (xs ys : List Met) → list_all test (xs ++ ys) ≡ list_all test xs && list_all test ys
all_on test [] ys = refl
all_on test (x ∷ xs) ys = ap (λ b. test x && b) (all_on test xs ys) ∙ grouped (test x) (list_all test xs) (list_all test ys)
  where
    grouped : (a b c : Bool) → a && (b && c) ≡ (a && b) && c
    grouped true b c = refl
    grouped false b c = refl

attrs_no_node : (path : List ℕ) (attrs : List TemplateAttribute) → slots.node_slots (met_attrs path attrs) ≡ []
attrs_no_node path [] = refl
attrs_no_node path (attributes.Static n a v ∷ rest) = attrs_no_node path rest
attrs_no_node path (attributes.Dynamic k ∷ rest) = attrs_no_node path rest

attrs_among : (path : List ℕ) (attrs : List TemplateAttribute) → slots.attr_slots (met_attrs path attrs) ≡ slots_among (map attribute_in attrs) path
attrs_among path [] = refl
attrs_among path (attributes.Static n a v ∷ rest) = attrs_among path rest
attrs_among path (attributes.Dynamic k ∷ rest) = ap (λ es. (k, path) ∷ es) (attrs_among path rest)

attrs_fit : (levels : ℕ) (names : List (List Name)) (path : List ℕ) (attrs : List TemplateAttribute) → list_all (met_fits levels names) (met_attrs path attrs) ≡ true
attrs_fit levels names path [] = refl
attrs_fit levels names path (attributes.Static n a v ∷ rest) = attrs_fit levels names path rest
attrs_fit levels names path (attributes.Dynamic k ∷ rest) = attrs_fit levels names path rest

low : (level levels : ℕ) (up : List ℕ) (k : ℕ) → level + levels ≡ 129 + length up → nat_le level 128 ≡ nat_le (length (up ++ k ∷ [])) levels
low level levels up k at_level =
    le_same level 128 (suc (length up)) levels (λ h. omega (arith, h, at_level)) (λ h. omega (arith, h, at_level))
    ∙ ap (λ n. nat_le n levels) (sym (length_end up k))

shuffled : (a b c d r : Bool) → ((((a && b) && c) && d) && r) ≡ (((a && (b && c)) && (true && d)) && r)
shuffled true true true d r = refl
shuffled true true false d r = refl
shuffled true false c d r = refl
shuffled false b c d r = refl

single : (a r : Bool) → (a && r) ≡ ((a && true) && r)
single true r = refl
single false r = refl

abbrev rolled : TemplateNode-F TemplateNode → TemplateNode
rolled (TemplateNode-F.Element tag namespace attrs children) = nodes.Element tag namespace attrs children
rolled (TemplateNode-F.Text text) = nodes.Text text
rolled (TemplateNode-F.Dynamic id) = nodes.Dynamic id

rolled-is : (x : TemplateNode-F TemplateNode) → rolled x ≡ roll-TemplateNode x
rolled-is (TemplateNode-F.Element tag namespace attrs children) = sym (nodes.rolls-Element tag namespace attrs children)
rolled-is (TemplateNode-F.Text text) = sym (nodes.rolls-Text text)
rolled-is (TemplateNode-F.Dynamic id) = sym (nodes.rolls-Dynamic id)

module _ {K : model.Types} where
  -- the slots hold these names
  abbrev pub Names : List (List (model.Attribute K)) → List (List Name) → Type 0
  Names given names = (k : ℕ) → slice_index_or names k [] ≡ given_names (attributes_in given k)

  names_same : (given : List (List (model.Attribute K))) (names : List (List Name)) → Names given names → (attrs : List TemplateAttribute)
      → names_in names attrs ≡ element_names given (map attribute_in attrs)
  names_same given names h [] = refl
  names_same given names h (attributes.Static n a v ∷ rest) = ap (λ ns. (n, a) ∷ ns) (names_same given names h rest)
  names_same given names h (attributes.Dynamic k ∷ rest) =
      ap (λ ns. ns ++ names_in names rest) (h k) ∙ ap (λ ns. given_names (attributes_in given k) ++ ns) (names_same given names h rest)

  -- a template's nodes fit without what stands in their slots
  abbrev pub bare_fit : List (List (model.Attribute K)) → ℕ → TemplateNodes → Bool
  bare_fit given level m = nodes_fit given (λ k below. true) level m

module _ (K : model.Types) where
  -- a walk through a node meets what the definitions find in it
  record Walks (node : TemplateNode) : Type 0 where
    count : (rest : TemplateNodes) → row_length (node_before node rest) ≡ row_length rest + 1
    nodes_met : (up : List ℕ) (k : ℕ) (rest : TemplateNodes) → node_slots up k (node_before node rest) ≡ slots.node_slots (met node (up ++ k ∷ [])) ++ node_slots up (k + 1) rest
    attrs_met : (up : List ℕ) (k : ℕ) (rest : TemplateNodes) → attribute_slots up k (node_before node rest) ≡ slots.attr_slots (met node (up ++ k ∷ [])) ++ attribute_slots up (k + 1) rest
    fit : (given : List (List (model.Attribute K))) (names : List (List Name)) → Names given names
        → (level levels : ℕ) (up : List ℕ) (k : ℕ) (rest : TemplateNodes) → level + levels ≡ 129 + length up
        → bare_fit given level (node_before node rest) ≡ list_all (met_fits levels names) (met node (up ++ k ∷ [])) && bare_fit given level rest

  abbrev Walked : Type 0
  Walked = (node : TemplateNode) × Walks node

  count_all : (es : List Walked) → row_length (all_before (map node_before (map (λ e. e.0) es)) no_nodes) ≡ length (map (λ (e : Walked). e.0) es)
  count_all [] = refl
  count_all (e ∷ es) = (e.1).count _ ∙ ap (λ n. n + 1) (count_all es) ∙ add-one (length (map (λ (x : Walked). x.0) es))

  nodes_all : (es : List Walked) (up : List ℕ) (k : ℕ) → node_slots up k (all_before (map node_before (map (λ e. e.0) es)) no_nodes) ≡ slots.node_slots (met_among (map met (map (λ e. e.0) es)) up k)
  nodes_all [] up k = refl
  nodes_all (e ∷ es) up k =
      (e.1).nodes_met up k _
      ∙ ap (λ xs. slots.node_slots (met e.0 (up ++ k ∷ [])) ++ xs) (nodes_all es up (k + 1))
      ∙ sym (node_slots_on (met e.0 (up ++ k ∷ [])) (met_among (map met (map (λ (x : Walked). x.0) es)) up (k + 1)))

  attrs_all : (es : List Walked) (up : List ℕ) (k : ℕ) → attribute_slots up k (all_before (map node_before (map (λ e. e.0) es)) no_nodes) ≡ slots.attr_slots (met_among (map met (map (λ e. e.0) es)) up k)
  attrs_all [] up k = refl
  attrs_all (e ∷ es) up k =
      (e.1).attrs_met up k _
      ∙ ap (λ xs. slots.attr_slots (met e.0 (up ++ k ∷ [])) ++ xs) (attrs_all es up (k + 1))
      ∙ sym (attr_slots_on (met e.0 (up ++ k ∷ [])) (met_among (map met (map (λ (x : Walked). x.0) es)) up (k + 1)))

  fit_all : (es : List Walked) (given : List (List (model.Attribute K))) (names : List (List Name)) → Names given names
      → (level levels : ℕ) (up : List ℕ) (k : ℕ) → level + levels ≡ 129 + length up
      → bare_fit given level (all_before (map node_before (map (λ e. e.0) es)) no_nodes) ≡ list_all (met_fits levels names) (met_among (map met (map (λ e. e.0) es)) up k)
  fit_all [] given names h level levels up k at_level = refl
  fit_all (e ∷ es) given names h level levels up k at_level =
      (e.1).fit given names h level levels up k _ at_level
      ∙ ap (λ b. list_all (met_fits levels names) (met e.0 (up ++ k ∷ [])) && b) (fit_all es given names h level levels up (k + 1) at_level)
      ∙ sym (all_on (met_fits levels names) (met e.0 (up ++ k ∷ [])) (met_among (map met (map (λ (x : Walked). x.0) es)) up (k + 1)))

  at_element : (tag : List ℕ) (namespace : Option (List ℕ)) (attrs : List TemplateAttribute) (children : List Walked) → Walks (nodes.Element tag namespace attrs (map (λ e. e.0) children))
  at_element tag namespace attrs children = record {
    count = λ rest. ap row_length (before_Element tag namespace attrs (map (λ e. e.0) children) rest);
    nodes_met = λ up k rest.
        ap (λ m. node_slots up k m) (before_Element tag namespace attrs (map (λ e. e.0) children) rest)
        ∙ ap (λ xs. xs ++ node_slots up (k + 1) rest)
        (nodes_all children (up ++ k ∷ []) 0
        ∙ ap (λ xs. xs ++ slots.node_slots (met_among (map met (map (λ (e : Walked). e.0) children)) (up ++ k ∷ []) 0)) (sym (attrs_no_node (up ++ k ∷ []) attrs))
        ∙ sym (node_slots_on (met_attrs (up ++ k ∷ []) attrs) (met_among (map met (map (λ (e : Walked). e.0) children)) (up ++ k ∷ []) 0))
        ∙ ap slots.node_slots (sym (met_Element tag namespace attrs (map (λ e. e.0) children) (up ++ k ∷ []))));
    attrs_met = λ up k rest.
        ap (λ m. attribute_slots up k m) (before_Element tag namespace attrs (map (λ e. e.0) children) rest)
        ∙ sym (append_assoc (slots_among (map attribute_in attrs) (up ++ k ∷ [])) (attribute_slots (up ++ k ∷ []) 0 (nodes_of (map (λ e. e.0) children))) (attribute_slots up (k + 1) rest))
        ∙ ap (λ xs. xs ++ attribute_slots up (k + 1) rest)
        (ap (λ xs. slots_among (map attribute_in attrs) (up ++ k ∷ []) ++ xs) (attrs_all children (up ++ k ∷ []) 0)
        ∙ ap (λ xs. xs ++ slots.attr_slots (met_among (map met (map (λ (e : Walked). e.0) children)) (up ++ k ∷ []) 0)) (sym (attrs_among (up ++ k ∷ []) attrs))
        ∙ sym (attr_slots_on (met_attrs (up ++ k ∷ []) attrs) (met_among (map met (map (λ (e : Walked). e.0) children)) (up ++ k ∷ []) 0))
        ∙ ap slots.attr_slots (sym (met_Element tag namespace attrs (map (λ e. e.0) children) (up ++ k ∷ []))));
    fit = λ given names h level levels up k rest at_level.
        let path : List ℕ = up ++ k ∷ [] in
        let kids : List TemplateNode = map (λ e. e.0) children in
        let test : Met → Bool = met_fits levels names in
        ap (λ m. bare_fit given level m) (before_Element tag namespace attrs kids rest)
        ∙ ap (λ b. (((b && nat_le (row_length (nodes_of kids)) 256) && all_once (element_names given (map attribute_in attrs))) && bare_fit given (level + 1) (nodes_of kids)) && bare_fit given level rest) (low level levels up k at_level)
        ∙ ap (λ n. (((nat_le (length path) levels && nat_le n 256) && all_once (element_names given (map attribute_in attrs))) && bare_fit given (level + 1) (nodes_of kids)) && bare_fit given level rest) (count_all children)
        ∙ ap (λ b. (((nat_le (length path) levels && nat_le (length kids) 256) && b) && bare_fit given (level + 1) (nodes_of kids)) && bare_fit given level rest)
        (ap all_once (sym (names_same given names h attrs)) ∙ sym (once_same (names_in names attrs)))
        ∙ ap (λ b. (((nat_le (length path) levels && nat_le (length kids) 256) && distinct (names_in names attrs)) && b) && bare_fit given level rest)
        (fit_all children given names h (level + 1) levels path 0 (omega (arith, at_level, length_end up k)))
        ∙ shuffled (nat_le (length path) levels) (nat_le (length kids) 256) (distinct (names_in names attrs)) (list_all test (met_among (map met kids) path 0)) (bare_fit given level rest)
        ∙ ap (λ b. ((nat_le (length path) levels && (nat_le (length kids) 256 && distinct (names_in names attrs))) && (b && list_all test (met_among (map met kids) path 0))) && bare_fit given level rest) (sym (attrs_fit levels names path attrs))
        ∙ ap (λ b. ((nat_le (length path) levels && (nat_le (length kids) 256 && distinct (names_in names attrs))) && b) && bare_fit given level rest) (sym (all_on test (met_attrs path attrs) (met_among (map met kids) path 0)))
        ∙ ap (λ ms. list_all test ms && bare_fit given level rest) (sym (met_Element tag namespace attrs kids path));
  }

  at_text : (text : List ℕ) → Walks (nodes.Text text)
  at_text text = record {
    count = λ rest. ap row_length (before_Text text rest);
    nodes_met = λ up k rest.
        ap (λ m. node_slots up k m) (before_Text text rest) ∙ ap (λ ms. slots.node_slots ms ++ node_slots up (k + 1) rest) (sym (met_Text text (up ++ k ∷ [])));
    attrs_met = λ up k rest.
        ap (λ m. attribute_slots up k m) (before_Text text rest) ∙ ap (λ ms. slots.attr_slots ms ++ attribute_slots up (k + 1) rest) (sym (met_Text text (up ++ k ∷ [])));
    fit = λ given names h level levels up k rest at_level.
        ap (λ m. bare_fit given level m) (before_Text text rest)
        ∙ ap (λ b. b && bare_fit given level rest) (low level levels up k at_level)
        ∙ single (nat_le (length (up ++ k ∷ [])) levels) (bare_fit given level rest)
        ∙ ap (λ ms. list_all (met_fits levels names) ms && bare_fit given level rest) (sym (met_Text text (up ++ k ∷ [])));
  }

  at_slot : (id : ℕ) → Walks (nodes.Dynamic id)
  at_slot id = record {
    count = λ rest. ap row_length (before_Dynamic id rest);
    nodes_met = λ up k rest.
        ap (λ m. node_slots up k m) (before_Dynamic id rest) ∙ ap (λ ms. slots.node_slots ms ++ node_slots up (k + 1) rest) (sym (met_Dynamic id (up ++ k ∷ [])));
    attrs_met = λ up k rest.
        ap (λ m. attribute_slots up k m) (before_Dynamic id rest) ∙ ap (λ ms. slots.attr_slots ms ++ attribute_slots up (k + 1) rest) (sym (met_Dynamic id (up ++ k ∷ [])));
    fit = λ given names h level levels up k rest at_level.
        ap (λ m. bare_fit given level m) (before_Dynamic id rest)
        ∙ ap (λ b. (b && true) && bare_fit given level rest) (low level levels up k at_level)
        ∙ ap (λ ms. list_all (met_fits levels names) ms && bare_fit given level rest) (sym (met_Dynamic id (up ++ k ∷ [])));
  }

  level : (y : TemplateNode-F Walked) → Walks (rolled (map-TemplateNode Walked TemplateNode (λ e. e.0) y))
  level (TemplateNode-F.Element tag namespace attrs children) = at_element tag namespace attrs children
  level (TemplateNode-F.Text text) = at_text text
  level (TemplateNode-F.Dynamic id) = at_slot id

  walks : (node : TemplateNode) → Walks node
  walks = ind-TemplateNode Walks (λ x y is. subst Walks (rolled-is x) (subst (λ z. Walks (rolled z)) is (level y)))

  all_walked : List TemplateNode → List Walked
  all_walked [] = []
  all_walked (n ∷ ns) = (n, walks n) ∷ all_walked ns

  bare_walked : (ns : List TemplateNode) → map (λ (e : Walked). e.0) (all_walked ns) ≡ ns
  unfolding all_walked
  bare_walked [] = refl
  bare_walked (n ∷ ns) = ap (λ rest. n ∷ rest) (bare_walked ns)

  -- the number of roots
  pub count_same : (ns : List TemplateNode) → row_length (nodes_of ns) ≡ length ns
  count_same ns = subst (λ xs. row_length (nodes_of xs) ≡ length xs) (bare_walked ns) (count_all (all_walked ns))

  -- the node slots
  pub nodes_same : (ns : List TemplateNode) → node_slots [] 0 (nodes_of ns) ≡ slots.node_slots (met_among (map met ns) [] 0)
  nodes_same ns = subst (λ xs. node_slots [] 0 (nodes_of xs) ≡ slots.node_slots (met_among (map met xs) [] 0)) (bare_walked ns) (nodes_all (all_walked ns) [] 0)

  -- the attribute slots
  pub attrs_same : (ns : List TemplateNode) → attribute_slots [] 0 (nodes_of ns) ≡ slots.attr_slots (met_among (map met ns) [] 0)
  attrs_same ns = subst (λ xs. attribute_slots [] 0 (nodes_of xs) ≡ slots.attr_slots (met_among (map met xs) [] 0)) (bare_walked ns) (attrs_all (all_walked ns) [] 0)

  -- the test of the nodes by themselves
  pub bare_same : (ns : List TemplateNode) (given : List (List (model.Attribute K))) (names : List (List Name)) → Names given names → (level levels : ℕ) → level + levels ≡ 129
      → bare_fit given level (nodes_of ns) ≡ list_all (met_fits levels names) (met_among (map met ns) [] 0)
  bare_same ns given names h level levels at_level =
      subst (λ xs. bare_fit given level (nodes_of xs) ≡ list_all (met_fits levels names) (met_among (map met xs) [] 0)) (bare_walked ns) (fit_all (all_walked ns) given names h level levels [] 0 at_level)
