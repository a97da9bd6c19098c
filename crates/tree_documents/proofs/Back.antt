-- Back from the mirror: it loses nothing of a document's nodes.
use Rattle.std.proofs.Common.{ℕ, List, [], ◌∷◌, ◌≡◌, refl, sym, ap, ◌∙◌, subst, map, rules}
use Rattle.std.specs.Prelude.{Option, None}
use Rattle.rt_edits.specs.declared.doc_node.DocAttr.{DocAttr}
use Rattle.rt_edits.specs.declared.doc_node.DocNode.{DocNode}
use Rattle.rt_edits.specs.declared.doc_node.DocKind.{DocKind, Element', Text, Placeholder, Row_of-DocNode, end_of-DocNode, more_of-DocNode, items-the_row-DocNode, items_hidden-the_row-DocNode-0, the_lemmas}
use Rattle.rt_edits.specs.declared.doc_node.DocKind.TheVariants as kinds
use Rattle.rt_edits.specs.declared.doc_node.DocKind.TheFolds.{ind-DocKind, map-DocKind, map-DocNode}
use Rattle.rt_edits.specs.declared.doc_node.DocKind.TheOpen.{DocKind-F, DocNode-F}
use Rattle.rt_edits.specs.declared.doc_node.DocKind.TheViews.{roll-DocKind, roll-DocNode}
use Rattle.rt_edits.specs.declared.edit.Edit.{Edit}
use Rattle.rt_edits.specs.declared.edit.Edit.TheVariants as edits
use Rattle.rt_model.specs.Document as doc
use Rattle.rt_model.specs.Document.{Forest, Empty, Node, Content, DocElement, DocText, DocPlaceholder, DocAttribute}
use Rattle.tree_edits.specs.Documents.{doc_attribute_of, content_of, forest_below, forest_in, forest_of, edit_of}
use Rattle.tree_documents.proofs.Forests.{below_Element, content_Element}

abbrev attr_back : DocAttribute → DocAttr
attr_back a = record { name = a.name; namespace = a.namespace; value = a.value }

attrs_back : (attrs : List DocAttr) → map attr_back (map doc_attribute_of attrs) ≡ attrs
attrs_back [] = refl
attrs_back (a ∷ as_) = ap (λ (rest : List DocAttr). a ∷ rest) (attrs_back as_)

abbrev kind_back : Content → List DocNode → DocKind
kind_back (DocElement tag namespace attributes listeners) children =
    kinds.Element tag namespace (map attr_back attributes) listeners children
kind_back (DocText text) children = kinds.Text text
kind_back DocPlaceholder children = kinds.Placeholder

abbrev nodes_back : Forest → List DocNode
nodes_back Empty = []
nodes_back (Node id content children rest) =
    let node : DocNode = record { id = record { 0 = id }; kind = kind_back content (nodes_back children) } in node ∷ nodes_back rest

abbrev KindBack : DocKind → Type 0
KindBack kind = kind_back (content_of kind) (nodes_back (forest_below kind)) ≡ kind

abbrev NodeBack : DocNode → Type 0
NodeBack node = KindBack node.kind

abbrev KindPair : Type 0
KindPair = (kind : DocKind) × KindBack kind

abbrev NodePair : Type 0
NodePair = (node : DocNode) × NodeBack node

abbrev kind_bare : DocKind-F KindPair NodePair → DocKind-F DocKind DocNode
kind_bare y = map-DocKind KindPair NodePair DocKind DocNode (λ x. x.0) (λ x. x.0) y

abbrev node_bare : DocNode-F KindPair NodePair → DocNode-F DocKind DocNode
node_bare y = map-DocNode KindPair NodePair DocKind DocNode (λ x. x.0) (λ x. x.0) y

abbrev children_in : DocKind-F DocKind DocNode → List DocNode
children_in (DocKind-F.Element tag namespace attrs listeners children) = children
children_in (DocKind-F.Text text) = []
children_in DocKind-F.Placeholder = []

abbrev bare : List NodePair → List DocNode
bare children = children_in (kind_bare (DocKind-F.Element [] None [] [] children))

nodes_pairs : (ns : List NodePair) → nodes_back (forest_of (bare ns)) ≡ bare ns
nodes_pairs [] = refl
nodes_pairs (n ∷ ns) =
    ap (λ (k : DocKind). let node : DocNode = record { id = n.0.id; kind = k } in node ∷ nodes_back (forest_of (bare ns))) n.1 ∙
    ap (λ (rest : List DocNode). n.0 ∷ rest) (nodes_pairs ns)

element_back : (tag : List ℕ) (namespace : Option (List ℕ)) (attrs : List DocAttr) (listeners : List (List ℕ)) (all : List DocNode)
    → nodes_back (forest_of all) ≡ all → KindBack (kinds.Element tag namespace attrs listeners all)
element_back tag namespace attrs listeners all h =
    ap (λ (c : Content). kind_back c (nodes_back (forest_below (kinds.Element tag namespace attrs listeners all))))
    (content_Element tag namespace attrs listeners all) ∙
    ap (λ (f : Forest). kinds.Element tag namespace (map attr_back (map doc_attribute_of attrs)) listeners (nodes_back f))
    (below_Element tag namespace attrs listeners all) ∙
    ap (λ (ns : List DocNode). kinds.Element tag namespace (map attr_back (map doc_attribute_of attrs)) listeners ns) h ∙
    ap (λ (more : List DocAttr). kinds.Element tag namespace more listeners all) (attrs_back attrs)

rolled : (tag : List ℕ) (namespace : Option (List ℕ)) (attrs : List DocAttr) (listeners : List (List ℕ)) (all : List DocNode)
    → kinds.Element tag namespace attrs listeners all ≡ roll-DocKind (DocKind-F.Element tag namespace attrs listeners all)
rolled tag namespace attrs listeners all = search (rules, the_lemmas)

rolled_text : (text : List ℕ) → kinds.Text text ≡ roll-DocKind (DocKind-F.Text text)
rolled_text text = search (rules, the_lemmas)

rolled_placeholder : kinds.Placeholder ≡ roll-DocKind DocKind-F.Placeholder
rolled_placeholder = search (rules, the_lemmas)

text_back : (text : List ℕ) → KindBack (kinds.Text text)
unfolding content_of
text_back text = refl

placeholder_back : KindBack kinds.Placeholder
unfolding content_of
placeholder_back = refl

kind_level : (y : DocKind-F KindPair NodePair) → KindBack (roll-DocKind (kind_bare y))
kind_level (DocKind-F.Element tag namespace attrs listeners children) =
    subst (λ (k : DocKind). KindBack k) (rolled tag namespace attrs listeners (bare children))
    (element_back tag namespace attrs listeners (bare children) (nodes_pairs children))
kind_level (DocKind-F.Text text) = subst (λ (k : DocKind). KindBack k) (rolled_text text) (text_back text)
kind_level DocKind-F.Placeholder = subst (λ (k : DocKind). KindBack k) rolled_placeholder placeholder_back

node_level : (y : DocNode-F KindPair NodePair) → NodeBack (roll-DocNode (node_bare y))
node_level y = y.kind.1

pub kinds_back : (kind : DocKind) → KindBack kind
kinds_back =
    ind-DocKind (λ k. KindBack k) (λ n. NodeBack n)
    (λ x y is. subst (λ (z : DocKind-F DocKind DocNode). KindBack (roll-DocKind z)) is (kind_level y))
    (λ x y is. subst (λ (z : DocNode-F DocKind DocNode). NodeBack (roll-DocNode z)) is (node_level y))

-- nodes that are one at the mirror are one
pub back_of_nodes : (nodes : List DocNode) → nodes_back (forest_of nodes) ≡ nodes
back_of_nodes [] = refl
back_of_nodes (n ∷ ns) =
    ap (λ (k : DocKind). let node : DocNode = record { id = n.id; kind = k } in node ∷ nodes_back (forest_of ns)) (kinds_back n.kind) ∙
    ap (λ (rest : List DocNode). n ∷ rest) (back_of_nodes ns)

pub nodes_are_one : (a b : List DocNode) → forest_of a ≡ forest_of b → a ≡ b
nodes_are_one a b h = sym (back_of_nodes a) ∙ ap nodes_back h ∙ back_of_nodes b

abbrev edit_back : doc.Edit → Edit
edit_back (doc.AppendChildren id nodes) = edits.AppendChildren (record { 0 = id }) (nodes_back nodes)
edit_back (doc.ReplaceNodeWith id nodes) = edits.ReplaceNodeWith (record { 0 = id }) (nodes_back nodes)
edit_back (doc.InsertNodesAfter id nodes) = edits.InsertNodesAfter (record { 0 = id }) (nodes_back nodes)
edit_back (doc.RemoveNode id) = edits.RemoveNode (record { 0 = id })
edit_back (doc.SetNodeText id text) = edits.SetNodeText (record { 0 = id }) text
edit_back (doc.SetAttribute id name namespace value) = edits.SetAttribute (record { 0 = id }) name namespace value
edit_back (doc.CreateEventListener id name) = edits.CreateEventListener (record { 0 = id }) name
edit_back (doc.RemoveEventListener id name) = edits.RemoveEventListener (record { 0 = id }) name

edit_comes_back : (edit : Edit) → edit_back (edit_of edit) ≡ edit
edit_comes_back (edits.AppendChildren id nodes) = ap (λ (ns : List DocNode). edits.AppendChildren id ns) (back_of_nodes nodes)
edit_comes_back (edits.ReplaceNodeWith id nodes) = ap (λ (ns : List DocNode). edits.ReplaceNodeWith id ns) (back_of_nodes nodes)
edit_comes_back (edits.InsertNodesAfter id nodes) = ap (λ (ns : List DocNode). edits.InsertNodesAfter id ns) (back_of_nodes nodes)
edit_comes_back (edits.RemoveNode id) = refl
edit_comes_back (edits.SetNodeText id text) = refl
edit_comes_back (edits.SetAttribute id name namespace value) = refl
edit_comes_back (edits.CreateEventListener id name) = refl
edit_comes_back (edits.RemoveEventListener id name) = refl

edits_come_back : (edits : List Edit) → map edit_back (map edit_of edits) ≡ edits
edits_come_back [] = refl
edits_come_back (edit ∷ more) =
    ap (λ (e : Edit). e ∷ map edit_back (map edit_of more)) (edit_comes_back edit) ∙
    ap (λ (rest : List Edit). edit ∷ rest) (edits_come_back more)

-- edits that are one at the mirror are one
pub edits_are_one : (a b : List Edit) → map edit_of a ≡ map edit_of b → a ≡ b
edits_are_one a b h = sym (edits_come_back a) ∙ ap (map edit_back) h ∙ edits_come_back b
