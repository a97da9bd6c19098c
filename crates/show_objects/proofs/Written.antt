-- The object of an element, of a text and of a placeholder, as the mirror of a node shows it.
use Rattle.std.proofs.Common.{ℕ, List, map, ◌≡◌}
use Rattle.std.specs.Prelude.{Option}
use Rattle.json.specs.Token.{Token}
use Rattle.json.specs.Tree.{json_tokens}
use Rattle.rt_edits.specs.declared.doc_node.DocAttr.{DocAttr}
use Rattle.rt_edits.specs.declared.doc_node.DocNode.{DocNode}
use Rattle.rt_edits.specs.declared.doc_node.DocKind.{DocKind}
use Rattle.rt_edits.specs.declared.doc_node.DocKind.TheVariants.{Element, Text, Placeholder}
use Rattle.rt_model.specs.Document.{Content, DocElement, DocText, DocPlaceholder}
use Rattle.show_objects.specs.Objects.{node_items, node_json}
use Rattle.show_print.proofs.Forests.{below-Element, content-Element, content-Placeholder, content-Text}
use Rattle.tree_edits.specs.Documents.{content_of, doc_attribute_of, forest_below, forest_of}

-- the tokens of a node of this kind and number
abbrev pub kind_tokens : ℕ → DocKind → List Token
kind_tokens id kind = json_tokens (node_json id (content_of kind) (node_items (forest_below kind)))

pub written-Element : (id : ℕ) (tag : List ℕ) (namespace : Option (List ℕ)) (attrs : List DocAttr) (listeners : List (List ℕ)) (children : List DocNode) →
    kind_tokens id (Element tag namespace attrs listeners children)
    ≡ json_tokens (node_json id (DocElement tag namespace (map doc_attribute_of attrs) listeners) (node_items (forest_of children)))
written-Element id tag namespace attrs listeners children =
    λ t. json_tokens (node_json id (content-Element tag namespace attrs listeners children t) (node_items (below-Element tag namespace attrs listeners children t)))

pub written-Text : (id : ℕ) (text : List ℕ) →
    kind_tokens id (Text text) ≡ json_tokens (node_json id (DocText text) (node_items (forest_below (Text text))))
written-Text id text = λ t. json_tokens (node_json id (content-Text text t) (node_items (forest_below (Text text))))

pub written-Placeholder : (id : ℕ) →
    kind_tokens id Placeholder ≡ json_tokens (node_json id DocPlaceholder (node_items (forest_below Placeholder)))
written-Placeholder id = λ t. json_tokens (node_json id (content-Placeholder t) (node_items (forest_below Placeholder)))
