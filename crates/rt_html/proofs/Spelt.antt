-- How an element and a text are spelt, where they are known by their mirror.
use Rattle.std.proofs.Common.{ℕ, List, map, ◌++◌, ◌≡◌, ap}
use Rattle.std.specs.Prelude.{Option, codes}
use Rattle.rt_edits.specs.declared.doc_node.DocAttr.{DocAttr}
use Rattle.rt_edits.specs.declared.doc_node.DocNode.{DocNode}
use Rattle.rt_edits.specs.declared.doc_node.DocKind.TheVariants.{Element, Text}
use Rattle.rt_model.specs.Document.{Content, DocElement}
use Rattle.tree_edits.specs.Documents.{content_of, doc_attribute_of, forest_below, forest_of}
use Rattle.tree_documents.proofs.Forests.{below_Element, content_Element}
use Rattle.tree_documents.proofs.Nodes.{content_Text}
use Rattle.rt_html.specs.Spelling.{escaped, html, node_html}

pub spelt_Element : (tag : List ℕ) (namespace : Option (List ℕ)) (attrs : List DocAttr) (listeners : List (List ℕ)) (children : List DocNode)
    → node_html (content_of (Element tag namespace attrs listeners children)) (html (forest_below (Element tag namespace attrs listeners children)))
    ≡ node_html (DocElement tag namespace (map doc_attribute_of attrs) listeners) (html (forest_of children))
spelt_Element tag namespace attrs listeners children =
    λ t. node_html (content_Element tag namespace attrs listeners children t) (html (below_Element tag namespace attrs listeners children t))

pub spelt_Text : (text : List ℕ) → node_html (content_of (Text text)) (html (forest_below (Text text))) ≡ codes "<!--t-->" ++ escaped text
spelt_Text text = ap (λ (content : Content). node_html content (html (forest_below (Text text)))) (content_Text text)
