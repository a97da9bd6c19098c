-- What each kind of node that was read is to the definitions, and how it is spelt.
use Rattle.std.proofs.Common.{ℕ, List, [], map, ◌++◌, ◌≡◌, refl, ap, ◌∙◌}
use Rattle.std.specs.Prelude.{Option, codes}
use mathlib.Core.Former.{Count}
use Rattle.rt_edits.specs.declared.doc_node.DocAttr.{DocAttr}
use Rattle.rt_model.specs.Document.{Content, DocElement, DocText, DocPlaceholder, Forest, Node, Empty}
use Rattle.tree_edits.specs.Documents.{doc_attribute_of}
use Rattle.rt_html.specs.declared.plain.Plain.{Plain, Element', Row_of-Plain, end_of-Plain, more_of-Plain, items-the_row-Plain, items_hidden-the_row-Plain-0}
use Rattle.rt_html.specs.declared.plain.Plain.TheVariants.{Element, Text, Placeholder}
use Rattle.rt_html.specs.Spelling.{escaped, html, node_html}
use Rattle.rt_html.specs.Reading.{plain_content, plain_below, plain_in, plain_row}

abbrev row_behind : Plain → (n : Count) × Row_of-Plain n
row_behind (Element' tag namespace attrs _ row) = (_, row)
row_behind _ = (_, end_of-Plain)

in_row : (n : _) (row : Row_of-Plain n) → plain_in row ≡ plain_row (items-the_row-Plain n row)
unfolding plain_below plain_in
in_row n end_of-Plain = refl
in_row n (more_of-Plain node rest) = ap (λ (later : Forest). Node 0 (plain_content node) (plain_below node) later) (in_row _ rest)

pub below_Element : (tag : List ℕ) (namespace : Option (List ℕ)) (attrs : List DocAttr) (children : List Plain)
    → plain_below (Element tag namespace attrs children) ≡ plain_row children
unfolding plain_below plain_in
below_Element tag namespace attrs children =
    let row = row_behind (Element tag namespace attrs children) in
    in_row row.0 row.1 ∙ ap plain_row (items_hidden-the_row-Plain-0 children)

pub content_Element : (tag : List ℕ) (namespace : Option (List ℕ)) (attrs : List DocAttr) (children : List Plain)
    → plain_content (Element tag namespace attrs children) ≡ DocElement tag namespace (map doc_attribute_of attrs) []
unfolding plain_content
content_Element tag namespace attrs children = refl

pub below_Text : (text : List ℕ) → plain_below (Text text) ≡ Empty
unfolding plain_below plain_in
below_Text text = refl

pub below_Placeholder : plain_below Placeholder ≡ Empty
unfolding plain_below plain_in
below_Placeholder = refl

pub content_Text : (text : List ℕ) → plain_content (Text text) ≡ DocText text
unfolding plain_content
content_Text text = refl

pub content_Placeholder : plain_content Placeholder ≡ DocPlaceholder
unfolding plain_content
content_Placeholder = refl

pub ruleset plain_parts = (below_Element, content_Element, below_Text, content_Text, below_Placeholder, content_Placeholder)

pub spelt_Element : (tag : List ℕ) (namespace : Option (List ℕ)) (attrs : List DocAttr) (children : List Plain)
    → node_html (plain_content (Element tag namespace attrs children)) (html (plain_below (Element tag namespace attrs children)))
    ≡ node_html (DocElement tag namespace (map doc_attribute_of attrs) []) (html (plain_row children))
spelt_Element tag namespace attrs children =
    λ t. node_html (content_Element tag namespace attrs children t) (html (below_Element tag namespace attrs children t))

pub spelt_Text : (text : List ℕ) → node_html (plain_content (Text text)) (html (plain_below (Text text))) ≡ codes "<!--t-->" ++ escaped text
spelt_Text text = ap (λ (content : Content). node_html content (html (plain_below (Text text)))) (content_Text text)
