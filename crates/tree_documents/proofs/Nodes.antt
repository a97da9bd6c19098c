-- What each kind of node is at the mirror, and what stands below it.
use Rattle.std.proofs.Common.{ℕ, List, ◌≡◌, refl}
use Rattle.rt_edits.specs.declared.doc_node.DocKind.TheVariants.{Text, Placeholder}
use Rattle.rt_model.specs.Document.{Empty, DocText, DocPlaceholder}
use Rattle.tree_edits.specs.Documents.{content_of, forest_below, forest_in}
use Rattle.tree_documents.proofs.Forests.{below_Element, content_Element}

pub below_Text : (text : List ℕ) → forest_below (Text text) ≡ Empty
unfolding forest_below forest_in
below_Text text = refl

pub below_Placeholder : forest_below Placeholder ≡ Empty
unfolding forest_below forest_in
below_Placeholder = refl

pub content_Text : (text : List ℕ) → content_of (Text text) ≡ DocText text
unfolding content_of
content_Text text = refl

pub content_Placeholder : content_of Placeholder ≡ DocPlaceholder
unfolding content_of
content_Placeholder = refl

pub ruleset node_parts = (below_Element, content_Element, below_Text, content_Text, below_Placeholder, content_Placeholder)
