-- Nodes that were read, as the definitions have them, and which texts are read.
use Rattle.std.specs.Prelude.{◌≡◌, ℕ, ◌-◌, Bool, true, ◌&&◌, ◌==◌, not, List, [], ◌∷◌, map}
use Rattle.rt_model.specs.Document.{DocAttribute, Content, DocElement, DocText, DocPlaceholder, Forest, Empty, Node, earlier_key}
use Rattle.rt_model.specs.Lists as model
use Rattle.tree_edits.specs.Documents.{doc_attribute_of}
use Rattle.rt_html.specs.declared.plain.Plain.{Plain, Element', Text, Placeholder, Row_of-Plain, end_of-Plain, more_of-Plain}
use Rattle.rt_html.specs.Spelling.{html, is_namable}

-- what a node is, without what is below it: it has no listeners
unfoldable pub plain_content : Plain → Content
plain_content (Element' tag namespace attrs shape row) = DocElement tag namespace (map doc_attribute_of attrs) []
plain_content (Text text) = DocText text
plain_content Placeholder = DocPlaceholder

-- the nodes below one
unfoldable mutual
  -- below a node of this kind
  pub plain_below : Plain → Forest
  plain_below (Element' tag namespace attrs shape row) = plain_in row
  plain_below (Text text) = Empty
  plain_below Placeholder = Empty

  -- in what is left of a row of nodes
  pub plain_in : {m : _} → Row_of-Plain m → Forest
  plain_in end_of-Plain = Empty
  plain_in (more_of-Plain node rest) = Node 0 (plain_content node) (plain_below node) (plain_in rest)

-- nodes in a row, each with the number 0
abbrev pub plain_row : List Plain → Forest
plain_row [] = Empty
plain_row (node ∷ nodes) = Node 0 (plain_content node) (plain_below node) (plain_row nodes)

-- an attribute comes before the first of others, where there is one
abbrev pub before_first : DocAttribute → List DocAttribute → Bool
before_first a [] = true
before_first a (b ∷ rest) = earlier_key a b

-- attributes ascend: each comes before the next one
abbrev pub ascend : List DocAttribute → Bool
ascend [] = true
ascend (a ∷ rest) = before_first a rest && ascend rest

-- the attributes of a node ascend
abbrev pub attributes_ascend : Content → Bool
attributes_ascend (DocElement tag namespace attributes listeners) = ascend attributes
attributes_ascend (DocText text) = true
attributes_ascend DocPlaceholder = true

-- nodes of at most so many levels, whose names can be spelt and whose attributes ascend
abbrev pub are_fit : ℕ → Forest → Bool
are_fit levels Empty = true
are_fit levels (Node number content children rest) =
    (not (levels == 0) && (is_namable content && (attributes_ascend content && are_fit (levels - 1) children))) && are_fit levels rest

-- a text is just the spelling of these nodes, which are fit and have at most 1,024 levels
pub record IsSpelling (text : model.Text) (nodes : Forest) : Type 0 where
  pub spelt : text ≡ html nodes
  pub fit : are_fit 1024 nodes ≡ true
