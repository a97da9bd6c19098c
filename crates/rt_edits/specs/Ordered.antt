-- The attributes and the listeners of an element, kept in order.
use Rattle.std.specs.Prelude.{ℕ, suc, List, [], ◌∷◌, Option, Some, None}
use Rattle.std.specs.declared.cmp.Ordering.{Ordering}
use Rattle.std.specs.declared.cmp.Ordering.TheVariants.{Less, Equal, Greater}
use Rattle.std.specs.Ordering.{nat_cmp, is_eq, ordering_then}
use Rattle.std.specs.Cmp.Lexicographic.{slice_cmp}
use Rattle.std.specs.List.{position, remove}
use Rattle.rt_edits.specs.declared.doc_node.DocAttr.{DocAttr}

-- the order of texts, by bytes
abbrev pub text_order : List ℕ → List ℕ → Ordering
text_order = slice_cmp nat_cmp

-- the order of namespaces: none first, then by bytes
abbrev pub namespace_order : Option (List ℕ) → Option (List ℕ) → Ordering
namespace_order None None = Equal
namespace_order None (Some other) = Less
namespace_order (Some namespace) None = Greater
namespace_order (Some namespace) (Some other) = text_order namespace other

-- how a name and a namespace stand to an attribute's: the namespace counts first
abbrev pub attribute_order : List ℕ → Option (List ℕ) → DocAttr → Ordering
attribute_order name namespace attr = ordering_then (namespace_order namespace attr.namespace) (text_order name attr.name)

-- the index of the first item that is what is looked for, by how it stands to each item
abbrev pub place_of : {A : Type 0} → (A → Ordering) → List A → Option ℕ
place_of order items = position (λ item. is_eq (order item)) items

-- where it belongs, by how it stands to the first item and where it belongs among the later ones
abbrev pub place_by : Ordering → ℕ → ℕ
place_by Less later = 0
place_by Equal later = 0
place_by Greater later = suc later

-- the index of the first item that it equals or comes before, or else their number
abbrev pub place_for : {A : Type 0} → (A → Ordering) → List A → ℕ
place_for order [] = 0
place_for order (first ∷ rest) = place_by (order first) (place_for order rest)

-- an item before the first one, over it, or among the later ones, by how it stands to the first
abbrev pub put_by : {A : Type 0} → Ordering → A → A → List A → List A → List A
put_by Less item first rest later = item ∷ first ∷ rest
put_by Equal item first rest later = item ∷ rest
put_by Greater item first rest later = first ∷ later

-- items with another one: over the first one that it equals, unless it comes before an earlier one
abbrev pub put_in : {A : Type 0} → (A → Ordering) → A → List A → List A
put_in order item [] = item ∷ []
put_in order item (first ∷ rest) = put_by (order first) item first rest (put_in order item rest)

-- items without the one at an index
abbrev pub without : {A : Type 0} → Option ℕ → List A → List A
without (Some at) items = remove items at
without None items = items

-- items without the one that is what is looked for
abbrev pub taken_out : {A : Type 0} → (A → Ordering) → List A → List A
taken_out order items = without (place_of order items) items
