-- What the definitions over a node's kind say of an element, a text and a placeholder.
use Rattle.std.proofs.Common.{◌≡◌, ℕ, false, true, cond, nat_eq, List, [], ◌∷◌, ◌++◌, Option, Some, None, refl, ap, ◌∙◌}
use mathlib.Core.Former.{Count}
use Rattle.rt_edits.specs.Nodes.{Parts, parts_of, is_text, numbers, numbers_below, numbers_in, has, found, found_below, found_in, either, changed, changed_below, changed_in}
use Rattle.rt_edits.specs.declared.doc_node.DocAttr.{DocAttr}
use Rattle.rt_edits.specs.declared.doc_node.DocNode.{DocNode}
use Rattle.rt_edits.specs.declared.doc_node.DocKind.{DocKind, Element', Row_of-DocNode, end_of-DocNode, more_of-DocNode, items-the_row-DocNode, items_hidden-the_row-DocNode-0}
use Rattle.rt_edits.specs.declared.doc_node.DocKind.TheVariants.{Element, Text, Placeholder}

abbrev row_behind : DocKind → (n : Count) × Row_of-DocNode n
row_behind (Element' tag namespace attrs listeners _ row) = (_, row)
row_behind _ = (_, end_of-DocNode)

pub parts_of-Element : (tag : List ℕ) (namespace : Option (List ℕ)) (attrs : List DocAttr) (listeners : List (List ℕ)) (children : List DocNode) →
    parts_of (Element tag namespace attrs listeners children) ≡ Some (record { tag = tag; namespace = namespace; attrs = attrs; listeners = listeners; children = children })
unfolding parts_of
parts_of-Element tag namespace attrs listeners children =
    ap (λ (items : List DocNode). let parts : Parts = record { tag = tag; namespace = namespace; attrs = attrs; listeners = listeners; children = items } in Some parts) (items_hidden-the_row-DocNode-0 children)

pub parts_of-Text : (text : List ℕ) → parts_of (Text text) ≡ None
unfolding parts_of
parts_of-Text text = refl

pub parts_of-Placeholder : parts_of Placeholder ≡ None
unfolding parts_of
parts_of-Placeholder = refl

pub is_text-Element : (tag : List ℕ) (namespace : Option (List ℕ)) (attrs : List DocAttr) (listeners : List (List ℕ)) (children : List DocNode) →
    is_text (Element tag namespace attrs listeners children) ≡ false
unfolding is_text
is_text-Element tag namespace attrs listeners children = refl

pub is_text-Text : (text : List ℕ) → is_text (Text text) ≡ true
unfolding is_text
is_text-Text text = refl

pub is_text-Placeholder : is_text Placeholder ≡ false
unfolding is_text
is_text-Placeholder = refl

pub numbers_row : (n : _) (row : Row_of-DocNode n) → numbers_in row ≡ numbers (items-the_row-DocNode n row)
unfolding numbers_below numbers_in
numbers_row n end_of-DocNode = refl
numbers_row n (more_of-DocNode id kind rest) = ap (λ (ns : List ℕ). id.0 ∷ (numbers_below kind ++ ns)) (numbers_row _ rest)

pub numbers_below-row : (tag : List ℕ) (namespace : Option (List ℕ)) (attrs : List DocAttr) (listeners : List (List ℕ)) (shape : _) (row : Row_of-DocNode _) →
    numbers_below (Element' tag namespace attrs listeners shape row) ≡ numbers (items-the_row-DocNode _ row)
unfolding numbers_below numbers_in
numbers_below-row tag namespace attrs listeners shape row = numbers_row _ row

pub numbers_below-Element : (tag : List ℕ) (namespace : Option (List ℕ)) (attrs : List DocAttr) (listeners : List (List ℕ)) (children : List DocNode) →
    numbers_below (Element tag namespace attrs listeners children) ≡ numbers children
unfolding numbers_below numbers_in
numbers_below-Element tag namespace attrs listeners children =
    let row = row_behind (Element tag namespace attrs listeners children) in
    numbers_row row.0 row.1 ∙ ap numbers (items_hidden-the_row-DocNode-0 children)

pub numbers_below-Text : (text : List ℕ) → numbers_below (Text text) ≡ []
unfolding numbers_below numbers_in
numbers_below-Text text = refl

pub numbers_below-Placeholder : numbers_below Placeholder ≡ []
unfolding numbers_below numbers_in
numbers_below-Placeholder = refl

found_row : (number : ℕ) (n : _) (row : Row_of-DocNode n) → found_in number row ≡ found number (items-the_row-DocNode n row)
unfolding found_below found_in
found_row number n end_of-DocNode = refl
found_row number n (more_of-DocNode id kind rest) = ap (λ (later : Option DocKind). cond (nat_eq id.0 number) (Some kind) (either (found_below number kind) later)) (found_row number _ rest)

pub found_below-Element : (number : ℕ) (tag : List ℕ) (namespace : Option (List ℕ)) (attrs : List DocAttr) (listeners : List (List ℕ)) (children : List DocNode) →
    found_below number (Element tag namespace attrs listeners children) ≡ found number children
unfolding found_below found_in
found_below-Element number tag namespace attrs listeners children =
    let row = row_behind (Element tag namespace attrs listeners children) in
    found_row number row.0 row.1 ∙ ap (found number) (items_hidden-the_row-DocNode-0 children)

pub found_below-Text : (number : ℕ) (text : List ℕ) → found_below number (Text text) ≡ None
unfolding found_below found_in
found_below-Text number text = refl

pub found_below-Placeholder : (number : ℕ) → found_below number Placeholder ≡ None
unfolding found_below found_in
found_below-Placeholder number = refl

changed_row : (number : ℕ) (change : DocNode → List DocNode) (n : _) (row : Row_of-DocNode n) → changed_in number change row ≡ changed number change (items-the_row-DocNode n row)
unfolding changed_below changed_in
changed_row number change n end_of-DocNode = refl
changed_row number change n (more_of-DocNode id kind rest) =
    let node : DocNode = record { id = id; kind = kind } in
    let below : DocNode = record { id = id; kind = changed_below number change kind } in
    ap (λ (later : List DocNode). cond (nat_eq id.0 number) (change node ++ items-the_row-DocNode _ rest) (cond (has number (numbers_below kind)) (below ∷ items-the_row-DocNode _ rest) (node ∷ later))) (changed_row number change _ rest)

pub changed_below-Element : (number : ℕ) (change : DocNode → List DocNode) (tag : List ℕ) (namespace : Option (List ℕ)) (attrs : List DocAttr) (listeners : List (List ℕ)) (children : List DocNode) →
    changed_below number change (Element tag namespace attrs listeners children) ≡ Element tag namespace attrs listeners (changed number change children)
unfolding changed_below changed_in
changed_below-Element number change tag namespace attrs listeners children =
    let row = row_behind (Element tag namespace attrs listeners children) in
    ap (λ (items : List DocNode). Element tag namespace attrs listeners items) (changed_row number change row.0 row.1 ∙ ap (changed number change) (items_hidden-the_row-DocNode-0 children))

pub changed_below-Text : (number : ℕ) (change : DocNode → List DocNode) (text : List ℕ) → changed_below number change (Text text) ≡ Text text
unfolding changed_below changed_in
changed_below-Text number change text = refl

pub changed_below-Placeholder : (number : ℕ) (change : DocNode → List DocNode) → changed_below number change Placeholder ≡ Placeholder
unfolding changed_below changed_in
changed_below-Placeholder number change = refl

pub ruleset parts = (parts_of-Element, parts_of-Text, parts_of-Placeholder, is_text-Element, is_text-Text, is_text-Placeholder)

pub ruleset kinds = (numbers_below-Element, numbers_below-Text, numbers_below-Placeholder, found_below-Element, found_below-Text, found_below-Placeholder, changed_below-Element, changed_below-Text, changed_below-Placeholder)
