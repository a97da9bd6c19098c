-- A document as plain data, the eight edits, and the document after edits.
use Rattle.std.specs.Prelude.{ℕ, ◌+◌, Bool, true, false, ◌&&◌, ◌||◌, nat_eq, nat_lt, List, [], ◌∷◌, Option, Some, None, Result, Ok, Err, if◌then◌else◌}
use Rattle.rt_model.specs.Lists.{Text, first_of, same_numbers, earlier_text, same_option, same_list}

-- an attribute of a document's element
pub record DocAttribute : Type 0 where
  pub name : Text
  pub namespace : Option Text
  pub value : Text

-- what a node is, without its number and children: attributes ascend by namespace (none first) and name, listeners by name
pub data Content : Type 0 where
  DocElement : (tag : Text) (namespace : Option Text) (attributes : List DocAttribute) (listeners : List Text) → Content
  DocText : (text : Text) → Content
  DocPlaceholder : Content

-- a row of numbered nodes, each with the row of its children and the rest of its own row
pub data Forest : Type 0 where
  Empty : Forest
  Node : (id : ℕ) (content : Content) (children rest : Forest) → Forest

-- the eight edits; a node is named by its number, and 0 is the document's own row
pub data Edit : Type 0 where
  AppendChildren : (id : ℕ) (nodes : Forest) → Edit
  ReplaceNodeWith : (id : ℕ) (nodes : Forest) → Edit
  InsertNodesAfter : (id : ℕ) (nodes : Forest) → Edit
  RemoveNode : (id : ℕ) → Edit
  SetNodeText : (id : ℕ) (text : Text) → Edit
  SetAttribute : (id : ℕ) (name : Text) (namespace : Option Text) (value : Option Text) → Edit
  CreateEventListener : (id : ℕ) (name : Text) → Edit
  RemoveEventListener : (id : ℕ) (name : Text) → Edit

-- why an edit is refused
pub data DocFault : Type 0 where
  UnknownId : DocFault
  WrongKind : DocFault
  RepeatedId : DocFault

-- one row and then another
abbrev pub join_rows : Forest → Forest → Forest
join_rows Empty g = g
join_rows (Node id content children rest) g = Node id content children (join_rows rest g)

-- one node without children
abbrev pub leaf : ℕ → Content → Forest
leaf id content = Node id content Empty Empty

-- none comes before every namespace
abbrev pub earlier_namespace : Option Text → Option Text → Bool
earlier_namespace None None = false
earlier_namespace None (Some b) = true
earlier_namespace (Some a) None = false
earlier_namespace (Some a) (Some b) = earlier_text a b

-- an attribute has this name and namespace
abbrev pub same_key : DocAttribute → Text → Option Text → Bool
same_key a name namespace = same_numbers a.name name && same_option same_numbers a.namespace namespace

-- the order of attributes: by namespace, then by name
abbrev pub earlier_key : DocAttribute → DocAttribute → Bool
earlier_key a b =
    earlier_namespace a.namespace b.namespace || (same_option same_numbers a.namespace b.namespace && earlier_text a.name b.name)

-- an attribute takes its place in the order, in place of one with its name and namespace
abbrev pub with_attribute : List DocAttribute → DocAttribute → List DocAttribute
with_attribute [] a = a ∷ []
with_attribute (b ∷ rest) a =
    if same_key b a.name a.namespace then a ∷ rest else (if earlier_key a b then a ∷ b ∷ rest else b ∷ with_attribute rest a)

-- the attribute with this name and namespace goes
abbrev pub without_attribute : List DocAttribute → Text → Option Text → List DocAttribute
without_attribute [] name namespace = []
without_attribute (b ∷ rest) name namespace = if same_key b name namespace then rest else b ∷ without_attribute rest name namespace

-- an attribute is set, or goes where the value is none
abbrev pub set_attribute : List DocAttribute → Text → Option Text → Option Text → List DocAttribute
set_attribute attributes name namespace None = without_attribute attributes name namespace
set_attribute attributes name namespace (Some value) =
    with_attribute attributes (record { name = name; namespace = namespace; value = value })

-- a listener's name takes its place in the order, once
abbrev pub with_listener : List Text → Text → List Text
with_listener [] n = n ∷ []
with_listener (m ∷ ms) n = if same_numbers m n then m ∷ ms else (if earlier_text n m then n ∷ m ∷ ms else m ∷ with_listener ms n)

-- a listener's name goes
abbrev pub without_listener : List Text → Text → List Text
without_listener [] n = []
without_listener (m ∷ ms) n = if same_numbers m n then ms else m ∷ without_listener ms n

-- a name is among these
abbrev pub has_text : List Text → Text → Bool
has_text [] n = false
has_text (m ∷ ms) n = same_numbers m n || has_text ms n

-- a node with this number stands in the forest
abbrev pub is_in : ℕ → Forest → Bool
is_in i Empty = false
is_in i (Node id content children rest) = nat_eq id i || (is_in i children || is_in i rest)

-- the forest with the node of this number put through a change of it and the rest of its row
abbrev pub changed : ℕ → (ℕ → Content → Forest → Forest → Forest) → Forest → Forest
changed i f Empty = Empty
changed i f (Node id content children rest) =
    if nat_eq id i
    then f id content children rest
    else (if is_in i children then Node id content (changed i f children) rest else Node id content children (changed i f rest))

-- what the node with this number is
abbrev pub content_of : ℕ → Forest → Option Content
content_of i Empty = None
content_of i (Node id content children rest) =
    if nat_eq id i then Some content else first_of (content_of i children) (content_of i rest)

-- how often a number stands in the forest
abbrev pub count_of : ℕ → Forest → ℕ
count_of i Empty = 0
count_of i (Node id content children rest) = (if nat_eq id i then 1 else 0) + (count_of i children + count_of i rest)

-- a carried number is 0, is there already, or comes twice
abbrev pub is_taken : Forest → Forest → ℕ → Bool
is_taken document carried id = nat_eq id 0 || (is_in id document || nat_lt 1 (count_of id carried))

-- a carried forest has a number that may not come in
abbrev pub clashes : Forest → Forest → Forest → Bool
clashes document carried Empty = false
clashes document carried (Node id content children rest) =
    is_taken document carried id || (clashes document carried children || clashes document carried rest)

-- the document with a carried forest, where none of its numbers clashes
abbrev pub if_fresh : Forest → Forest → Forest → Result Forest DocFault
if_fresh document nodes after = if clashes document nodes nodes then Err RepeatedId else Ok after

-- the node that an edit names, where that isn't an append to 0
abbrev pub on_found : ℕ → Option Content → (Content → Result Forest DocFault) → Result Forest DocFault
on_found i None f = if nat_eq i 0 then Err WrongKind else Err UnknownId
on_found i (Some content) f = f content

-- only an element
abbrev pub on_element : Content → (Text → Option Text → List DocAttribute → List Text → Result Forest DocFault) → Result Forest DocFault
on_element (DocElement tag namespace attributes listeners) f = f tag namespace attributes listeners
on_element (DocText text) f = Err WrongKind
on_element DocPlaceholder f = Err WrongKind

-- only a text
abbrev pub on_text : Content → Result Forest DocFault → Result Forest DocFault
on_text (DocElement tag namespace attributes listeners) r = Err WrongKind
on_text (DocText text) r = r
on_text DocPlaceholder r = Err WrongKind

-- the node with other content
abbrev pub with_content : Content → ℕ → Content → Forest → Forest → Forest
with_content new id content children rest = Node id new children rest

-- the document after an edit, or the first fault in the order unknown number, wrong kind, repeated number
abbrev pub apply : Edit → Forest → Result Forest DocFault
apply (AppendChildren id nodes) d =
    if nat_eq id 0
    then if_fresh d nodes (join_rows d nodes)
    else
    on_found
    id
    (content_of id d)
    (λ c. on_element c (λ tag ns attributes ls.
    if_fresh d nodes (changed id (λ i content children rest. Node i content (join_rows children nodes) rest) d)))
apply (ReplaceNodeWith id nodes) d =
    on_found id (content_of id d) (λ c. if_fresh d nodes (changed id (λ i content children rest. join_rows nodes rest) d))
apply (InsertNodesAfter id nodes) d =
    on_found id (content_of id d) (λ c.
    if_fresh d nodes (changed id (λ i content children rest. Node i content children (join_rows nodes rest)) d))
apply (RemoveNode id) d = on_found id (content_of id d) (λ c. Ok (changed id (λ i content children rest. rest) d))
apply (SetNodeText id text) d = on_found id (content_of id d) (λ c. on_text c (Ok (changed id (with_content (DocText text)) d)))
apply (SetAttribute id name namespace value) d =
    on_found
    id
    (content_of id d)
    (λ c. on_element c (λ tag ns attributes ls.
    Ok (changed id (with_content (DocElement tag ns (set_attribute attributes name namespace value) ls)) d)))
apply (CreateEventListener id name) d =
    on_found
    id
    (content_of id d)
    (λ c. on_element c (λ tag ns attributes ls. if has_text ls name then Err WrongKind
    else Ok (changed id (with_content (DocElement tag ns attributes (with_listener ls name))) d)))
apply (RemoveEventListener id name) d =
    on_found
    id
    (content_of id d)
    (λ c. on_element c (λ tag ns attributes ls. if has_text ls name
    then Ok (changed id (with_content (DocElement tag ns attributes (without_listener ls name))) d) else Err WrongKind))

-- the next edit, unless one has faulted
abbrev pub and_then : Result Forest DocFault → (Forest → Result Forest DocFault) → Result Forest DocFault
and_then (Ok d) f = f d
and_then (Err e) f = Err e

-- the document after edits, or the first fault
abbrev pub document_after : List Edit → Forest → Result Forest DocFault
document_after [] d = Ok d
document_after (e ∷ es) d = and_then (apply e d) (λ after. document_after es after)

-- equal documents and edits, as tests

-- equal attributes of a document
abbrev pub same_doc_attribute : DocAttribute → DocAttribute → Bool
same_doc_attribute a b = same_key a b.name b.namespace && same_numbers a.value b.value

-- equal contents of nodes
abbrev pub same_content : Content → Content → Bool
same_content (DocElement t n a l) (DocElement u m b k) =
    same_numbers t u && same_option same_numbers n m && same_list same_doc_attribute a b && same_list same_numbers l k
same_content (DocText t) (DocText u) = same_numbers t u
same_content DocPlaceholder DocPlaceholder = true
same_content _ _ = false

-- equal forests
abbrev pub same_forest : Forest → Forest → Bool
same_forest Empty Empty = true
same_forest (Node i c k r) (Node j d l q) = nat_eq i j && same_content c d && same_forest k l && same_forest r q
same_forest _ _ = false

-- equal edits
abbrev pub same_edit : Edit → Edit → Bool
same_edit (AppendChildren i f) (AppendChildren j g) = nat_eq i j && same_forest f g
same_edit (ReplaceNodeWith i f) (ReplaceNodeWith j g) = nat_eq i j && same_forest f g
same_edit (InsertNodesAfter i f) (InsertNodesAfter j g) = nat_eq i j && same_forest f g
same_edit (RemoveNode i) (RemoveNode j) = nat_eq i j
same_edit (SetNodeText i t) (SetNodeText j u) = nat_eq i j && same_numbers t u
same_edit (SetAttribute i n a v) (SetAttribute j m b u) =
    nat_eq i j && same_numbers n m && same_option same_numbers a b && same_option same_numbers v u
same_edit (CreateEventListener i n) (CreateEventListener j m) = nat_eq i j && same_numbers n m
same_edit (RemoveEventListener i n) (RemoveEventListener j m) = nat_eq i j && same_numbers n m
same_edit _ _ = false
