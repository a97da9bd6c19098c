-- Worked rows of edits that a document refuses, and of attributes with namespaces.
use Rattle.std.specs.Prelude.{codes, [], ◌∷◌, Some, None, List, Ok, Err, ◌≡◌}
use Rattle.rt_model.specs.Lists.{Text}
use Rattle.rt_model.specs.Document.{DocAttribute, DocElement, DocText, DocPlaceholder, Forest, Empty, Node, Edit, AppendChildren, ReplaceNodeWith, InsertNodesAfter, RemoveNode, SetNodeText, SetAttribute, CreateEventListener, RemoveEventListener, DocFault, UnknownId, WrongKind, RepeatedId, apply, document_after}

-- an attribute without a namespace
abbrev pub plain : Text → Text → DocAttribute
plain name value = record { name = name; namespace = None; value = value }

-- an attribute with a namespace
abbrev pub within : Text → Text → Text → DocAttribute
within namespace name value = record { name = name; namespace = Some namespace; value = value }

-- an element with an attribute, a listener, a text and a placeholder
abbrev pub listening : Forest
listening =
    Node 1 (DocElement (codes "div") None (plain (codes "id") (codes "a") ∷ []) ((codes "onclick") ∷ [])) (Node 2 (DocText (codes
    "hello")) Empty (Node 3 DocPlaceholder Empty Empty)) Empty

-- an edit that this document refuses for this fault
abbrev pub Refuses : DocFault → List Edit → Type 0
Refuses fault [] = Unit {0}
Refuses fault (edit ∷ edits) = (apply edit listening ≡ Err fault) × Refuses fault edits

-- the row of edits that name no node, before all else
abbrev pub UnknownRow : Type 0
UnknownRow =
    Refuses
    UnknownId
    (RemoveNode 9
    ∷ AppendChildren 9 (Node 4 (DocText (codes "x")) Empty Empty)
    ∷ SetNodeText 9 (codes "x")
    ∷ SetAttribute 9 (codes "id") None (Some (codes "b"))
    ∷ AppendChildren 9 (Node 0 (DocText (codes "x")) Empty Empty)
    ∷ [])

-- the row of edits that name a node of another kind, before repeated numbers
abbrev pub KindRow : Type 0
KindRow =
    Refuses
    WrongKind
    (SetNodeText 1 (codes "x")
    ∷ SetNodeText 3 (codes "x")
    ∷ AppendChildren 2 (Node 4 (DocText (codes "x")) Empty Empty)
    ∷ SetAttribute 2 (codes "id") None (Some (codes "b"))
    ∷ CreateEventListener 3 (codes "onkey")
    ∷ CreateEventListener 1 (codes "onclick")
    ∷ RemoveEventListener 1 (codes "onkey")
    ∷ ReplaceNodeWith 0 Empty
    ∷ InsertNodesAfter 0 (Node 4 (DocText (codes "x")) Empty Empty)
    ∷ RemoveNode 0
    ∷ SetNodeText 0 (codes "x")
    ∷ AppendChildren 2 (Node 1 (DocText (codes "x")) Empty Empty)
    ∷ [])

-- the row of edits that bring a number which is 0, is there already or comes twice
abbrev pub RepeatedRow : Type 0
RepeatedRow =
    Refuses
    RepeatedId
    (AppendChildren 1 (Node 2 (DocText (codes "x")) Empty Empty)
    ∷ AppendChildren 1 (Node 0 (DocText (codes "x")) Empty Empty)
    ∷ AppendChildren 1 (Node 4 (DocText (codes "x")) Empty (Node 4 (DocText (codes "x")) Empty Empty))
    ∷ ReplaceNodeWith 2 (Node 2 (DocText (codes "x")) Empty Empty)
    ∷ InsertNodesAfter 3 (Node 4 (DocElement (codes "b") None [] []) (Node 4 (DocText (codes "x")) Empty Empty) Empty)
    ∷ AppendChildren 0 (Node 3 (DocText (codes "x")) Empty Empty)
    ∷ [])

-- the document after edits is this one
abbrev pub Becomes : List Edit → Forest → Type 0
Becomes edits after = document_after edits listening ≡ Ok after

-- the row of attributes: they ascend by namespace, none first, and then by name
abbrev pub OrderRow : Type 0
OrderRow =
    Becomes
    (SetAttribute 1 (codes "id") (Some (codes "x")) (Some (codes "b"))
    ∷ SetAttribute 1 (codes "aa") (Some (codes "x")) (Some (codes "c"))
    ∷ SetAttribute 1 (codes "zz") None (Some (codes "d"))
    ∷ SetAttribute 1 (codes "id") (Some (codes "w")) (Some (codes "e"))
    ∷ SetAttribute 1 (codes "id") (Some (codes "x")) (Some (codes "f"))
    ∷ [])
    (Node 1 (DocElement (codes "div") None (plain (codes "id") (codes "a") ∷ plain (codes "zz") (codes "d") ∷ within (codes "w") (codes
    "id") (codes "e") ∷ within (codes "x") (codes "aa") (codes "c") ∷ within (codes "x") (codes "id") (codes "f") ∷ []) ((codes "onclick")
    ∷ [])) (Node 2 (DocText (codes "hello")) Empty (Node 3 DocPlaceholder Empty Empty)) Empty)

-- the row of attributes that go, one of them not there
abbrev pub GoneRow : Type 0
GoneRow =
    Becomes
    (SetAttribute 1 (codes "id") (Some (codes "x")) (Some (codes "b"))
    ∷ SetAttribute 1 (codes "aa") (Some (codes "x")) (Some (codes "c"))
    ∷ SetAttribute 1 (codes "zz") None (Some (codes "d"))
    ∷ SetAttribute 1 (codes "id") (Some (codes "w")) (Some (codes "e"))
    ∷ SetAttribute 1 (codes "id") (Some (codes "x")) (Some (codes "f"))
    ∷ SetAttribute 1 (codes "id") None None
    ∷ SetAttribute 1 (codes "id") (Some (codes "w")) None
    ∷ SetAttribute 1 (codes "id") (Some (codes "v")) None
    ∷ [])
    (Node 1 (DocElement (codes "div") None (plain (codes "zz") (codes "d") ∷ within (codes "x") (codes "aa") (codes "c") ∷ within (codes
    "x") (codes "id") (codes "f") ∷ []) ((codes "onclick") ∷ [])) (Node 2 (DocText (codes "hello")) Empty (Node 3 DocPlaceholder Empty
    Empty)) Empty)
