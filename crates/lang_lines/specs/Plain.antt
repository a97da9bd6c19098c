-- What is printed plainly: numbers have at most 64 bits, and the bytes of a name are such as no other part of a line begins with.
use Rattle.std.specs.Prelude.{◌^◌, ◌<◌, ◌≡◌, true, Option, Some, None}
use Rattle.std.specs.List.{AllByRecursion}
use Rattle.rt_model.specs.Lists.{Text}
use Rattle.rt_model.specs.Document.{DocAttribute, Content, DocElement, DocText, DocPlaceholder, Forest, Empty, Node, Edit, AppendChildren, ReplaceNodeWith, InsertNodesAfter, RemoveNode, SetNodeText, SetAttribute, CreateEventListener, RemoveEventListener}
use Rattle.rt_model.specs.State.{Fault, OutOfTurns, TooDeep, IdsExhausted, HookChanged, NoSuchTask, BadNode}
use Rattle.rt_model.specs.Replay.{Post, MarkScope, WakeTask, AllDirty, Message}
use Rattle.rt_values.specs.Naming.{is_name_byte}

-- the bytes that names are made of, if any: ASCII letters and digits, `-` and `_`
abbrev pub AreNameBytes : Text → Type 0
AreNameBytes text = AllByRecursion (λ byte. is_name_byte byte ≡ true) text

-- a namespace, where there is one, has such bytes alone
abbrev pub AreSpaceBytes : Option Text → Type 0
AreSpaceBytes None = Unit {0}
AreSpaceBytes (Some namespace) = AreNameBytes namespace

-- an attribute whose name and namespace are such; its value is any text
abbrev pub IsPlainAttribute : DocAttribute → Type 0
IsPlainAttribute a = AreSpaceBytes a.namespace × AreNameBytes a.name

-- an element whose names are such; a text is any text
abbrev pub IsPlainContent : Content → Type 0
IsPlainContent (DocElement tag namespace attributes listeners) =
    AreSpaceBytes namespace × AreNameBytes tag × AllByRecursion IsPlainAttribute attributes × AllByRecursion AreNameBytes listeners
IsPlainContent (DocText text) = Unit {0}
IsPlainContent DocPlaceholder = Unit {0}

-- only an element has children
abbrev pub HasKids : Content → Forest → Type 0
HasKids (DocElement tag namespace attributes listeners) children = Unit {0}
HasKids (DocText text) children = children ≡ Empty
HasKids DocPlaceholder children = children ≡ Empty

-- so are all nodes of a row, and those below them
abbrev pub IsPlainForest : Forest → Type 0
IsPlainForest Empty = Unit {0}
IsPlainForest (Node id content children rest) =
    (id < 2 ^ 64) × IsPlainContent content × HasKids content children × IsPlainForest children × IsPlainForest rest

-- an edit with such nodes and names
abbrev pub IsPlainEdit : Edit → Type 0
IsPlainEdit (AppendChildren id nodes) = (id < 2 ^ 64) × IsPlainForest nodes
IsPlainEdit (ReplaceNodeWith id nodes) = (id < 2 ^ 64) × IsPlainForest nodes
IsPlainEdit (InsertNodesAfter id nodes) = (id < 2 ^ 64) × IsPlainForest nodes
IsPlainEdit (RemoveNode id) = id < 2 ^ 64
IsPlainEdit (SetNodeText id text) = id < 2 ^ 64
IsPlainEdit (SetAttribute id name namespace value) = (id < 2 ^ 64) × AreSpaceBytes namespace × AreNameBytes name
IsPlainEdit (CreateEventListener id name) = (id < 2 ^ 64) × AreNameBytes name
IsPlainEdit (RemoveEventListener id name) = (id < 2 ^ 64) × AreNameBytes name

-- a fault with such numbers
abbrev pub IsSmallFault : Fault → Type 0
IsSmallFault (OutOfTurns units) = units < 2 ^ 64
IsSmallFault (TooDeep height) = height < 2 ^ 64
IsSmallFault (IdsExhausted what) = Unit {0}
IsSmallFault (HookChanged scope index kept asked) = (scope < 2 ^ 64) × (index < 2 ^ 64) × (kept < 2 ^ 64) × (asked < 2 ^ 64)
IsSmallFault (NoSuchTask scope task) = (scope < 2 ^ 64) × (task < 2 ^ 64)
IsSmallFault (BadNode scope) = scope < 2 ^ 64

-- what a message asks for, with such a number
abbrev pub IsSmallPost : Post → Type 0
IsSmallPost (MarkScope s) = s < 2 ^ 64
IsSmallPost (WakeTask t) = t < 2 ^ 64
IsSmallPost AllDirty = Unit {0}

-- a message with such numbers
abbrev pub IsSmallMessage : Message → Type 0
IsSmallMessage m = (m.poster < 2 ^ 64) × (m.sequence < 2 ^ 64) × IsSmallPost m.what
