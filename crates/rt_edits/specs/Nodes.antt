-- The nodes of a document: a list of nodes, each with those below it.
use Rattle.std.specs.Prelude.{ℕ, ◌+◌, Bool, true, false, ◌==◌, if◌then◌else◌, List, [], ◌∷◌, ◌++◌, Option, Some, None, nat_lt, max}
use Rattle.std.specs.List.{list_any}
use Rattle.rt_edits.specs.declared.doc_node.DocAttr.{DocAttr}
use Rattle.rt_edits.specs.declared.doc_node.DocNode.{DocNode}
use Rattle.rt_edits.specs.declared.doc_node.DocKind.{DocKind, Element', Text, Placeholder, Row_of-DocNode, end_of-DocNode, more_of-DocNode, items-the_row-DocNode}
use Rattle.rt_edits.specs.declared.doc_node.DocKind.TheVariants.{Element}

-- an element by its parts
pub record Parts : Type 0 where
  pub tag : List ℕ
  pub namespace : Option (List ℕ)
  pub attrs : List DocAttr
  pub listeners : List (List ℕ)
  pub children : List DocNode

-- the parts of a node that is an element
unfoldable pub parts_of : DocKind → Option Parts
parts_of (Element' tag namespace attrs listeners shape row) =
    Some (record { tag = tag; namespace = namespace; attrs = attrs; listeners = listeners; children = items-the_row-DocNode _ row })
parts_of (Text text) = None
parts_of Placeholder = None

-- an element of these parts
abbrev pub element_of : Parts → DocKind
element_of parts = Element parts.tag parts.namespace parts.attrs parts.listeners parts.children

-- whether a node is a text
unfoldable pub is_text : DocKind → Bool
is_text (Element' tag namespace attrs listeners shape row) = false
is_text (Text text) = true
is_text Placeholder = false

-- the numbers below a node of this kind, in document order
unfoldable mutual
  pub numbers_below : DocKind → List ℕ
  numbers_below (Element' tag namespace attrs listeners shape row) = numbers_in row
  numbers_below (Text text) = []
  numbers_below Placeholder = []

  pub numbers_in : {m : _} → Row_of-DocNode m → List ℕ
  numbers_in end_of-DocNode = []
  numbers_in (more_of-DocNode id kind rest) = id.0 ∷ (numbers_below kind ++ numbers_in rest)

-- the numbers of nodes and of all below them, in document order
abbrev pub numbers : List DocNode → List ℕ
numbers [] = []
numbers (node ∷ nodes) = node.id.0 ∷ (numbers_below node.kind ++ numbers nodes)

-- whether a number is among these
abbrev pub has : ℕ → List ℕ → Bool
has number all = list_any (λ other. other == number) all

-- how often a number stands among these
abbrev pub times : ℕ → List ℕ → ℕ
times number [] = 0
times number (other ∷ all) = (if other == number then 1 else 0) + times number all

-- what was found first
abbrev pub either : Option DocKind → Option DocKind → Option DocKind
either None other = other
either (Some kind) other = Some kind

-- the kind of the first node of a number below a node of this kind
unfoldable mutual
  pub found_below : ℕ → DocKind → Option DocKind
  found_below number (Element' tag namespace attrs listeners shape row) = found_in number row
  found_below number (Text text) = None
  found_below number Placeholder = None

  pub found_in : {m : _} → ℕ → Row_of-DocNode m → Option DocKind
  found_in number end_of-DocNode = None
  found_in number (more_of-DocNode id kind rest) = if id.0 == number then Some kind
      else either (found_below number kind) (found_in number rest)

-- the kind of the first node of a number, in document order
abbrev pub found : ℕ → List DocNode → Option DocKind
found number [] = None
found number (node ∷ nodes) = if node.id.0 == number then Some node.kind else either (found_below number node.kind) (found number nodes)

-- a node's kind with the first node of a number put through a change, below it
unfoldable mutual
  pub changed_below : ℕ → (DocNode → List DocNode) → DocKind → DocKind
  changed_below number change (Element' tag namespace attrs listeners shape row) =
      Element tag namespace attrs listeners (changed_in number change row)
  changed_below number change (Text text) = Text text
  changed_below number change Placeholder = Placeholder

  pub changed_in : {m : _} → ℕ → (DocNode → List DocNode) → Row_of-DocNode m → List DocNode
  changed_in number change end_of-DocNode = []
  changed_in number change (more_of-DocNode id kind rest) =
      if id.0 == number
      then change (record { id = id; kind = kind }) ++ items-the_row-DocNode _ rest
      else (if has number (numbers_below kind)
      then record { id = id; kind = changed_below number change kind } ∷ items-the_row-DocNode _ rest
      else record { id = id; kind = kind } ∷ changed_in number change rest)

-- nodes with others in the place of the first one of a number, wherever it stands
abbrev pub changed : ℕ → (DocNode → List DocNode) → List DocNode → List DocNode
changed number change [] = []
changed number change (node ∷ nodes) =
    if node.id.0 == number
    then change node ++ nodes
    else (if has number (numbers_below node.kind)
    then record { id = node.id; kind = changed_below number change node.kind } ∷ nodes
    else node ∷ changed number change nodes)

-- the last of numbers that rise, one after the other, from above a first one
abbrev pub rising : ℕ → List ℕ → Option ℕ
rising last [] = Some last
rising last (number ∷ all) = if nat_lt last number then rising number all else None

-- the same from where others have risen to
abbrev pub rising_on : Option ℕ → List ℕ → Option ℕ
rising_on None all = None
rising_on (Some last) all = rising last all

-- the greatest of numbers, or 0
abbrev pub greatest : List ℕ → ℕ
greatest [] = 0
greatest (number ∷ all) = max number (greatest all)
