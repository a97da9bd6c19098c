-- What is read of the parts of a text: names, texts, attributes, and the nodes so far.
use Rattle.std.specs.Prelude.{ℕ, Bool, true, false, List, [], ◌∷◌, ◌++◌, Option, Some, None, if◌then◌else◌, nat_eq, nat_le, length, map, reverse, codes}
use Rattle.std.specs.List.{flat_map, fold, slice_split}
use Rattle.rt_model.specs.Document.{DocAttribute, Content, DocElement, DocText, DocPlaceholder, Forest, Empty, Node, join_rows}
use Rattle.rt_model.specs.Lists.{Text}
use Rattle.rt_edits.specs.declared.doc_node.DocAttr.{DocAttr}
use Rattle.tree_edits.specs.Documents.{doc_attribute_of}
use Rattle.rt_html.specs.declared.reader.Open.{Open}
use Rattle.rt_html.specs.declared.reader.Reader.{Reader}
use Rattle.rt_html.specs.Reading.{plain_row}

-- what stands before the first byte of this code, or all where there is none
abbrev pub up_to : ℕ → Text → Text
up_to code [] = []
up_to code (byte ∷ bytes) = if nat_eq byte code then [] else byte ∷ up_to code bytes

-- what stands behind it, where there is one
abbrev pub past : ℕ → Text → Option Text
past code [] = None
past code (byte ∷ bytes) = if nat_eq byte code then Some bytes else past code bytes

-- the parts between the bytes of this code
abbrev pub parts_at : ℕ → Text → List Text
parts_at code text = slice_split (λ (byte : ℕ). nat_eq byte code) text

-- what stands behind these bytes, where the text begins with them
abbrev pub behind : Text → Text → Option Text
behind [] text = Some text
behind (byte ∷ bytes) [] = None
behind (byte ∷ bytes) (first ∷ text) = if nat_eq first byte then behind bytes text else None

-- a text that may be there, or else another one
abbrev pub or_else : Option Text → Text → Text
or_else None otherwise = otherwise
or_else (Some text) otherwise = text

-- a character before what stands behind its name, or else another text
abbrev pub named_first : Option Text → ℕ → Text → Text
named_first None code otherwise = otherwise
named_first (Some rest) code otherwise = code ∷ rest

-- what follows a `&`, by the names of the five characters
abbrev pub unnamed : Text → Text
unnamed part =
    named_first (behind (codes "amp;") part) 38
    (named_first (behind (codes "lt;") part) 60
    (named_first (behind (codes "gt;") part) 62
    (named_first (behind (codes "quot;") part) 34
    (named_first (behind (codes "#10;") part) 10 []))))

-- the first part of a text as it is, or what follows a `&`
abbrev pub part_read : Bool → Text → Text
part_read true part = part
part_read false part = unnamed part

-- a text by the parts between its `&`, or by what is left of them
abbrev pub parts_read : Bool → List Text → Text
parts_read is_first [] = []
parts_read is_first (part ∷ later) = part_read is_first part ++ parts_read false later

-- the text that is spelt so
abbrev pub unescaped : Text → Text
unescaped spelt = parts_read true (parts_at 38 spelt)

-- a name by what stands behind its first colon, where there is one
abbrev pub name_by : Option Text → Text → Option Text × Text
name_by None spelt = (None, spelt)
name_by (Some name) spelt = (Some (up_to 58 spelt), name)

-- a namespace and a name
abbrev pub name_in : Text → Option Text × Text
name_in spelt = name_by (past 58 spelt) spelt

-- the name of an attribute, by what stands before its first quote
abbrev pub name_before : Text → Option Text × Text
name_before before = name_in (up_to 61 (or_else (behind (codes " ") before) before))

-- an attribute by its name and what stands between its quotes
abbrev pub attribute_by : Option Text × Text → Text → DocAttribute
attribute_by name value = record { name = name.1; namespace = name.0; value = unescaped value }

-- the attributes so far, and the name of a value that comes next
pub record Taking : Type 0 where
  pub done : List DocAttribute
  pub held : Option (Option Text × Text)

-- those of the code
abbrev pub taking_of : List DocAttr → Option (Option Text × Text) → Taking
taking_of done held = record { done = map doc_attribute_of done; held = held }

-- one more part between quotes
abbrev pub taken_by : Option (Option Text × Text) → List DocAttribute → Text → Taking
taken_by None done part = record { done = done; held = Some (name_before part) }
taken_by (Some name) done part = record { done = done ++ attribute_by name part ∷ []; held = None }

abbrev pub take_part : Taking → Text → Taking
take_part taking part = taken_by taking.held taking.done part

-- the attributes of an element
abbrev pub attributes_in : Text → List DocAttribute
attributes_in spelt = (fold take_part (record { done = []; held = None }) (parts_at 34 spelt)).done

-- an element that is open: how it began, and the nodes before it in its row
pub record Opened : Type 0 where
  pub namespace : Option Text
  pub tag : Text
  pub attributes : List DocAttribute
  pub before : Forest

-- the row that is under way, and the elements that are open around it, the last one first
pub record Standing : Type 0 where
  pub row : Forest
  pub opened : List Opened

-- one more node in the row
abbrev pub added : Content → Forest → Standing → Standing
added content below standing = record { row = join_rows standing.row (Node 0 content below Empty); opened = standing.opened }

-- an element begins, unless 1,024 are open
abbrev pub begin : Option Text → Text → List DocAttribute → Standing → Option Standing
begin namespace tag attributes standing =
    if nat_le 1024 (length standing.opened) then None else Some (record {
      row = Empty;
      opened = record { namespace = namespace; tag = tag; attributes = attributes; before = standing.row } ∷ standing.opened;
    })

-- the element that began last ends, where one is open
abbrev pub end_by : List Opened → Forest → Option Standing
end_by [] row = None
end_by (element ∷ later) row = Some (record {
  row = join_rows element.before (Node 0 (DocElement element.tag element.namespace element.attributes []) row Empty);
  opened = later;
})

-- how an element begins: its name, and its attributes behind the first space
abbrev pub begin_in : Text → Standing → Option Standing
begin_in spelt standing =
    let name : Option Text × Text = name_in (up_to 32 spelt) in
    begin name.0 name.1 (attributes_in (or_else (past 32 spelt) [])) standing

-- a text behind its mark, a placeholder, an end, or else something other
abbrev pub text_or : Option Text → Standing → Option Standing → Option Standing
text_or None standing otherwise = otherwise
text_or (Some spelt) standing otherwise = Some (added (DocText (unescaped spelt)) Empty standing)

abbrev pub placeholder_or : Option Text → Standing → Option Standing → Option Standing
placeholder_or None standing otherwise = otherwise
placeholder_or (Some rest) standing otherwise = Some (added DocPlaceholder Empty standing)

abbrev pub end_or : Option Text → Standing → Option Standing → Option Standing
end_or None standing otherwise = otherwise
end_or (Some rest) standing otherwise = end_by standing.opened standing.row

-- what stands behind a `<`, up to the next one
abbrev pub take_token : Text → Standing → Option Standing
take_token part standing =
    text_or (behind (codes "!--t-->") part) standing
    (placeholder_or (behind (codes "!--p-->") part) standing
    (end_or (behind (codes "/") part) standing
    (begin_in (up_to 62 part) standing)))

-- the same, unless something was refused before
abbrev pub take_on : Option Standing → Text → Option Standing
take_on None part = None
take_on (Some standing) part = take_token part standing

-- the row, where no element is left open
abbrev pub finished_by : List Opened → Forest → Option Forest
finished_by [] row = Some row
finished_by (element ∷ later) row = None

abbrev pub finished : Option Standing → Option Forest
finished None = None
finished (Some standing) = finished_by standing.opened standing.row

-- what is read of parts, from the start
abbrev pub take_all : List Text → Option Standing
take_all parts = fold take_on (Some (record { row = Empty; opened = [] })) parts

-- nodes by what stands behind the first `<`, where there is one
abbrev pub nodes_by : Option Text → Option Forest
nodes_by None = Some Empty
nodes_by (Some rest) = finished (take_all (parts_at 60 rest))

-- the nodes that are read of a text before they are written again
abbrev pub nodes_in : Text → Option Forest
nodes_in text = nodes_by (past 60 text)

-- an open element of the code
abbrev pub opened_of : Open → Opened
opened_of element = record {
  namespace = element.begin.namespace;
  tag = element.begin.tag;
  attributes = map doc_attribute_of element.begin.attrs;
  before = plain_row element.before;
}

-- how far a reader is, unless it has refused something
unfoldable pub standing_of : Reader → Option Standing
standing_of reader =
    if reader.is_refused then None
    else Some (record { row = plain_row reader.row; opened = reverse (map opened_of reader.around) })
