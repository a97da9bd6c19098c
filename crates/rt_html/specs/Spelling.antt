-- How a document is spelt in HTML: its nodes without their numbers and listeners.
use Rattle.std.specs.Prelude.{ℕ, Bool, true, ◌&&◌, nat_eq, List, [], ◌∷◌, ◌++◌, Option, Some, None, if◌then◌else◌, codes, decimal}
use Rattle.std.specs.List.{flat_map, list_all}
use Rattle.rt_language.specs.Lines.{qualified}
use Rattle.rt_model.specs.Document.{DocAttribute, Content, DocElement, DocText, DocPlaceholder, Forest, Empty, Node}
use Rattle.rt_model.specs.Lists.{Text}
use Rattle.rt_values.specs.Naming.{is_name}

-- the name by which a character of this code is spelt, or else this text: five have names
abbrev pub named_or : ℕ → Text → Text
named_or code plain =
    if nat_eq code 38 then codes "&amp;"
    else (if nat_eq code 60 then codes "&lt;"
    else (if nat_eq code 62 then codes "&gt;"
    else (if nat_eq code 34 then codes "&quot;"
    else (if nat_eq code 10 then codes "&#10;" else plain))))

-- a byte of a text as it is spelt
abbrev pub escape : ℕ → Text
escape byte = named_or byte (byte ∷ [])

-- a text as it is spelt
abbrev pub escaped : Text → Text
escaped text = flat_map escape text

-- an attribute, with a space before it
abbrev pub attribute_html : DocAttribute → Text
attribute_html a = codes " " ++ (qualified a.namespace a.name ++ (codes "=\"" ++ (escaped a.value ++ codes "\"")))

-- how an element begins, and how it ends
abbrev pub opening : Option Text → Text → List DocAttribute → Text
opening namespace tag attributes = codes "<" ++ (qualified namespace tag ++ (flat_map attribute_html attributes ++ codes ">"))

abbrev pub closing : Option Text → Text → Text
closing namespace tag = codes "</" ++ (qualified namespace tag ++ codes ">")

-- a node, where the spelling of what stands below it is known
abbrev pub node_html : Content → Text → Text
node_html (DocElement tag namespace attributes listeners) inner = opening namespace tag attributes ++ (inner ++ closing namespace tag)
node_html (DocText text) inner = codes "<!--t-->" ++ escaped text
node_html DocPlaceholder inner = codes "<!--p-->"

-- nodes in a row, each with what stands below it
abbrev pub html : Forest → Text
html Empty = []
html (Node number content children rest) = node_html content (html children) ++ html rest

-- a page: nodes, and a newline
abbrev pub page_html : Forest → Text
page_html nodes = html nodes ++ codes "\n"

-- a piece: nodes in a template of this number, and a newline
abbrev pub piece_html : ℕ → Forest → Text
piece_html number nodes = codes "<template id=\"" ++ (decimal number ++ (codes "\">" ++ (html nodes ++ codes "</template>\n")))

-- a namespace is a name, where there is one
abbrev pub is_namespace : Option Text → Bool
is_namespace None = true
is_namespace (Some namespace) = is_name namespace

-- the names of attributes can be spelt
abbrev pub attributes_namable : List DocAttribute → Bool
attributes_namable attributes = list_all (λ (a : DocAttribute). is_name a.name && is_namespace a.namespace) attributes

-- the names of a node can be spelt
abbrev pub is_namable : Content → Bool
is_namable (DocElement tag namespace attributes listeners) =
    is_name tag && (is_namespace namespace && attributes_namable attributes)
is_namable (DocText text) = true
is_namable DocPlaceholder = true

-- so can those of nodes with all that stands below them
abbrev pub are_namable : Forest → Bool
are_namable Empty = true
are_namable (Node number content children rest) = (is_namable content && are_namable children) && are_namable rest
