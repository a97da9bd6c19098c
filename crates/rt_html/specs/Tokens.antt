-- The tokens that nodes are spelt in, and the nodes of tokens, which are read from the last one on.
use Rattle.std.specs.Prelude.{ℕ, List, [], ◌∷◌, ◌++◌, Option, Some, None, if◌then◌else◌, Bool, ◌&&◌, codes}
use Rattle.std.specs.List.{flat_map}
use Rattle.rt_language.specs.Lines.{qualified}
use Rattle.rt_model.specs.Document.{DocAttribute, Content, DocElement, DocText, DocPlaceholder, Forest, Empty, Node}
use Rattle.rt_model.specs.Lists.{Text, same_numbers, same_option}
use Rattle.rt_html.specs.Spelling.{attribute_html, escaped}

-- a node without its number and listeners, where those below it and behind it are known; nothing stands below a text or a placeholder
abbrev pub plain_node : Content → Forest → Forest → Forest
plain_node (DocElement tag namespace attributes listeners) below behind = Node 0 (DocElement tag namespace attributes []) below behind
plain_node (DocText text) below behind = Node 0 (DocText text) Empty behind
plain_node DocPlaceholder below behind = Node 0 DocPlaceholder Empty behind

-- nodes without their numbers and listeners
abbrev pub plain : Forest → Forest
plain Empty = Empty
plain (Node number content children rest) = plain_node content (plain children) (plain rest)

-- what a spelling is made of: an element begins or ends, a text, a placeholder
pub data Token : Type 0 where
  Opens : (namespace : Option Text) (tag : Text) (attributes : List DocAttribute) → Token
  Shuts : (namespace : Option Text) (tag : Text) → Token
  Says : (text : Text) → Token
  Holds : Token

-- the tokens of a node before others, where those of what stands below it are known
abbrev pub node_tokens : Content → List Token → List Token → List Token
node_tokens (DocElement tag namespace attributes listeners) inner later =
    Opens namespace tag attributes ∷ (inner ++ Shuts namespace tag ∷ later)
node_tokens (DocText text) inner later = Says text ∷ later
node_tokens DocPlaceholder inner later = Holds ∷ later

-- the tokens of nodes; nothing stands below a text or a placeholder
abbrev pub tokens : Forest → List Token
tokens Empty = []
tokens (Node number content children rest) = node_tokens content (tokens children) (tokens rest)

-- the end of an element that was read before its begin: its name, and what stands behind it
pub record Shut : Type 0 where
  pub namespace : Option Text
  pub tag : Text
  pub behind : Forest

-- what was read from the end on: the row so far, and each element that is open to the left
pub record Reading : Type 0 where
  pub row : Forest
  pub open_left : List Shut

-- the same name in the same namespace
abbrev pub same_name : Option Text → Text → Shut → Bool
same_name namespace tag shut = same_option same_numbers namespace shut.namespace && same_numbers tag shut.tag

-- an element begins whose end was read before
abbrev pub begun : Option Text → Text → List DocAttribute → Forest → List Shut → Option Reading
begun namespace tag attributes row [] = None
begun namespace tag attributes row (shut ∷ shuts) =
    if same_name namespace tag shut then
    Some (record { row = Node 0 (DocElement tag namespace attributes []) row shut.behind; open_left = shuts })
    else None

-- one more token, to the left of those that were read
abbrev pub read_left : Token → Reading → Option Reading
read_left (Opens namespace tag attributes) reading = begun namespace tag attributes reading.row reading.open_left
read_left (Shuts namespace tag) reading =
    Some (record { row = Empty; open_left = record { namespace = namespace; tag = tag; behind = reading.row } ∷ reading.open_left })
read_left (Says text) reading = Some (record { row = Node 0 (DocText text) Empty reading.row; open_left = reading.open_left })
read_left Holds reading = Some (record { row = Node 0 DocPlaceholder Empty reading.row; open_left = reading.open_left })

-- a token, unless one was refused
abbrev pub read_on : Token → Option Reading → Option Reading
read_on token None = None
read_on token (Some reading) = read_left token reading

-- all tokens, the last one first
abbrev pub read_all : List Token → Option Reading
read_all [] = Some (record { row = Empty; open_left = [] })
read_all (token ∷ later) = read_on token (read_all later)

-- the nodes, where no element is left open
abbrev pub whole : Option Reading → Option Forest
whole None = None
whole (Some reading) = elim reading.open_left [ [] ↦ Some reading.row | shut ∷ shuts ↦ None ]

-- the nodes of tokens
abbrev pub nodes_of_tokens : List Token → Option Forest
nodes_of_tokens all = whole (read_all all)

-- what of a token's spelling stands behind its `<`
abbrev pub body_html : Token → Text
body_html (Opens namespace tag attributes) = qualified namespace tag ++ (flat_map attribute_html attributes ++ codes ">")
body_html (Shuts namespace tag) = codes "/" ++ (qualified namespace tag ++ codes ">")
body_html (Says text) = codes "!--t-->" ++ escaped text
body_html Holds = codes "!--p-->"

-- tokens, one after another
abbrev pub tokens_html : List Token → Text
tokens_html [] = []
tokens_html (token ∷ later) = codes "<" ++ (body_html token ++ tokens_html later)
