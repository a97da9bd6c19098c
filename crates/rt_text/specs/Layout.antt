-- The rows that a document has on a screen: its texts, line by line.
use Rattle.std.specs.Prelude.{ℕ, zero, suc, Bool, ◌&&◌, ◌||◌, nat_le, nat_lt, if◌then◌else◌, List, [], ◌∷◌, ◌++◌, length, bytes_eq, codes}
use Rattle.rt_model.specs.Lists.{Text}
use Rattle.rt_model.specs.Document.{Forest, Empty, Node, Content, DocElement, DocText, DocPlaceholder}

-- the lines that are finished, and the open one
pub record Lines : Type 0 where
  pub done : List Text
  pub line : Text

-- no line yet
abbrev pub no_lines : Lines
no_lines = record { done = []; line = [] }

-- the open line is finished
abbrev pub finished : Lines → Lines
finished lines = record { done = lines.done ++ lines.line ∷ []; line = [] }

-- the open line is finished where it isn't empty
abbrev pub closed : Lines → Lines
closed lines = if bytes_eq lines.line [] then lines else finished lines

-- what is shown of the first byte of a character: itself from 32 to 126, else a question mark
abbrev pub shown : ℕ → ℕ
shown byte = if nat_lt byte 32 || nat_lt 126 byte then 63 else byte

-- a full line is finished, so that there is room for a character
abbrev pub with_room : ℕ → Lines → Lines
with_room width lines = if nat_le width (length lines.line) then finished lines else lines

-- the open line with what is shown of a character behind it
abbrev pub with_shown : ℕ → Lines → Lines
with_shown byte lines = record { done = lines.done; line = lines.line ++ shown byte ∷ [] }

-- a character, by its first byte, on a new line where the open one is full
abbrev pub with_character : ℕ → ℕ → Lines → Lines
with_character width byte lines = with_shown byte (with_room width lines)

-- a byte goes on with a character of several bytes
abbrev pub goes_on : ℕ → Bool
goes_on byte = nat_le 128 byte && nat_lt byte 192

-- a byte of a text: a character where it begins one
abbrev pub with_byte : ℕ → ℕ → Lines → Lines
with_byte width byte lines = if goes_on byte then lines else with_character width byte lines

-- a text, byte by byte
abbrev pub with_text : ℕ → Text → Lines → Lines
with_text width [] lines = lines
with_text width (byte ∷ bytes) lines = with_text width bytes (with_byte width byte lines)

-- the tag of a heading
abbrev pub is_heading : Text → Bool
is_heading tag =
    bytes_eq tag (codes "h1") || (bytes_eq tag (codes "h2") || (bytes_eq tag (codes "h3")
    || (bytes_eq tag (codes "h4") || (bytes_eq tag (codes "h5") || bytes_eq tag (codes "h6")))))

-- a tag whose element stands on lines of its own
abbrev pub is_block : Text → Bool
is_block tag =
    bytes_eq tag (codes "div") || (bytes_eq tag (codes "p") || (bytes_eq tag (codes "ul") || (bytes_eq tag (codes "ol")
    || (bytes_eq tag (codes "li") || (bytes_eq tag (codes "pre") || is_heading tag)))))

-- before an element's children: a break finishes the open line always, an element on lines of its own where it isn't empty
abbrev pub before_element : Text → Lines → Lines
before_element tag lines = if bytes_eq tag (codes "br") then finished lines else (if is_block tag then closed lines else lines)

-- after them
abbrev pub after_element : Text → Lines → Lines
after_element tag lines = if is_block tag then closed lines else lines

-- what a node shows before its children, and after them
abbrev pub before : ℕ → Content → Lines → Lines
before width (DocElement tag namespace attributes listeners) lines = before_element tag lines
before width (DocText text) lines = with_text width text lines
before width DocPlaceholder lines = lines

abbrev pub after : Content → Lines → Lines
after (DocElement tag namespace attributes listeners) lines = after_element tag lines
after (DocText text) lines = lines
after DocPlaceholder lines = lines

-- nodes with all that stands below them, one after another
abbrev pub laid : ℕ → Forest → Lines → Lines
laid width Empty lines = lines
laid width (Node id content children rest) lines =
    laid width rest (after content (laid width children (before width content lines)))

-- so many lines: the first ones, and empty ones where there are too few
abbrev pub fitted : ℕ → List Text → List Text
fitted zero lines = []
fitted (suc n) [] = [] ∷ fitted n []
fitted (suc n) (line ∷ lines) = line ∷ fitted n lines

-- the rows of a document on a screen of this width and height
abbrev pub layout : ℕ → ℕ → Forest → List Text
layout width height nodes = fitted height (closed (laid width nodes no_lines)).done
