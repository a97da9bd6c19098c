-- What holds of every layout: its rows fit the screen, and they are all characters in order.
use Rattle.std.specs.Prelude.{◌≡◌, ℕ, ◌≤◌, if◌then◌else◌, List, [], ◌∷◌, ◌++◌, length}
use Rattle.std.specs.List.{AllByRecursion}
use Rattle.rt_model.specs.Lists.{Text, joined}
use Rattle.rt_model.specs.Document.{Forest, Empty, Node, Content, DocElement, DocText, DocPlaceholder}
use Rattle.rt_text.specs.Layout.{closed, goes_on, laid, layout, no_lines, shown}

-- a byte from 32 to 126
abbrev pub IsPlain : ℕ → Type 0
IsPlain byte = (32 ≤ byte) × (byte ≤ 126)

-- a row of at most so many characters, all of them plain
abbrev pub IsRow : ℕ → Text → Type 0
IsRow width row = (length row ≤ width) × AllByRecursion IsPlain row

-- a layout has as many rows as the screen, and each has at most as many characters as the screen has columns
abbrev pub RowsFit : Type 0
RowsFit =
    (width height : ℕ) (nodes : Forest) → 1 ≤ width
    → (length (layout width height nodes) ≡ height) × AllByRecursion (IsRow width) (layout width height nodes)

-- what is shown of a text, character by character
abbrev pub shown_text : Text → Text
shown_text [] = []
shown_text (byte ∷ bytes) = if goes_on byte then shown_text bytes else shown byte ∷ shown_text bytes

-- what is shown of a node alone
abbrev pub shown_of : Content → Text
shown_of (DocElement tag namespace attributes listeners) = []
shown_of (DocText text) = shown_text text
shown_of DocPlaceholder = []

-- what is shown of nodes and of what stands below them, in order
abbrev pub shown_in : Forest → Text
shown_in Empty = []
shown_in (Node id content children rest) = (shown_of content ++ shown_in children) ++ shown_in rest

-- all lines of a document on a screen of this width
abbrev pub lines_of : ℕ → Forest → List Text
lines_of width nodes = (closed (laid width nodes no_lines)).done

-- where the lines fit, the rows one after another are just the characters of the document, in order: none is lost, none is added
abbrev pub NothingLost : Type 0
NothingLost =
    (width height : ℕ) (nodes : Forest) → length (lines_of width nodes) ≤ height → joined (layout width height nodes) ≡ shown_in nodes
