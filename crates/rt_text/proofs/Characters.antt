-- The rows are all characters of a document, in order.
use Rattle.std.proofs.Common.{◌≡◌, ◌≤◌, ℕ, zero, suc, Bool, true, false, bytes_eq, List, [], ◌∷◌, ◌++◌, length, refl, sym, ap, ◌∙◌, append_assoc, append-nil, arith}
use Rattle.std.specs.Prelude.{if◌then◌else◌, nat_le, codes}
use Rattle.rt_model.specs.Lists.{Text, joined}
use Rattle.rt_model.specs.Document.{Forest, Empty, Node, Content, DocElement, DocText, DocPlaceholder}
use Rattle.rt_text.specs.Layout.{Lines, finished, closed, shown, with_room, with_shown, with_character, goes_on, with_byte, with_text, is_block, before_element, after_element, before, after, laid, no_lines, fitted}
use Rattle.rt_text.specs.Laws.{shown_text, shown_of, shown_in, lines_of, NothingLost}

joined_append : (xs ys : List Text) → joined (xs ++ ys) ≡ joined xs ++ joined ys
joined_append [] ys = refl
joined_append (x ∷ xs) ys = ap (λ text. x ++ text) (joined_append xs ys) ∙ sym (append_assoc x (joined xs) (joined ys))

-- what was written: the finished lines, one after another, and the open one
abbrev written : Lines → Text
written lines = joined lines.done ++ lines.line

-- what holds of both cases holds of the one that is chosen
either : {X : Type 0} (P : X → Type 0) (test : Bool) (a b : X) → P a → P b → P (if test then a else b)
either P true a b p q = p
either P false a b p q = q

written_finished : (lines : Lines) → written (finished lines) ≡ written lines
written_finished lines =
    append-nil (joined (lines.done ++ lines.line ∷ [])) ∙ joined_append lines.done (lines.line ∷ [])
    ∙ ap (λ (text : Text). joined lines.done ++ text) (append-nil lines.line)

written_closed : (lines : Lines) → written (closed lines) ≡ written lines
written_closed lines =
    either (λ (new : Lines). written new ≡ written lines) (bytes_eq lines.line []) lines (finished lines) refl (written_finished lines)

written_room : (width : ℕ) (lines : Lines) → written (with_room width lines) ≡ written lines
written_room width lines =
    either (λ (new : Lines). written new ≡ written lines) (nat_le width (length lines.line)) (finished lines) lines (written_finished lines) refl

written_character : (width byte : ℕ) (lines : Lines) → written (with_character width byte lines) ≡ written lines ++ shown byte ∷ []
written_character width byte lines =
    let room = with_room width lines in
    sym (append_assoc (joined room.done) room.line (shown byte ∷ [])) ∙ ap (λ (text : Text). text ++ shown byte ∷ []) (written_room width lines)

-- what a text begins with, and the rest
shown_begin : (test : Bool) (byte : ℕ) (bytes : Text) → (if test then [] else (shown byte ∷ [])) ++ shown_text bytes ≡ (if test then shown_text bytes else (shown byte ∷ shown_text bytes))
shown_begin true byte bytes = refl
shown_begin false byte bytes = refl

written_byte_by : (test : Bool) (width byte : ℕ) (lines : Lines) →
    written (if test then lines else with_character width byte lines) ≡ written lines ++ (if test then [] else (shown byte ∷ []))
written_byte_by true width byte lines = sym (append-nil (written lines))
written_byte_by false width byte lines = written_character width byte lines

written_text : (width : ℕ) (text : Text) (lines : Lines) → written (with_text width text lines) ≡ written lines ++ shown_text text
written_text width [] lines = sym (append-nil (written lines))
written_text width (byte ∷ bytes) lines =
    let front : Text = if goes_on byte then [] else (shown byte ∷ []) in
    written_text width bytes (with_byte width byte lines)
    ∙ ap (λ (text : Text). text ++ shown_text bytes) (written_byte_by (goes_on byte) width byte lines)
    ∙ append_assoc (written lines) front (shown_text bytes)
    ∙ ap (λ (text : Text). written lines ++ text) (shown_begin (goes_on byte) byte bytes)

written_before_element : (tag : Text) (lines : Lines) → written (before_element tag lines) ≡ written lines
written_before_element tag lines =
    either (λ (new : Lines). written new ≡ written lines) (bytes_eq tag (codes "br")) (finished lines) (if is_block tag then closed lines else lines)
    (written_finished lines) (either (λ (new : Lines). written new ≡ written lines) (is_block tag) (closed lines) lines (written_closed lines) refl)

written_after_element : (tag : Text) (lines : Lines) → written (after_element tag lines) ≡ written lines
written_after_element tag lines =
    either (λ (new : Lines). written new ≡ written lines) (is_block tag) (closed lines) lines (written_closed lines) refl

written_before : (width : ℕ) (content : Content) (lines : Lines) → written (before width content lines) ≡ written lines ++ shown_of content
written_before width (DocElement tag namespace attributes listeners) lines = written_before_element tag lines ∙ sym (append-nil (written lines))
written_before width (DocText text) lines = written_text width text lines
written_before width DocPlaceholder lines = sym (append-nil (written lines))

written_after : (content : Content) (lines : Lines) → written (after content lines) ≡ written lines
written_after (DocElement tag namespace attributes listeners) lines = written_after_element tag lines
written_after (DocText text) lines = refl
written_after DocPlaceholder lines = refl

-- nodes write just what is shown of them
written_laid : (width : ℕ) (nodes : Forest) (lines : Lines) → written (laid width nodes lines) ≡ written lines ++ shown_in nodes
written_laid width Empty lines = sym (append-nil (written lines))
written_laid width (Node id content children rest) lines =
    let begun = before width content lines in
    let below = laid width children begun in
    written_laid width rest (after content below)
    ∙ ap (λ (text : Text). text ++ shown_in rest)
    (written_after content below ∙ written_laid width children begun ∙ ap (λ (text : Text). text ++ shown_in children) (written_before width content lines)
    ∙ append_assoc (written lines) (shown_of content) (shown_in children))
    ∙ append_assoc (written lines) (shown_of content ++ shown_in children) (shown_in rest)

empty_line : (text : Text) → bytes_eq text [] ≡ true → text ≡ []
empty_line [] empty = refl
empty_line (byte ∷ bytes) empty = absurd (cc (empty))

-- nothing is open in the end
none_open : (test : Bool) (lines : Lines) → bytes_eq lines.line [] ≡ test
    → joined (if test then lines else finished lines).done ≡ written (if test then lines else finished lines)
none_open true lines empty =
    let nothing : lines.line ≡ [] = empty_line lines.line empty in
    sym (append-nil (joined lines.done)) ∙ ap (λ (text : Text). joined lines.done ++ text) (sym nothing)
none_open false lines some = sym (append-nil (joined (lines.done ++ lines.line ∷ [])))

-- rows that are filled up with empty ones
joined_fitted : (height : ℕ) (lines : List Text) → length lines ≤ height → joined (fitted height lines) ≡ joined lines
joined_fitted zero [] few = refl
joined_fitted zero (line ∷ lines) few = absurd (omega (arith, few))
joined_fitted (suc height) [] few = joined_fitted height [] (omega arith)
joined_fitted (suc height) (line ∷ lines) few = ap (λ (text : Text). line ++ text) (joined_fitted height lines (omega (arith, few)))

pub nothing_lost : NothingLost
nothing_lost width height nodes few =
    let all = laid width nodes no_lines in
    joined_fitted height (lines_of width nodes) few ∙ none_open (bytes_eq all.line []) all refl ∙ written_closed all ∙ written_laid width nodes no_lines
