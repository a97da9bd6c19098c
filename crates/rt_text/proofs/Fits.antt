-- The rows of a layout fit the screen.
use Rattle.std.proofs.Common.{◌≡◌, ◌≤◌, ◌<◌, ℕ, zero, suc, Bool, true, false, bytes_eq, List, [], ◌∷◌, ◌++◌, length, refl, arith}
use Rattle.std.specs.Prelude.{if◌then◌else◌, nat_le, nat_lt, ◌||◌, codes}
use Rattle.std.specs.List.{AllByRecursion}
use Rattle.std.proofs.lemmas.Bool.Decides.{nat_tests}
use Rattle.std.proofs.lemmas.List.{length-append}
use Rattle.rt_model.specs.Lists.{Text}
use Rattle.rt_model.specs.Document.{Forest, Empty, Node, Content, DocElement, DocText, DocPlaceholder}
use Rattle.rt_text.specs.Layout.{Lines, finished, closed, shown, with_room, with_shown, with_character, goes_on, with_byte, with_text, is_block, before_element, after_element, before, after, laid, no_lines, fitted}
use Rattle.rt_text.specs.Laws.{IsPlain, IsRow, RowsFit}
use Rattle.rt_text.proofs.Fitted.{length-fitted}

all_append : {X : Type 0} (P : X → Type 0) (xs ys : List X) → AllByRecursion P xs → AllByRecursion P ys → AllByRecursion P (xs ++ ys)
all_append P [] ys none all = all
all_append P (x ∷ xs) ys first all = (first.0, all_append P xs ys first.1 all)

-- what holds of both cases holds of the one that is chosen
either : {X : Type 0} (P : X → Type 0) (test : Bool) (a b : X) → P a → P b → P (if test then a else b)
either P true a b p q = p
either P false a b p q = q

-- lines that fit
abbrev AreFit : ℕ → Lines → Type 0
AreFit width lines = AllByRecursion (IsRow width) lines.done × IsRow width lines.line

fits_finished : (width : ℕ) (lines : Lines) → AreFit width lines → AreFit width (finished lines)
fits_finished width lines fit = (all_append (IsRow width) lines.done (lines.line ∷ []) fit.0 (fit.1, tt), (omega arith, tt))

fits_closed : (width : ℕ) (lines : Lines) → AreFit width lines → AreFit width (closed lines)
fits_closed width lines fit = either (AreFit width) (bytes_eq lines.line []) lines (finished lines) fit (fits_finished width lines fit)

-- there is room for one character more
fits_room_by : (test : Bool) (width : ℕ) (lines : Lines) → nat_le width (length lines.line) ≡ test → 1 ≤ width → AreFit width lines
    → AreFit width (if test then finished lines else lines) × (length (if test then finished lines else lines).line < width)
fits_room_by true width lines full wide fit = (fits_finished width lines fit, omega (arith, wide))
fits_room_by false width lines full wide fit = (fit, grind (arith, nat_tests, full))

-- what is shown of a character is plain
plain_by : (low high : Bool) (byte : ℕ) → nat_lt byte 32 ≡ low → nat_lt 126 byte ≡ high → IsPlain (if low || high then 63 else byte)
plain_by true high byte under over = (omega arith, omega arith)
plain_by false true byte under over = (omega arith, omega arith)
plain_by false false byte under over = (grind (arith, nat_tests, under), grind (arith, nat_tests, over))

fits_character : (width byte : ℕ) (lines : Lines) → 1 ≤ width → AreFit width lines → AreFit width (with_character width byte lines)
fits_character width byte lines wide fit =
    let line = (with_room width lines).line in
    let room = fits_room_by (nat_le width (length lines.line)) width lines refl wide fit in
    let short : length (line ++ shown byte ∷ []) ≤ width = omega (arith, length-append line (shown byte ∷ []), room.1) in (
      (room.0).0,
      (short, all_append IsPlain line (shown byte ∷ []) ((room.0).1).1 (plain_by (nat_lt byte 32) (nat_lt 126 byte) byte refl refl, tt)),
    )

fits_text : (width : ℕ) (text : Text) (lines : Lines) → 1 ≤ width → AreFit width lines → AreFit width (with_text width text lines)
fits_text width [] lines wide fit = fit
fits_text width (byte ∷ bytes) lines wide fit =
    fits_text width bytes (with_byte width byte lines) wide
    (either (AreFit width) (goes_on byte) lines (with_character width byte lines) fit (fits_character width byte lines wide fit))

fits_after_element : (width : ℕ) (tag : Text) (lines : Lines) → AreFit width lines → AreFit width (after_element tag lines)
fits_after_element width tag lines fit = either (AreFit width) (is_block tag) (closed lines) lines (fits_closed width lines fit) fit

fits_before_element : (width : ℕ) (tag : Text) (lines : Lines) → AreFit width lines → AreFit width (before_element tag lines)
fits_before_element width tag lines fit =
    either (AreFit width) (bytes_eq tag (codes "br")) (finished lines) (after_element tag lines) (fits_finished width lines fit)
    (fits_after_element width tag lines fit)

fits_before : (width : ℕ) (content : Content) (lines : Lines) → 1 ≤ width → AreFit width lines → AreFit width (before width content lines)
fits_before width (DocElement tag namespace attributes listeners) lines wide fit = fits_before_element width tag lines fit
fits_before width (DocText text) lines wide fit = fits_text width text lines wide fit
fits_before width DocPlaceholder lines wide fit = fit

fits_after : (width : ℕ) (content : Content) (lines : Lines) → AreFit width lines → AreFit width (after content lines)
fits_after width (DocElement tag namespace attributes listeners) lines fit = fits_after_element width tag lines fit
fits_after width (DocText text) lines fit = fit
fits_after width DocPlaceholder lines fit = fit

fits_laid : (width : ℕ) (nodes : Forest) (lines : Lines) → 1 ≤ width → AreFit width lines → AreFit width (laid width nodes lines)
fits_laid width Empty lines wide fit = fit
fits_laid width (Node id content children rest) lines wide fit =
    let begun = before width content lines in
    let below = laid width children begun in
    fits_laid width rest (after content below) wide
    (fits_after width content below (fits_laid width children begun wide (fits_before width content lines wide fit)))

-- so do they where empty ones fill them up
fits_fitted : (width height : ℕ) (lines : List Text) → AllByRecursion (IsRow width) lines → AllByRecursion (IsRow width) (fitted height lines)
fits_fitted width zero lines all = tt
fits_fitted width (suc height) [] all = ((omega arith, tt), fits_fitted width height [] tt)
fits_fitted width (suc height) (line ∷ lines) all = (all.0, fits_fitted width height lines all.1)

pub rows_fit : RowsFit
rows_fit width height nodes wide =
    let all = laid width nodes no_lines in
    let fit : AreFit width (laid width nodes no_lines) = fits_laid width nodes no_lines wide (tt, (omega arith, tt)) in
    (length-fitted height (closed all).done, fits_fitted width height (closed all).done (fits_closed width all fit).0)
