-- The words, and the button.
use Rattle.std.specs.Prelude.{codes}
use Rattle.rt_author.specs.Words.{beside, element, listens, shown, text, view}
use Rattle.examples_board.proofs.Pieces.{both_are, had_is}
use Rattle.examples_board.specs.Meaning.{BoardPiece, retries}
use Rattle.examples_board.proofs.faces.refusal_at.Goals as goal

pub returns : goal.returns
returns c =
    let words : BoardPiece = shown c.args.words in
    let button : BoardPiece = retries c.args.scope.0 c.args.cells in
    let whole : BoardPiece = beside words button in
    let one =
    both_are c.listens-tries.result c.text.result c.element-button.result (listens (codes "onclick") c.args.scope.0 c.args.cells) (text (codes "try again"))
    (λ own kids. element (codes "button") own kids) c.listens-tries.ensures.attrs c.text.ensures.piece c.element-button.ensures.piece in
    let two =
    both_are c.shown.result c.element-button.result c.row.result words button (λ a b. beside a b)
    c.shown.ensures.piece one c.row.ensures.piece in
    record { tree = had_is c.row.result whole (λ p. view p) c.in_ok-view.field-0 two c.in_ok-view.ensures.tree }
