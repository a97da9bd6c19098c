-- The news, and below them the letter and the log.
use Rattle.rt_author.specs.Words.{beside, view}
use Rattle.examples_board.proofs.Pieces.{both_are, had_is}
use Rattle.examples_board.specs.Meaning.{BoardPiece, awaited, guarded, log_at}
use Rattle.examples_board.proofs.faces.desk_at.Goals as goal

pub returns : goal.returns
returns c =
    let cells = c.args.cells in
    let log : BoardPiece = log_at c.args.entries in
    let below : BoardPiece = beside (awaited cells) log in
    let whole : BoardPiece = beside (guarded cells) below in
    let two =
    both_are c.awaited.result c.log_at.result c.row-below.result (awaited cells) log (λ a b. beside a b)
    c.awaited.ensures.piece c.log_at.ensures.piece c.row-below.ensures.piece in
    let three =
    both_are c.guarded.result c.row-below.result c.row.result (guarded cells) below (λ a b. beside a b)
    c.guarded.ensures.piece two c.row.ensures.piece in
    record { tree = had_is c.row.result whole (λ p. view p) c.in_ok-view.field-0 three c.in_ok-view.ensures.tree }
