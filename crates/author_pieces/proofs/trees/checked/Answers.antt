-- What is answered of the tree is answered of the piece.
use Rattle.author_pieces.proofs.Refusals.{checks}
use Rattle.author_pieces.proofs.trees.checked.Goals as goal

pub returns-in-Ok : goal.returns-in-Ok
returns-in-Ok g c = record { checked = checks _ c.args.piece c.in-Ok.piece c.in-Ok.is c.tested.ensures.tested }
