-- What is told of a tree is told of the one that was meant.
use Rattle.std.proofs.Common.{◌≡◌, ap, false, sym, ◌∙◌}
use Rattle.std.specs.Prelude.{Result, Ok, Err}
use Rattle.tree_nodes.specs.declared.vnode.VNode.{VNode}
use Rattle.tree_nodes.specs.NodeTest.{fits}
use Rattle.author_pieces.specs.Answered.{Checked, Refuses, RefusesPiece, Tells, Tested}
use Rattle.author_pieces.specs.Breaches.{bad_markup}
use Rattle.author_pieces.specs.Markup.{view}
use Rattle.author_pieces.specs.declared.pieces.Piece.{Piece}
use Rattle.author_pieces.specs.declared.trees.Unfit.{Unfit}
use Rattle.author_pieces.specs.declared.trees.Unfit.TheVariants.{OutOfMemory, BadMarkup}

-- a tree that doesn't pass, and is the one that was meant
pub refuses : {P C Q V H T E L : Type 0} (unfit : Unfit) (tree meant : VNode P C Q V H T E L)
    → tree ≡ meant → fits tree ≡ false → Tells unfit tree → Refuses unfit meant
refuses OutOfMemory tree meant is fails told = tt
refuses (BadMarkup bad) tree meant is fails told = (ap (λ t. fits t) (sym is) ∙ fails, told ∙ ap (λ t. bad_markup t) is)

module _ {P C Q V H T E L M : Type 0} where
  -- what is refused of a piece's tree is refused of the piece, where there was memory for that
  refuses_piece : (unfit : Unfit) (one : Result (Piece P C Q V H T E L) M) (piece : Piece P C Q V H T E L) → one ≡ Ok piece → Refuses unfit (view piece)
      → RefusesPiece unfit one
  refuses_piece OutOfMemory one piece is told = tt
  refuses_piece (BadMarkup bad) one piece is told = (piece, (is, told))

  -- what is answered of a piece's tree is answered of the piece
  pub checks : (answer : Result (VNode P C Q V H T E L) Unfit) (one : Result (Piece P C Q V H T E L) M) (piece : Piece P C Q V H T E L) → one ≡ Ok piece
      → Tested answer (view piece) → Checked answer one
  checks (Ok tree) one piece is told = (piece, (is, told))
  checks (Err unfit) one piece is told = refuses_piece unfit one piece is told
