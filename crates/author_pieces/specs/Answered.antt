-- What a checked tree is, and what a refusal tells.
use Rattle.std.specs.Prelude.{◌≡◌, Result, Ok, Err, true, false}
use Rattle.tree_nodes.specs.declared.vnode.VNode.{VNode}
use Rattle.tree_nodes.specs.NodeTest.{fits}
use Rattle.author_pieces.specs.Breaches.{bad_markup}
use Rattle.author_pieces.specs.Had.{Had}
use Rattle.author_pieces.specs.Markup.{view}
use Rattle.author_pieces.specs.declared.pieces.Piece.{Piece}
use Rattle.author_pieces.specs.declared.trees.Unfit.{Unfit}
use Rattle.author_pieces.specs.declared.trees.Unfit.TheVariants.{OutOfMemory, BadMarkup}

module _ {P C Q V H T E L : Type 0} where
  -- what is told of a tree that doesn't pass the node test: its first breach, or that memory lacked
  abbrev pub Tells : Unfit → VNode P C Q V H T E L → Type 0
  Tells OutOfMemory tree = Unit
  Tells (BadMarkup bad) tree = bad ≡ bad_markup tree

  -- a refusal: the tree that was meant doesn't pass the node test, or memory lacked
  abbrev pub Refuses : Unfit → VNode P C Q V H T E L → Type 0
  Refuses OutOfMemory meant = Unit
  Refuses (BadMarkup bad) meant = (fits meant ≡ false) × (bad ≡ bad_markup meant)

  -- an answer is the tree that was meant, and it passes the node test; a refusal says that it doesn't
  abbrev pub Tested : Result (VNode P C Q V H T E L) Unfit → VNode P C Q V H T E L → Type 0
  Tested (Ok tree) meant = (tree ≡ meant) × (fits tree ≡ true)
  Tested (Err unfit) meant = Refuses unfit meant

  -- a refusal of a piece as the words answer it
  abbrev pub RefusesPiece : {M : Type 0} → Unfit → Result (Piece P C Q V H T E L) M → Type 0
  RefusesPiece OutOfMemory piece = Unit
  RefusesPiece (BadMarkup bad) piece = Had piece (λ p. (fits (view p) ≡ false) × (bad ≡ bad_markup (view p)))

  -- an answer is the tree of a piece that was had, and it passes the node test; or it is refused
  abbrev pub Checked : {M : Type 0} → Result (VNode P C Q V H T E L) Unfit → Result (Piece P C Q V H T E L) M → Type 0
  Checked (Ok tree) piece = Had piece (λ p. (tree ≡ view p) × (fits tree ≡ true))
  Checked (Err unfit) piece = RefusesPiece unfit piece
