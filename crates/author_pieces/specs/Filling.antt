-- What stands in the slots of a tree, in document order.
use Rattle.std.specs.Prelude.{ℕ, List, [], ◌∷◌, ◌++◌}
use Rattle.author_pieces.specs.Markup as markup
use Rattle.author_pieces.specs.declared.filling.Slots.{Slots}
use Rattle.author_pieces.specs.declared.pieces.Piece.{Piece}
use Rattle.author_pieces.specs.declared.shapes.Shape.{Shape}
use Rattle.tree_nodes.specs.declared.attribute.Attribute.{Attribute}
use Rattle.tree_nodes.specs.declared.vnode.DynamicNode.{DynamicNode}
use Rattle.tree_nodes.specs.declared.vnode.DynamicNode.TheVariants as values
use Rattle.tree_nodes.specs.declared.vnode.VComponent.TheVariants.{App}

module _ {P C Q V H T E L : Type 0} where
  abbrev pub nothing : Slots P C Q V H T E L
  nothing = record { nodes = []; attrs = [] }

  -- one node slot more
  abbrev pub held : Slots P C Q V H T E L → DynamicNode P C Q V H T E L → Slots P C Q V H T E L
  held so_far node = record { nodes = so_far.nodes ++ node ∷ []; attrs = so_far.attrs }

  -- a text in it
  abbrev pub shown : Slots P C Q V H T E L → List ℕ → Slots P C Q V H T E L
  shown so_far words = held so_far (values.Text words)

  -- a component in it
  abbrev pub led : Slots P C Q V H T E L → C → Q → Slots P C Q V H T E L
  led so_far component props = held so_far (values.Component (App component props))

  -- one attribute slot more
  abbrev pub given : Slots P C Q V H T E L → List (Attribute P C Q V H T E L) → Slots P C Q V H T E L
  given so_far slot = record { nodes = so_far.nodes; attrs = so_far.attrs ++ slot ∷ [] }

  -- a text in it
  abbrev pub said : Slots P C Q V H T E L → List ℕ → List ℕ → Slots P C Q V H T E L
  said so_far name words = given so_far (markup.said name words)

  -- a listener in it, whose handler is called in a scope
  abbrev pub heard : Slots P C Q V H T E L → List ℕ → ℕ → H → Slots P C Q V H T E L
  heard so_far name origin handler = given so_far (markup.heard name origin handler)

  -- the piece of shapes with this in its slots
  abbrev pub filled : List Shape → Slots P C Q V H T E L → Piece P C Q V H T E L
  filled shapes so_far = record { shapes = shapes; nodes = so_far.nodes; attrs = so_far.attrs }
