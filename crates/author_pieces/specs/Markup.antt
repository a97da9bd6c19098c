-- Trees as they nest.
use Rattle.std.specs.Prelude.{ℕ, List, [], ◌∷◌, ◌++◌, Option, Some, None, Result}
use Rattle.tree_nodes.specs.declared.vnode.VNode.{VNode}
use Rattle.tree_nodes.specs.declared.vnode.DynamicNode.{DynamicNode}
use Rattle.tree_nodes.specs.declared.vnode.DynamicNode.TheVariants as slots
use Rattle.tree_nodes.specs.declared.vnode.DynamicNode.TheViews.{roll-FragmentProps, roll-ErrorBoundaryProps, roll-SuspenseBoundaryProps}
use Rattle.tree_nodes.specs.declared.vnode.VComponent.TheVariants as components
use Rattle.tree_nodes.specs.declared.vnode.ErrorHandler.{ErrorHandler}
use Rattle.tree_nodes.specs.declared.vnode.Fallback.{Fallback}
use Rattle.tree_nodes.specs.declared.attribute.Attribute.{Attribute}
use Rattle.tree_nodes.specs.declared.attribute.AttributeValue.{AttributeValue}
use Rattle.tree_nodes.specs.declared.attribute.AttributeValue.TheVariants as values
use Rattle.tree_nodes.specs.declared.error.RenderError.{RenderError}
use Rattle.author_pieces.specs.declared.attrs.Attrs.{Attrs}
use Rattle.author_pieces.specs.declared.pieces.Piece.{Piece}
use Rattle.author_pieces.specs.declared.shapes.Shape.{Shape}
use Rattle.author_pieces.specs.declared.shapes.Shape.TheVariants as shapes
use Rattle.author_pieces.specs.declared.shapes.ShapeAttribute.{ShapeAttribute}
use Rattle.author_pieces.specs.declared.shapes.ShapeAttribute.TheVariants as attributes
use Rattle.author_pieces.specs.Numbering.{template_of}

-- the shape of an element around others
abbrev pub around : List ℕ → List ShapeAttribute → List Shape → List Shape
around tag own kids = shapes.Element tag own kids ∷ []

module _ {P C Q V H T E L : Type 0} where
  -- attributes

  abbrev pub empty_attrs : Attrs P C Q V H T E L
  empty_attrs = record { shapes = []; slots = [] }

  -- an attribute that stays
  abbrev pub fixed : List ℕ → List ℕ → Attrs P C Q V H T E L
  fixed name value = record { shapes = attributes.Fixed name value ∷ []; slots = [] }

  -- a slot, in which nothing stands yet
  abbrev pub open_attr : Attrs P C Q V H T E L
  open_attr = record { shapes = attributes.Open ∷ []; slots = [] }

  -- a slot, and what stands in it
  abbrev pub opened : List (Attribute P C Q V H T E L) → Attrs P C Q V H T E L
  opened slot = record { shapes = attributes.Open ∷ []; slots = slot ∷ [] }

  -- one attribute without a namespace
  abbrev pub alone : List ℕ → AttributeValue P C Q V H T E L → List (Attribute P C Q V H T E L)
  alone name value = record { name = name; namespace = None; value = value } ∷ []

  -- a text, as it stands in a slot
  abbrev pub said : List ℕ → List ℕ → List (Attribute P C Q V H T E L)
  said name words = alone name (values.Text words)

  -- a listener, as it stands in a slot
  abbrev pub heard : List ℕ → ℕ → H → List (Attribute P C Q V H T E L)
  heard name origin handler = alone name (values.Listener (record { origin = record { 0 = origin }; handler = handler }))

  -- an attribute whose text may change
  abbrev pub says : List ℕ → List ℕ → Attrs P C Q V H T E L
  says name words = opened (said name words)

  -- an attribute that listens to events, whose handler is called in a scope
  abbrev pub listens : List ℕ → ℕ → H → Attrs P C Q V H T E L
  listens name origin handler = opened (heard name origin handler)

  -- attributes, and after them others
  abbrev pub and : Attrs P C Q V H T E L → Attrs P C Q V H T E L → Attrs P C Q V H T E L
  and a b = record { shapes = a.shapes ++ b.shapes; slots = a.slots ++ b.slots }

  -- attributes, and after them those of a list, in order
  abbrev joined : Attrs P C Q V H T E L → List (Attrs P C Q V H T E L) → Attrs P C Q V H T E L
  joined first [] = first
  joined first (a ∷ rest) = and first (joined a rest)

  -- these attributes
  abbrev pub attrs : List (Attrs P C Q V H T E L) → Attrs P C Q V H T E L
  attrs [] = empty_attrs
  attrs (first ∷ rest) = joined first rest

  -- pieces

  abbrev pub empty_piece : Piece P C Q V H T E L
  empty_piece = record { shapes = []; nodes = []; attrs = [] }

  -- a text that stays
  abbrev pub text : List ℕ → Piece P C Q V H T E L
  text words = record { shapes = shapes.Words words ∷ []; nodes = []; attrs = [] }

  -- a slot, in which nothing stands yet
  abbrev pub open_slot : Piece P C Q V H T E L
  open_slot = record { shapes = shapes.Hole ∷ []; nodes = []; attrs = [] }

  -- a slot, and what stands in it
  abbrev pub hole : DynamicNode P C Q V H T E L → Piece P C Q V H T E L
  hole node = record { shapes = shapes.Hole ∷ []; nodes = node ∷ []; attrs = [] }

  -- a text that may change
  abbrev pub shown : List ℕ → Piece P C Q V H T E L
  shown words = hole (slots.Text words)

  -- a component of the application, with its props
  abbrev pub child : C → Q → Piece P C Q V H T E L
  child component props = hole (slots.Component (components.App component props))

  -- one piece, and after it another
  abbrev pub beside : Piece P C Q V H T E L → Piece P C Q V H T E L → Piece P C Q V H T E L
  beside a b = record { shapes = a.shapes ++ b.shapes; nodes = a.nodes ++ b.nodes; attrs = a.attrs ++ b.attrs }

  -- a piece, and after it those of a list, in order
  abbrev in_row : Piece P C Q V H T E L → List (Piece P C Q V H T E L) → Piece P C Q V H T E L
  in_row first [] = first
  in_row first (piece ∷ rest) = beside first (in_row piece rest)

  -- these pieces beside one another
  abbrev pub row : List (Piece P C Q V H T E L) → Piece P C Q V H T E L
  row [] = empty_piece
  row (first ∷ rest) = in_row first rest

  -- an element around a piece
  abbrev pub element : List ℕ → Attrs P C Q V H T E L → Piece P C Q V H T E L → Piece P C Q V H T E L
  element tag own kids = record { shapes = around tag own.shapes kids.shapes; nodes = kids.nodes; attrs = own.slots ++ kids.attrs }

  -- several trees, or a placeholder where there is none
  abbrev pub several : List (VNode P C Q V H T E L) → Piece P C Q V H T E L
  several [] = hole slots.Placeholder
  several (tree ∷ trees) = hole (slots.Fragment (tree ∷ trees))

  -- a tree, or a placeholder where there is none
  abbrev pub when : Option (VNode P C Q V H T E L) → Piece P C Q V H T E L
  when (Some tree) = hole (slots.Fragment (tree ∷ []))
  when None = hole slots.Placeholder

  -- a fragment around children
  abbrev pub fragment : Result (VNode P C Q V H T E L) RenderError → Piece P C Q V H T E L
  fragment children = hole (slots.Component (components.Fragment (roll-FragmentProps P C Q V H T E L (record { children = children }))))

  -- an error boundary around children
  abbrev pub error_boundary : Result (VNode P C Q V H T E L) RenderError → ErrorHandler P C Q V H T E L → Piece P C Q V H T E L
  error_boundary children handler =
      hole
      (slots.Component
      (components.ErrorBoundary (roll-ErrorBoundaryProps P C Q V H T E L (record { children = children; handle_error = handler }))))

  -- a suspense boundary around children
  abbrev pub suspense_boundary : Result (VNode P C Q V H T E L) RenderError → Fallback P C Q V H T E L → Piece P C Q V H T E L
  suspense_boundary children fallback =
      hole
      (slots.Component
      (components.SuspenseBoundary (roll-SuspenseBoundaryProps P C Q V H T E L (record { children = children; fallback = fallback }))))

  -- the tree of a piece
  abbrev pub view : Piece P C Q V H T E L → VNode P C Q V H T E L
  view piece = record { template = template_of piece.shapes; dynamic_nodes = piece.nodes; dynamic_attrs = piece.attrs }
