-- What a walk through a template meets, depth first, as one list.
use Rattle.std.specs.Prelude.{ℕ, ◌+◌, List, [], ◌∷◌, ◌++◌, map}
use Rattle.tree_nodes.specs.declared.template.TemplateNode.{TemplateNode}
use Rattle.rt_model.specs.Tree as model
use Rattle.rt_model.specs.Tree.{TemplateNodes, no_nodes, element_node, text_node, slot_node}
use Rattle.tree_mirror.specs.Mirror.{attribute_in}
use Rattle.tree_mirror.specs.Sealed.{node_before}
use Rattle.run_places.specs.declared.piece.Piece.{Piece}
use Rattle.run_places.specs.declared.piece.Piece.TheVariants as pieces

-- one thing that is met: an element with its attributes, a text, a node slot, each at its path
pub data Met : Type 0 where
  met_element : (path : List ℕ) (attributes : List model.TemplateAttribute) → Met
  met_text : (path : List ℕ) → Met
  met_slot : (slot : ℕ) (path : List ℕ) → Met

-- what is met in a row of a template's nodes: up is their parent's path, i the position of the first
abbrev pub all_met : List ℕ → ℕ → TemplateNodes → List Met
all_met up i no_nodes = []
all_met up i (element_node tag namespace attributes children rest) =
    met_element (up ++ i ∷ []) attributes ∷ (all_met (up ++ i ∷ []) 0 children ++ all_met up (i + 1) rest)
all_met up i (text_node text rest) = met_text (up ++ i ∷ []) ∷ all_met up (i + 1) rest
all_met up i (slot_node k rest) = met_slot k (up ++ i ∷ []) ∷ all_met up (i + 1) rest

-- a piece
abbrev pub piece_of : Piece → Met
piece_of (pieces.Element path attrs) = met_element path (map attribute_in attrs)
piece_of (pieces.Text path) = met_text path
piece_of (pieces.Slot id path) = met_slot id path

-- what is met in one node
unfoldable pub node_met : List ℕ → ℕ → TemplateNode → List Met
node_met up i node = all_met up i (node_before node no_nodes)

-- what is met in these nodes
abbrev pub row_met : List ℕ → ℕ → List TemplateNode → List Met
row_met up i [] = []
row_met up i (node ∷ nodes) = node_met up i node ++ row_met up (i + 1) nodes
