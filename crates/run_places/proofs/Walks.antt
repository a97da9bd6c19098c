-- The pieces of a template, node by node; a walk of the definitions is one over the pieces.
use Rattle.std.proofs.Common.{ℕ, ◌+◌, List, [], ◌∷◌, ◌++◌, ◌≡◌, refl, sym, ap, ◌∙◌, map}
use Rattle.std.specs.Prelude.{Option}
pub use Rattle.rt_lemmas.proofs.Lists.{append_nil as nil-right, append_append as append-append}
use Rattle.tree_nodes.specs.declared.template.TemplateAttribute.{TemplateAttribute}
use Rattle.tree_nodes.specs.declared.template.TemplateNode.{TemplateNode}
use Rattle.tree_nodes.specs.declared.template.TemplateNode.TheVariants as nodes
use Rattle.tree_nodes.specs.declared.template.TemplateNode.TheOpen.{TemplateNode-F}
use Rattle.tree_nodes.specs.declared.template.TemplateNode.TheViews.{out-TemplateNode}
use Rattle.rt_model.specs.Tree as model
use Rattle.rt_model.specs.Tree.{TemplateNodes, no_nodes, element_node, text_node, slot_node, Template, Place, place_in, Spot, node_at, an_element, a_static_text, node_spots}
use Rattle.tree_mirror.specs.Mirror.{attribute_in, all_before, before_step}
use Rattle.tree_mirror.specs.Sealed.{node_before, nodes_of}
use Rattle.tree_mirror.proofs.SealedNodes.{below, before_out, before_Element, before_Text, before_Dynamic}
use Rattle.run_places.specs.declared.piece.Piece.{Piece}
use Rattle.run_places.specs.Pieces.{Met, met_element, met_text, met_slot, all_met, piece_of, node_met, row_met}
use Rattle.run_places.specs.Spots.{met_spots, all_met_spots}

pub pieces-append : (a b : List Piece) → map piece_of (a ++ b) ≡ map piece_of a ++ map piece_of b
pieces-append [] b = refl
pieces-append (x ∷ a) b = ap (λ ms. piece_of x ∷ ms) (pieces-append a b)

-- one level before others: what is met in it, then in them
level_met : (y : TemplateNode-F (TemplateNodes → TemplateNodes)) (up : List ℕ) (i : ℕ) (rest : TemplateNodes)
    → all_met up i (before_step y rest) ≡ all_met up i (before_step y no_nodes) ++ all_met up (i + 1) rest
level_met (TemplateNode-F.Element tag namespace attrs children) up i rest =
    let under : List Met = all_met (up ++ i ∷ []) 0 (all_before children no_nodes) in
    ap (λ ms. met_element (up ++ i ∷ []) (map attribute_in attrs) ∷ (ms ++ all_met up (i + 1) rest)) (sym (nil-right under))
level_met (TemplateNode-F.Text text) up i rest = refl
level_met (TemplateNode-F.Dynamic id) up i rest = refl

first_met : (up : List ℕ) (i : ℕ) (node : TemplateNode) (rest : TemplateNodes) → all_met up i (node_before node rest) ≡ node_met up i node ++ all_met up (i + 1) rest
unfolding node_met
first_met up i node rest =
    ap (λ ns. all_met up i ns) (before_out node rest) ∙ level_met (below (out-TemplateNode node)) up i rest ∙
    ap (λ ns. all_met up i ns ++ all_met up (i + 1) rest) (sym (before_out node no_nodes))

-- what is met in a row of code is what is met in it at the mirror
pub row_is : (up : List ℕ) (i : ℕ) (row : List TemplateNode) → row_met up i row ≡ all_met up i (nodes_of row)
row_is up i [] = refl
row_is up i (node ∷ row) = ap (λ ms. node_met up i node ++ ms) (row_is up (i + 1) row) ∙ sym (first_met up i node (nodes_of row))

pub met_Element : (up : List ℕ) (i : ℕ) (tag : List ℕ) (namespace : Option (List ℕ)) (attrs : List TemplateAttribute) (children : List TemplateNode)
    → node_met up i (nodes.Element tag namespace attrs children) ≡ met_element (up ++ i ∷ []) (map attribute_in attrs) ∷ row_met (up ++ i ∷ []) 0 children
unfolding node_met
met_Element up i tag namespace attrs children =
    ap (λ ns. all_met up i ns) (before_Element tag namespace attrs children no_nodes) ∙
    ap (λ ms. met_element (up ++ i ∷ []) (map attribute_in attrs) ∷ ms)
    (nil-right (all_met (up ++ i ∷ []) 0 (nodes_of children)) ∙ sym (row_is (up ++ i ∷ []) 0 children))

pub met_Text : (up : List ℕ) (i : ℕ) (text : List ℕ) → node_met up i (nodes.Text text) ≡ met_text (up ++ i ∷ []) ∷ []
unfolding node_met
met_Text up i text = ap (λ ns. all_met up i ns) (before_Text text no_nodes)

pub met_Dynamic : (up : List ℕ) (i id : ℕ) → node_met up i (nodes.Dynamic id) ≡ met_slot id (up ++ i ∷ []) ∷ []
unfolding node_met
met_Dynamic up i id = ap (λ ns. all_met up i ns) (before_Dynamic id no_nodes)

pub ruleset walks = (met_Element, met_Text, met_Dynamic, pieces-append)

-- the spots of a template's nodes are those of its pieces
pub spots_by_pieces : {K : model.Types} (whole : Template) (above : Place) (slot : ℕ → Place → List (Spot K)) (up : List ℕ) (i : ℕ) (ns : TemplateNodes)
    → node_spots whole above slot up i ns ≡ all_met_spots whole above slot (all_met up i ns)
spots_by_pieces whole above slot up i no_nodes = refl
spots_by_pieces whole above slot up i (element_node tag namespace attributes children rest) =
    ap (λ xs. node_at (place_in whole above up i) an_element ∷ xs)
    ((λ k. spots_by_pieces whole above slot (up ++ i ∷ []) 0 children k ++ spots_by_pieces whole above slot up (i + 1) rest k) ∙
    sym (parted (all_met (up ++ i ∷ []) 0 children) (all_met up (i + 1) rest)))
  where
    parted : (a b : List Met) → all_met_spots whole above slot (a ++ b) ≡ all_met_spots whole above slot a ++ all_met_spots whole above slot b
    parted [] b = refl
    parted (m ∷ a) b =
        ap (λ xs. met_spots whole above slot m ++ xs) (parted a b) ∙
        sym (append-append (met_spots whole above slot m) (all_met_spots whole above slot a) (all_met_spots whole above slot b))
spots_by_pieces whole above slot up i (text_node text rest) =
    ap (λ xs. node_at (place_in whole above up i) a_static_text ∷ xs) (spots_by_pieces whole above slot up (i + 1) rest)
spots_by_pieces whole above slot up i (slot_node k rest) =
    ap (λ xs. slot k (place_in whole above up i) ++ xs) (spots_by_pieces whole above slot up (i + 1) rest)
