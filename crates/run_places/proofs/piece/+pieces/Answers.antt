-- An element comes before what is met in it.
use Rattle.std.proofs.Common.{List, ◌≡◌, ◌++◌, ◌∷◌, [], sym, ap, ◌∙◌, map}
use Rattle.std.proofs.lemmas.Result.{on_ok_weaker}
use Rattle.tree_mirror.specs.Mirror.{attribute_in}
use Rattle.run_places.specs.Pieces.{Met, met_element, node_met, piece_of, row_met}
use Rattle.run_places.proofs.Walks.{met_Element, append-append}
use Rattle.run_places.proofs.piece.+pieces.Goals as goal

pub add_node-returns-in_ok-push_element-in-Element : goal.add_node-returns-in_ok-push_element-in-Element
add_node-returns-in_ok-push_element-in-Element t c =
    let n = c.in-Element in
    let up = c.args.up.now in
    let i = c.args.index in
    let before : List Met = map piece_of c.args.pieces.now in
    let this : Met = met_element (up ++ i ∷ []) (map attribute_in n.attrs) in
    let path : c.in_ok-path.path ≡ up ++ i ∷ [] = c.in_ok-path.ensures in
    let own : map piece_of c.push_element.new.pieces ≡ before ++ this ∷ [] =
    c.in_ok-push_element-in-Element.ensures ∙ (λ k. before ++ met_element (path k) (map attribute_in n.attrs) ∷ []) in
    let whole : node_met up i c.args.node.now ≡ this ∷ row_met (up ++ i ∷ []) 0 n.children =
    ap (λ x. node_met up i x) n.is ∙ met_Element up i n.tag n.namespace n.attrs n.children in
    on_ok_weaker c.add_pieces.result
    (λ h.
    h ∙
    (λ k. own k ++ row_met ((c.as_slice-in-Element.ensures.items ∙ path) k) 0 (c.as_slice.ensures.items k)) ∙
    append-append before (this ∷ []) (row_met (up ++ i ∷ []) 0 n.children) ∙
    ap (λ ms. before ++ ms) (sym whole))
    c.add_pieces.ensures
