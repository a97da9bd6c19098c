-- Trees stand alike where their templates are one and their slots are alike.
use Rattle.std.proofs.Common.{ℕ, zero, suc, ◌+◌, ◌<◌, ◌≤◌, List, [], ◌∷◌, ◌++◌, ◌≡◌, length, get_or, drop, map, refl, sym, ap, ◌∙◌, subst}
use Rattle.std.proofs.Math.ListN.{drop_of_length-le}
use Rattle.tree_nodes.specs.declared.vnode.DynamicNode.{DynamicNode}
use Rattle.tree_nodes.specs.declared.vnode.DynamicNode.TheVariants as values
use Rattle.tree_nodes.specs.declared.vnode.VNode.{VNode}
use Rattle.tree_nodes.specs.declared.template.TemplateParts.{TemplateParts as CodeTemplate}
use Rattle.rt_model.specs.OneLog.{types}
use Rattle.rt_model.specs.Tree.{Types, Kind, Place, Template, TemplateNodes, element_node, item, no_nodes, place_in, slot_node, slots_spots, text_node, an_element, a_static_text}
use Rattle.tree_mirror.specs.Mirror.{slots_from}
use Rattle.tree_mirror.specs.Sealed.{nodes_of, slot_of, template_of}
use Rattle.tree_marks.specs.Marks.{Mark, template_marks}
use Rattle.run_places.specs.Spots.{value_spots}
use Rattle.run_work.specs.declared.turning.Turn.TheVariants as turns
use Rattle.run_work.specs.Alike.{AlikeTree, AlikeTrees, AlikeValue, AlikeValues}
use Rattle.run_work.specs.Grounds.{items_turn, node_turns, turned, value_turn}
use Rattle.run_work.proofs.Turns.{row_is, spots_in, tree_row, value_some}
use Rattle.run_work.proofs.Walking.{next_drop}

module _ {K : Types} (node : Place → Kind → Mark K) (whole : Template) (above : Place) (f g : ℕ → Place → List (Mark K)) (same : (k : ℕ) (place : Place) → f k place ≡ g k place) where
  -- a walk on which all slots give the same
  walk_same : (up : List ℕ) (i : ℕ) (ns : TemplateNodes) → template_marks node whole above f up i ns ≡ template_marks node whole above g up i ns
  walk_same up i no_nodes = refl
  walk_same up i (element_node tag namespace attributes children rest) =
      ap (λ (xs : List (Mark K)). node (place_in whole above up i) an_element ∷ xs) (λ t. walk_same (up ++ i ∷ []) 0 children t ++ walk_same up (i + 1) rest t)
  walk_same up i (text_node text rest) = ap (λ (xs : List (Mark K)). node (place_in whole above up i) a_static_text ∷ xs) (walk_same up (i + 1) rest)
  walk_same up i (slot_node k rest) = (λ t. same k (place_in whole above up i) t ++ walk_same up (i + 1) rest t)

module _ {P C Q V H T E L : Type 0} where
  -- the slots of two trees
  slots_same : (olds news : List (DynamicNode P C Q V H T E L)) → AlikeValues olds news → (k : ℕ) (place : Place)
      → map (turned turns.Comes) (slots_spots (slots_from (map slot_of olds)) k place) ≡ map (turned turns.Comes) (slots_spots (slots_from (map slot_of news)) k place)
  unfolding value_turn value_spots
  slots_same [] [] h k place = refl
  slots_same [] (w ∷ ws) h k place = absurd h
  slots_same (v ∷ vs) [] h k place = absurd h
  slots_same (v ∷ vs) (w ∷ ws) h zero place = h.0 place
  slots_same (v ∷ vs) (w ∷ ws) h (suc k) place = slots_same vs ws h.1 k place

  pub tree_alike : (old new : VNode P C Q V H T E L) → new.template ≡ old.template → AlikeValues old.dynamic_nodes new.dynamic_nodes → AlikeTree old new
  tree_alike old new same slots above =
      let walked : CodeTemplate → VNode P C Q V H T E L → List (Mark (types C Q V H T E L)) =
      λ t tree. template_marks (λ p k. node_turns turns.Comes p k) (template_of t) above (λ k place. map (turned turns.Comes) (spots_in turns.Comes tree k place)) [] 0 (nodes_of t.roots) in
      tree_row turns.Comes old above
      ∙ row_is turns.Comes old above [] 0 old.template.roots
      ∙ walk_same (λ p k. node_turns turns.Comes p k) (template_of old.template) above (λ k place. map (turned turns.Comes) (spots_in turns.Comes old k place))
      (λ k place. map (turned turns.Comes) (spots_in turns.Comes new k place)) (λ k place. slots_same old.dynamic_nodes new.dynamic_nodes slots k place) [] 0 (nodes_of old.template.roots)
      ∙ ap (λ t. walked t new) (sym same)
      ∙ sym (row_is turns.Comes new above [] 0 new.template.roots)
      ∙ sym (tree_row turns.Comes new above)

  items_same : (xs ys : List (VNode P C Q V H T E L)) → AlikeTrees xs ys → (i : ℕ) (place : Place) → items_turn turns.Comes i place xs ≡ items_turn turns.Comes i place ys
  items_same [] [] h i place = refl
  items_same [] (y ∷ ys) h i place = absurd h
  items_same (x ∷ xs) [] h i place = absurd h
  items_same (x ∷ xs) (y ∷ ys) h i place = (λ t. h.0 (place ++ item i ∷ []) t ++ items_same xs ys h.1 (i + 1) place t)

  pub fragment_alike : (xs ys : List (VNode P C Q V H T E L)) → AlikeTrees xs ys → AlikeValue (values.Fragment xs) (values.Fragment ys)
  fragment_alike [] [] h place = refl
  fragment_alike [] (y ∷ ys) h place = absurd h
  fragment_alike (x ∷ xs) [] h place = absurd h
  fragment_alike (x ∷ xs) (y ∷ ys) h place =
      value_some turns.Comes (x ∷ xs) place (λ none. cc none) ∙ items_same (x ∷ xs) (y ∷ ys) h 0 place ∙ sym (value_some turns.Comes (y ∷ ys) place (λ none. cc none))

  -- one more slot, and at the end all
  pub values_more : (olds news : List (DynamicNode P C Q V H T E L)) (i : ℕ) (v w : DynamicNode P C Q V H T E L) → i < length olds → v ≡ get_or olds i v → i < length news → w ≡ get_or news i w
      → (AlikeValues (drop i olds) (drop i news) → AlikeValues olds news) → AlikeValue v w → AlikeValues (drop (i + 1) olds) (drop (i + 1) news) → AlikeValues olds news
  values_more olds news i v w low is little same so_far one rest =
      so_far (subst (λ vs. AlikeValues vs (drop i news)) (sym (next_drop olds i v low is)) (subst (λ ws. AlikeValues (v ∷ drop (i + 1) olds) ws) (sym (next_drop news i w little same)) (one, rest)))

  pub values_done : (olds news : List (DynamicNode P C Q V H T E L)) (i : ℕ) → length olds ≤ i → length news ≤ i
      → (AlikeValues (drop i olds) (drop i news) → AlikeValues olds news) → AlikeValues olds news
  values_done olds news i end also so_far =
      so_far (subst (λ vs. AlikeValues vs (drop i news)) (sym (drop_of_length-le olds end)) (subst (λ ws. AlikeValues [] ws) (sym (drop_of_length-le news also)) tt))

  -- one more tree, and at the end all
  pub trees_more : (olds news : List (VNode P C Q V H T E L)) (i : ℕ) (x y : VNode P C Q V H T E L) → i < length olds → x ≡ get_or olds i x → i < length news → y ≡ get_or news i y
      → (AlikeTrees (drop i olds) (drop i news) → AlikeTrees olds news) → AlikeTree x y → AlikeTrees (drop (i + 1) olds) (drop (i + 1) news) → AlikeTrees olds news
  trees_more olds news i x y low is little same so_far one rest =
      so_far (subst (λ xs. AlikeTrees xs (drop i news)) (sym (next_drop olds i x low is)) (subst (λ ys. AlikeTrees (x ∷ drop (i + 1) olds) ys) (sym (next_drop news i y little same)) (one, rest)))

  pub trees_done : (olds news : List (VNode P C Q V H T E L)) (i : ℕ) → length olds ≤ i → length news ≤ i
      → (AlikeTrees (drop i olds) (drop i news) → AlikeTrees olds news) → AlikeTrees olds news
  trees_done olds news i end also so_far =
      so_far (subst (λ xs. AlikeTrees xs (drop i news)) (sym (drop_of_length-le olds end)) (subst (λ ys. AlikeTrees [] ys) (sym (drop_of_length-le news also)) tt))
