-- The marks of an old tree and a new one, part by part.
use Rattle.std.proofs.lemmas.Bool.{eqb-true, true≢false}
use Rattle.std.proofs.lemmas.List.{nil_from_length, take_more}
use Rattle.std.proofs.Common.{ℕ, zero, suc, ◌+◌, ◌<◌, ◌≤◌, Bool, true, false, List, [], ◌∷◌, ◌++◌, ◌≡◌, ◌≢◌, length, get_or, take, drop, map, refl, sym, ap, ◌∙◌, arith}
use Rattle.std.specs.Prelude.{◌==◌, Option, None, slice_get, if◌then◌else◌}
use Rattle.std.proofs.Math.ListN.{drop_of_length-le}
use Rattle.tree_nodes.specs.declared.template.TemplateParts.{TemplateParts as CodeTemplate}
use Rattle.tree_nodes.specs.declared.template.TemplateAttribute.{TemplateAttribute}
use Rattle.tree_nodes.specs.declared.template.TemplateNode.{TemplateNode}
use Rattle.tree_nodes.specs.declared.template.TemplateNode.TheVariants as nodes
use Rattle.tree_nodes.specs.declared.vnode.DynamicNode.{DynamicNode}
use Rattle.tree_nodes.specs.declared.vnode.DynamicNode.TheVariants as values
use Rattle.tree_nodes.specs.declared.vnode.VComponent.{VComponent}
use Rattle.tree_nodes.specs.declared.vnode.VNode.{VNode}
use Rattle.rt_model.specs.OneLog.{types}
use Rattle.rt_model.specs.World.{Application}
use Rattle.rt_model.specs.Values.{is_same_component}
use Rattle.rt_model.specs.Tree as model
use Rattle.rt_model.specs.Tree.{TemplateNodes, Place, Slot, item, place_in, same_template, spots, slot_spots, component_slot, fragment_slot, text_slot, placeholder_slot, no_trees, an_element, a_static_text, a_text, a_placeholder, an_empty_fragment}
use Rattle.rt_model.proofs.Among.{template_same}
use Rattle.rt_model.proofs.SamePlaces.{template-true}
use Rattle.rt_model.proofs.Maps.{pick_false, pick_true}
use Rattle.tree_mirror.specs.Mirror.{slots_from, trees_from}
use Rattle.tree_mirror.specs.Sealed.{component_of, nodes_of, slot_of, template_of, tree_of}
use Rattle.tree_mirror.proofs.SealedNodes.{template-apart}
use Rattle.tree_mirror.proofs.SealedTrees.{tree_out, slot_Text, slot_Placeholder, slot_Component, slot_Fragment}
use Rattle.tree_marks.specs.Marks.{Mark, stays, fed, left, made, worded, slot_goes, tree_goes, slot_way, tree_way, come_in, go_out, gone, come, changed, template_marks, tree_marks, slots_marks, slot_marks, items_marks}
use Rattle.run_places.specs.Places.{at_path}
use Rattle.run_places.specs.Spots.{tree_spots, value_spots}
use Rattle.run_work.specs.declared.turning.Turn.TheVariants as turns
use Rattle.run_work.specs.Grounds.{items_turn, tree_turn, value_turn}
use Rattle.run_work.specs.Met.{Follows, Meets, items_in, items_out, template_gives}
use Rattle.run_work.specs.Pairs.{tree_pair, values_pair, slot_change, tree_change, slot_pair, items_pair, node_pair, row_pair}
use Rattle.run_work.proofs.Following.{follows_both, met}
use Rattle.run_work.proofs.Walking.{mapped, next_drop, walk_Dynamic, walk_Element, walk_Text, walk_first}

-- whether a list has items

pub none_there : {A : Type 0} (xs : List A) (b : Bool) → b ≡ (length xs == 0) → b ≡ true → xs ≡ []
none_there xs b is found = nil_from_length xs (eqb-true (length xs) 0 (sym is ∙ found))

pub some_there : {A : Type 0} (xs : List A) (b : Bool) → b ≡ (length xs == 0) → b ≡ false → xs ≢ []
some_there [] b is found = absurd (true≢false (sym is ∙ found))
some_there (x ∷ xs) b is found = λ none. let absurdity : ⊥ = cc none in absurdity

some_left : {A : Type 0} (xs : List A) (i : ℕ) → i < length xs → drop i xs ≢ []
some_left [] i low = absurd (omega (arith, low))
some_left (x ∷ xs) zero low = λ none. let absurdity : ⊥ = cc none in absurdity
some_left (x ∷ xs) (suc i) low = some_left xs i (omega (arith, low))

-- templates that are one are the same in the definitions, and others aren't

pub template_tested : (u v : CodeTemplate) → u ≡ v → same_template (template_of u) (template_of v) ≡ true
template_tested u v h = ap (λ w. same_template (template_of u) (template_of w)) (sym h) ∙ template_same (template_of u)

pub template_untested : (u v : CodeTemplate) → (u ≡ v → ⊥) → same_template (template_of u) (template_of v) ≡ false
template_untested u v other = by (same_template (template_of u) (template_of v)) refl
  where
    by : (c : Bool) → c ≡ same_template (template_of u) (template_of v) → same_template (template_of u) (template_of v) ≡ false
    by false is = sym is
    by true is = absurd (other (template-apart u v (template-true (template_of u) (template_of v) (sym is))))

module _ {P C Q V H T E L : Type 0} (app : Application (types C Q V H T E L)) where
  abbrev both_in : VNode P C Q V H T E L → VNode P C Q V H T E L → ℕ → Place → List (Mark (types C Q V H T E L))
  both_in old new k place = slots_marks app (slots_from (map slot_of new.dynamic_nodes)) (slots_from (map slot_of old.dynamic_nodes)) k place

  abbrev walk_in : VNode P C Q V H T E L → VNode P C Q V H T E L → Place → List ℕ → ℕ → TemplateNodes → List (Mark (types C Q V H T E L))
  walk_in old new above up i ns = template_marks (λ p k. stays p k) (template_of new.template) above (λ k place. both_in old new k place) up i ns

  row_is : (old new : VNode P C Q V H T E L) (above : Place) (up : List ℕ) (i : ℕ) (row : List TemplateNode) → row_pair app old new above up i row ≡ walk_in old new above up i (nodes_of row)
  unfolding node_pair
  row_is old new above up i [] = refl
  row_is old new above up i (node ∷ row) =
      ap (λ es. node_pair app old new above up i node ++ es) (row_is old new above up (i + 1) row)
      ∙ sym (walk_first (λ p k. stays p k) (template_of new.template) above (λ k place. both_in old new k place) up i node (nodes_of row))

  -- two trees

  abbrev kept_pair : VNode P C Q V H T E L → VNode P C Q V H T E L → Place → List (Mark (types C Q V H T E L))
  kept_pair old new above = template_gives above new old ∷ walk_in old new above [] 0 (nodes_of new.template.roots)

  whole_pair : (old new : VNode P C Q V H T E L) (above : Place)
      → tree_pair app old new above ≡ (if same_template (template_of new.template) (template_of old.template) then kept_pair old new above else tree_change old new above)
  unfolding tree_pair tree_turn tree_spots
  whole_pair old new above =
      (λ t. tree_marks app above (tree_out new t) (tree_out old t))
      ∙ (λ t. if same_template (template_of new.template) (template_of old.template)
      then kept_pair old new above
      else (tree_goes above (sym (tree_out old) t)
      ∷ (map gone (spots above (sym (tree_out old) t)) ++ map come (spots above (sym (tree_out new) t)))
      ++ tree_way above (sym (tree_out new) t) (sym (tree_out old) t) ∷ []))

  pub tree_is : (old new : VNode P C Q V H T E L) (above : Place) → tree_pair app old new above ≡ tree_marks app above (tree_of new) (tree_of old)
  unfolding tree_pair
  tree_is old new above = refl

  pub tree_same : (old new : VNode P C Q V H T E L) (above : Place) → new.template ≡ old.template
      → tree_pair app old new above ≡ template_gives above new old ∷ row_pair app old new above [] 0 new.template.roots
  tree_same old new above h =
      whole_pair old new above
      ∙ pick_true (kept_pair old new above) (tree_change old new above) (template_tested new.template old.template h)
      ∙ ap (λ es. template_gives above new old ∷ es) (sym (row_is old new above [] 0 new.template.roots))

  pub tree_apart : (old new : VNode P C Q V H T E L) (above : Place) → (new.template ≡ old.template → ⊥) → tree_pair app old new above ≡ tree_change old new above
  tree_apart old new above other =
      whole_pair old new above ∙ pick_false (kept_pair old new above) (tree_change old new above) (template_untested new.template old.template other)

  -- nodes of the template

  pub node_Element : (old new : VNode P C Q V H T E L) (above : Place) (up : List ℕ) (i : ℕ) (tag : List ℕ) (namespace : Option (List ℕ)) (attrs : List TemplateAttribute) (children : List TemplateNode)
      → node_pair app old new above up i (nodes.Element tag namespace attrs children)
      ≡ stays (at_path (template_of new.template) above (up ++ i ∷ [])) an_element ∷ row_pair app old new above (up ++ i ∷ []) 0 children
  unfolding node_pair
  node_Element old new above up i tag namespace attrs children =
      walk_Element (λ p k. stays p k) (template_of new.template) above (λ k place. both_in old new k place) up i tag namespace attrs children
      ∙ ap (λ es. stays (place_in (template_of new.template) above up i) an_element ∷ es) (sym (row_is old new above (up ++ i ∷ []) 0 children))

  pub node_Text : (old new : VNode P C Q V H T E L) (above : Place) (up : List ℕ) (i : ℕ) (text : List ℕ)
      → node_pair app old new above up i (nodes.Text text) ≡ stays (at_path (template_of new.template) above (up ++ i ∷ [])) a_static_text ∷ []
  unfolding node_pair
  node_Text old new above up i text = walk_Text (λ p k. stays p k) (template_of new.template) above (λ k place. both_in old new k place) up i text

  -- slots of both trees, by what stands in each
  slots_go : (olds : List (DynamicNode P C Q V H T E L)) (k : ℕ) (place : Place)
      → map gone (model.slots_spots (slots_from (map slot_of olds)) k place) ≡ slot_pair app (slice_get olds k) None place
  unfolding value_turn value_spots
  slots_go [] k place = refl
  slots_go (v ∷ vs) zero place = refl
  slots_go (v ∷ vs) (suc k) place = slots_go vs k place

  slots_are : (olds news : List (DynamicNode P C Q V H T E L)) (k : ℕ) (place : Place)
      → slots_marks app (slots_from (map slot_of news)) (slots_from (map slot_of olds)) k place ≡ slot_pair app (slice_get olds k) (slice_get news k) place
  unfolding values_pair value_turn value_spots
  slots_are [] [] k place = refl
  slots_are (u ∷ us) [] k place = slots_go (u ∷ us) k place
  slots_are [] (v ∷ vs) zero place = refl
  slots_are [] (v ∷ vs) (suc k) place = slots_are [] vs k place
  slots_are (u ∷ us) (v ∷ vs) zero place = refl
  slots_are (u ∷ us) (v ∷ vs) (suc k) place = slots_are us vs k place

  pub node_Slot : (old new : VNode P C Q V H T E L) (above : Place) (up : List ℕ) (i id : ℕ)
      → node_pair app old new above up i (nodes.Dynamic id)
      ≡ slot_pair app (slice_get old.dynamic_nodes id) (slice_get new.dynamic_nodes id) (at_path (template_of new.template) above (up ++ i ∷ []))
  unfolding node_pair
  node_Slot old new above up i id =
      walk_Dynamic (λ p k. stays p k) (template_of new.template) above (λ k place. both_in old new k place) up i id
      ∙ slots_are old.dynamic_nodes new.dynamic_nodes id (at_path (template_of new.template) above (up ++ i ∷ []))

  -- what stands in a slot of both

  slots_pair : (old new : DynamicNode P C Q V H T E L) (place : Place) (v w : Slot (types C Q V H T E L)) → slot_of old ≡ v → slot_of new ≡ w
      → values_pair app old new place ≡ slot_marks app place w v
  unfolding values_pair
  slots_pair old new place v w a b t = slot_marks app place (b t) (a t)

  pub component_stays : (c d : VComponent P C Q V H T E L) (place : Place) → is_same_component app (component_of c) (component_of d) ≡ true
      → values_pair {P = P} app (values.Component c) (values.Component d) place ≡ fed place (component_of c) (component_of d) ∷ []
  component_stays c d place h =
      slots_pair (values.Component c) (values.Component d) place (component_slot (component_of c)) (component_slot (component_of d)) (slot_Component c) (slot_Component d)
      ∙ pick_true (fed place (component_of c) (component_of d) ∷ [])
      (slot_goes place (component_slot (component_of c)) ∷ left place (component_of c) ∷ made place (component_of d) ∷ slot_way place (component_slot (component_of d)) (component_slot (component_of c)) ∷ []) h

  pub both_none : (ts us : List (VNode P C Q V H T E L)) (place : Place) → ts ≡ [] → us ≡ []
      → values_pair {P = P} app (values.Fragment ts) (values.Fragment us) place ≡ stays place an_empty_fragment ∷ []
  both_none ts us place none nothing =
      slots_pair (values.Fragment ts) (values.Fragment us) place (fragment_slot no_trees) (fragment_slot no_trees)
      (slot_Fragment ts ∙ ap (λ xs. fragment_slot (trees_from (map tree_of xs))) none) (slot_Fragment us ∙ ap (λ xs. fragment_slot (trees_from (map tree_of xs))) nothing)

  pub both_some : (ts us : List (VNode P C Q V H T E L)) (place : Place) → ts ≢ [] → us ≢ []
      → values_pair {P = P} app (values.Fragment ts) (values.Fragment us) place ≡ items_pair app 0 place [] ts us
  unfolding items_pair
  both_some [] us place some more = absurd (some refl)
  both_some (x ∷ ts) [] place some more = absurd (more refl)
  both_some (x ∷ ts) (y ∷ us) place some more =
      slots_pair (values.Fragment (x ∷ ts)) (values.Fragment (y ∷ us)) place (fragment_slot (trees_from (map tree_of (x ∷ ts)))) (fragment_slot (trees_from (map tree_of (y ∷ us))))
      (slot_Fragment (x ∷ ts)) (slot_Fragment (y ∷ us))

  -- what stood in the slot goes, and what stands there now comes
  both_change : (old new : DynamicNode P C Q V H T E L) (place : Place) (v w : Slot (types C Q V H T E L)) → slot_of old ≡ v → slot_of new ≡ w
      → slot_marks app place w v ≡ slot_goes place v ∷ changed (slot_spots v place) (slot_spots w place) ++ slot_way place w v ∷ []
      → values_pair app old new place ≡ slot_change old new place
  unfolding value_turn value_spots
  both_change old new place v w a b h =
      slots_pair old new place v w a b
      ∙ h
      ∙ (λ t. slot_goes place (sym a t) ∷ (map gone (slot_spots (sym a t) place) ++ map come (slot_spots (sym b t) place)) ++ slot_way place (sym b t) (sym a t) ∷ [])

  -- another component does
  pub component_changes : (c d : VComponent P C Q V H T E L) (place : Place) → is_same_component app (component_of c) (component_of d) ≡ false
      → values_pair {P = P} app (values.Component c) (values.Component d) place ≡ slot_change {P = P} (values.Component c) (values.Component d) place
  component_changes c d place h =
      both_change (values.Component c) (values.Component d) place (component_slot (component_of c)) (component_slot (component_of d)) (slot_Component c) (slot_Component d)
      (pick_false (fed place (component_of c) (component_of d) ∷ [])
      (slot_goes place (component_slot (component_of c)) ∷ left place (component_of c) ∷ made place (component_of d) ∷ slot_way place (component_slot (component_of d)) (component_slot (component_of c)) ∷ []) h)

  -- the same of what was matched
  pub gives_way : (old new a b : DynamicNode P C Q V H T E L) (place : Place) → old ≡ a → new ≡ b
      → values_pair app a b place ≡ slot_change a b place
      → values_pair app old new place ≡ slot_change old new place
  gives_way old new a b place was is h =
      (λ t. values_pair app (was t) (is t) place) ∙ h ∙ (λ t. slot_change (sym was t) (sym is t) place)

  -- what is of another kind gives way

  pub text_component : (s : List ℕ) (c : VComponent P C Q V H T E L) (place : Place)
      → values_pair {P = P} app (values.Text s) (values.Component c) place ≡ slot_change {P = P} (values.Text s) (values.Component c) place
  text_component s c place = both_change (values.Text s) (values.Component c) place (text_slot s) (component_slot (component_of c)) (slot_Text P s) (slot_Component c) refl

  pub placeholder_component : (c : VComponent P C Q V H T E L) (place : Place)
      → values_pair {P = P} app values.Placeholder (values.Component c) place ≡ slot_change {P = P} values.Placeholder (values.Component c) place
  placeholder_component c place = both_change values.Placeholder (values.Component c) place placeholder_slot (component_slot (component_of c)) (slot_Placeholder P) (slot_Component c) refl

  pub component_text : (c : VComponent P C Q V H T E L) (s : List ℕ) (place : Place)
      → values_pair {P = P} app (values.Component c) (values.Text s) place ≡ slot_change {P = P} (values.Component c) (values.Text s) place
  component_text c s place = both_change (values.Component c) (values.Text s) place (component_slot (component_of c)) (text_slot s) (slot_Component c) (slot_Text P s) refl

  pub component_placeholder : (c : VComponent P C Q V H T E L) (place : Place)
      → values_pair {P = P} app (values.Component c) values.Placeholder place ≡ slot_change {P = P} (values.Component c) values.Placeholder place
  component_placeholder c place = both_change (values.Component c) values.Placeholder place (component_slot (component_of c)) placeholder_slot (slot_Component c) (slot_Placeholder P) refl

  pub text_fragment : (s : List ℕ) (ts : List (VNode P C Q V H T E L)) (place : Place) → values_pair {P = P} app (values.Text s) (values.Fragment ts) place ≡ slot_change {P = P} (values.Text s) (values.Fragment ts) place
  text_fragment s [] place = both_change (values.Text s) (values.Fragment []) place (text_slot s) (fragment_slot no_trees) (slot_Text P s) (slot_Fragment {P = P} []) refl
  text_fragment s (t ∷ ts) place = both_change (values.Text s) (values.Fragment (t ∷ ts)) place (text_slot s) (fragment_slot (trees_from (map tree_of (t ∷ ts)))) (slot_Text P s) (slot_Fragment (t ∷ ts)) refl

  pub fragment_text : (s : List ℕ) (ts : List (VNode P C Q V H T E L)) (place : Place) → values_pair {P = P} app (values.Fragment ts) (values.Text s) place ≡ slot_change {P = P} (values.Fragment ts) (values.Text s) place
  fragment_text s [] place = both_change (values.Fragment []) (values.Text s) place (fragment_slot no_trees) (text_slot s) (slot_Fragment {P = P} []) (slot_Text P s) refl
  fragment_text s (t ∷ ts) place = both_change (values.Fragment (t ∷ ts)) (values.Text s) place (fragment_slot (trees_from (map tree_of (t ∷ ts)))) (text_slot s) (slot_Fragment (t ∷ ts)) (slot_Text P s) refl

  pub placeholder_fragment : (ts : List (VNode P C Q V H T E L)) (place : Place) → values_pair {P = P} app values.Placeholder (values.Fragment ts) place ≡ slot_change {P = P} values.Placeholder (values.Fragment ts) place
  placeholder_fragment [] place = both_change values.Placeholder (values.Fragment []) place placeholder_slot (fragment_slot no_trees) (slot_Placeholder P) (slot_Fragment {P = P} []) refl
  placeholder_fragment (t ∷ ts) place = both_change values.Placeholder (values.Fragment (t ∷ ts)) place placeholder_slot (fragment_slot (trees_from (map tree_of (t ∷ ts)))) (slot_Placeholder P) (slot_Fragment (t ∷ ts)) refl

  pub fragment_placeholder : (ts : List (VNode P C Q V H T E L)) (place : Place) → values_pair {P = P} app (values.Fragment ts) values.Placeholder place ≡ slot_change {P = P} (values.Fragment ts) values.Placeholder place
  fragment_placeholder [] place = both_change (values.Fragment []) values.Placeholder place (fragment_slot no_trees) placeholder_slot (slot_Fragment {P = P} []) (slot_Placeholder P) refl
  fragment_placeholder (t ∷ ts) place = both_change (values.Fragment (t ∷ ts)) values.Placeholder place (fragment_slot (trees_from (map tree_of (t ∷ ts)))) placeholder_slot (slot_Fragment (t ∷ ts)) (slot_Placeholder P) refl

  pub component_fragment : (c : VComponent P C Q V H T E L) (ts : List (VNode P C Q V H T E L)) (place : Place) → values_pair {P = P} app (values.Component c) (values.Fragment ts) place ≡ slot_change {P = P} (values.Component c) (values.Fragment ts) place
  component_fragment c [] place = both_change (values.Component c) (values.Fragment []) place (component_slot (component_of c)) (fragment_slot no_trees) (slot_Component c) (slot_Fragment {P = P} []) refl
  component_fragment c (t ∷ ts) place = both_change (values.Component c) (values.Fragment (t ∷ ts)) place (component_slot (component_of c)) (fragment_slot (trees_from (map tree_of (t ∷ ts)))) (slot_Component c) (slot_Fragment (t ∷ ts)) refl

  pub fragment_component : (c : VComponent P C Q V H T E L) (ts : List (VNode P C Q V H T E L)) (place : Place) → values_pair {P = P} app (values.Fragment ts) (values.Component c) place ≡ slot_change {P = P} (values.Fragment ts) (values.Component c) place
  fragment_component c [] place = both_change (values.Fragment []) (values.Component c) place (fragment_slot no_trees) (component_slot (component_of c)) (slot_Fragment {P = P} []) (slot_Component c) refl
  fragment_component c (t ∷ ts) place = both_change (values.Fragment (t ∷ ts)) (values.Component c) place (fragment_slot (trees_from (map tree_of (t ∷ ts)))) (component_slot (component_of c)) (slot_Fragment (t ∷ ts)) (slot_Component c) refl

  -- a fragment without items gives way to one with items, and one with items to one without

  pub some_gone : (ts us : List (VNode P C Q V H T E L)) (place : Place) → ts ≢ [] → us ≡ []
      → values_pair {P = P} app (values.Fragment ts) (values.Fragment us) place ≡ slot_change {P = P} (values.Fragment ts) (values.Fragment us) place
  some_gone [] us place some none = absurd (some refl)
  some_gone (x ∷ ts) us place some none =
      both_change (values.Fragment (x ∷ ts)) (values.Fragment us) place (fragment_slot (trees_from (map tree_of (x ∷ ts)))) (fragment_slot no_trees)
      (slot_Fragment (x ∷ ts)) (slot_Fragment us ∙ ap (λ xs. fragment_slot (trees_from (map tree_of xs))) none) refl

  pub some_come : (ts us : List (VNode P C Q V H T E L)) (place : Place) → ts ≡ [] → us ≢ []
      → values_pair {P = P} app (values.Fragment ts) (values.Fragment us) place ≡ slot_change {P = P} (values.Fragment ts) (values.Fragment us) place
  some_come ts [] place none some = absurd (some refl)
  some_come ts (y ∷ us) place none some =
      both_change (values.Fragment ts) (values.Fragment (y ∷ us)) place (fragment_slot no_trees) (fragment_slot (trees_from (map tree_of (y ∷ us))))
      (slot_Fragment ts ∙ ap (λ xs. fragment_slot (trees_from (map tree_of xs))) none) (slot_Fragment (y ∷ us)) refl

  -- items

  items_both : (i : ℕ) (place : Place) (front : List (VNode P C Q V H T E L)) (t u : VNode P C Q V H T E L) (ts us : List (VNode P C Q V H T E L))
      → items_pair app i place front (t ∷ ts) (u ∷ us) ≡ tree_pair app t u (place ++ item i ∷ []) ++ items_pair app (i + 1) place (front ++ u ∷ []) ts us
  unfolding items_pair tree_pair
  items_both i place front t u ts us =
      ap (λ fs. tree_pair app t u (place ++ item i ∷ []) ++ items_marks app place (i + 1) fs (trees_from (map tree_of us)) (trees_from (map tree_of ts)))
      (sym (mapped tree_of front (u ∷ [])))

  all_go : (i : ℕ) (place : Place) (ts : List (VNode P C Q V H T E L)) → map gone (model.item_spots i place (trees_from (map tree_of ts))) ≡ items_turn turns.Goes i place ts
  unfolding tree_turn tree_spots
  all_go i place [] = refl
  all_go i place (t ∷ ts) =
      mapped gone (spots (place ++ item i ∷ []) (tree_of t)) (model.item_spots (i + 1) place (trees_from (map tree_of ts)))
      ∙ ap (λ es. map gone (spots (place ++ item i ∷ []) (tree_of t)) ++ es) (all_go (i + 1) place ts)

  all_come : (i : ℕ) (place : Place) (us : List (VNode P C Q V H T E L)) → map come (model.item_spots i place (trees_from (map tree_of us))) ≡ items_turn turns.Comes i place us
  unfolding tree_turn tree_spots
  all_come i place [] = refl
  all_come i place (u ∷ us) =
      mapped come (spots (place ++ item i ∷ []) (tree_of u)) (model.item_spots (i + 1) place (trees_from (map tree_of us)))
      ∙ ap (λ es. map come (spots (place ++ item i ∷ []) (tree_of u)) ++ es) (all_come (i + 1) place us)

  items_none : (i : ℕ) (place : Place) (front ts us : List (VNode P C Q V H T E L)) → ts ≡ [] → us ≡ [] → items_pair app i place front ts us ≡ []
  unfolding items_pair
  items_none i place front ts us none nothing t =
      items_marks app place i (map tree_of front) (trees_from (map tree_of (nothing t))) (trees_from (map tree_of (none t)))

  items_go : (i : ℕ) (place : Place) (front ts us : List (VNode P C Q V H T E L)) → ts ≢ [] → us ≡ []
      → items_pair app i place front ts us ≡ items_turn turns.Goes i place ts ++ go_out place i (trees_from (map tree_of ts)) ∷ []
  unfolding items_pair
  items_go i place front [] us some none = absurd (some refl)
  items_go i place front (t ∷ ts) us some none =
      ap (λ xs. items_marks app place i (map tree_of front) (trees_from (map tree_of xs)) (trees_from (map tree_of (t ∷ ts)))) none
      ∙ ap (λ es. es ++ go_out place i (trees_from (map tree_of (t ∷ ts))) ∷ []) (all_go i place (t ∷ ts))

  items_come : (i : ℕ) (place : Place) (front ts us : List (VNode P C Q V H T E L)) → ts ≡ [] → us ≢ []
      → items_pair app i place front ts us ≡ items_turn turns.Comes i place us ++ come_in place (map tree_of front) i (trees_from (map tree_of us)) ∷ []
  unfolding items_pair
  items_come i place front ts [] none some = absurd (some refl)
  items_come i place front ts (u ∷ us) none some =
      ap (λ xs. items_marks app place i (map tree_of front) (trees_from (map tree_of (u ∷ us))) (trees_from (map tree_of xs))) none
      ∙ ap (λ es. es ++ come_in place (map tree_of front) i (trees_from (map tree_of (u ∷ us))) ∷ []) (all_come i place (u ∷ us))

-- those that name no type of the trees' own
module _ {C Q V H T E L : Type 0} (P : Type 0) (app : Application (types C Q V H T E L)) where
  pub both_Text : (s u : List ℕ) (place : Place) → values_pair {P = P} app (values.Text s) (values.Text u) place ≡ stays place a_text ∷ worded place u s ∷ []
  both_Text s u place = slots_pair {P = P} app (values.Text s) (values.Text u) place (text_slot s) (text_slot u) (slot_Text P s) (slot_Text P u)

  pub both_Placeholder : (place : Place) → values_pair {P = P} app values.Placeholder values.Placeholder place ≡ stays place a_placeholder ∷ []
  both_Placeholder place = slots_pair {P = P} app values.Placeholder values.Placeholder place placeholder_slot placeholder_slot (slot_Placeholder P) (slot_Placeholder P)

  pub text_placeholder : (s : List ℕ) (place : Place) → values_pair {P = P} app (values.Text s) values.Placeholder place ≡ slot_change {P = P} (values.Text s) values.Placeholder place
  text_placeholder s place = both_change {P = P} app (values.Text s) values.Placeholder place (text_slot s) placeholder_slot (slot_Text P s) (slot_Placeholder P) refl

  pub placeholder_text : (s : List ℕ) (place : Place) → values_pair {P = P} app values.Placeholder (values.Text s) place ≡ slot_change {P = P} values.Placeholder (values.Text s) place
  placeholder_text s place = both_change {P = P} app values.Placeholder (values.Text s) place placeholder_slot (text_slot s) (slot_Placeholder P) (slot_Text P s) refl

-- step by step

module _ {P C Q V H T E L S : Type 0} (one : Mark (types C Q V H T E L) → S → S → Type 0) where
  -- what is of another kind gave way, whatever the application
  pub gave_way : (old new a b : DynamicNode P C Q V H T E L) (place : Place) (before now : S) → old ≡ a → new ≡ b
      → ((app : Application (types C Q V H T E L)) → values_pair app a b place ≡ slot_change a b place)
      → Follows one (slot_change old new place) before now
      → Meets one before now (λ app. values_pair app old new place)
  gave_way old new a b place before now was is apart h =
      (slot_change old new place, h, λ app tests. sym (gives_way app old new a b place was is (apart app)))

module _ {P C Q V H T E L : Type 0} (app : Application (types C Q V H T E L)) where
  pub row_parts : (old new : VNode P C Q V H T E L) (above : Place) (up : List ℕ) (row : List TemplateNode) (i : ℕ) (node : TemplateNode) → i < length row → node ≡ get_or row i node
      → row_pair app old new above up i (drop i row) ≡ node_pair app old new above up i node ++ row_pair app old new above up (i + 1) (drop (i + 1) row)
  row_parts old new above up row i node low is = ap (λ ns. row_pair app old new above up i ns) (next_drop row i node low is)

  pub row_over : (old new : VNode P C Q V H T E L) (above : Place) (up : List ℕ) (row : List TemplateNode) (i : ℕ) → length row ≤ i → row_pair app old new above up i (drop i row) ≡ []
  row_over old new above up row i end = ap (λ ns. row_pair app old new above up i ns) (drop_of_length-le row end)

  pub items_parts : (place at_item : Place) (ts us : List (VNode P C Q V H T E L)) (i : ℕ) (t u : VNode P C Q V H T E L)
      → i < length ts → t ≡ get_or ts i t → i < length us → u ≡ get_or us i u → at_item ≡ place ++ item i ∷ []
      → items_pair app i place (take i us) (drop i ts) (drop i us)
      ≡ tree_pair app t u at_item ++ items_pair app (i + 1) place (take (i + 1) us) (drop (i + 1) ts) (drop (i + 1) us)
  items_parts place at_item ts us i t u low is little same at_place =
      let front : take i us ++ u ∷ [] ≡ take (i + 1) us = ap (λ y. take i us ++ y ∷ []) same ∙ sym (take_more us i u little) in
      (λ k. items_pair app i place (take i us) (next_drop ts i t low is k) (next_drop us i u little same k))
      ∙ items_both app i place (take i us) t u (drop (i + 1) ts) (drop (i + 1) us)
      ∙ (λ k. tree_pair app t u (sym at_place k) ++ items_pair app (i + 1) place (front k) (drop (i + 1) ts) (drop (i + 1) us))

  -- both trees' items are over
  pub items_over : (place : Place) (ts us : List (VNode P C Q V H T E L)) (i : ℕ) → length ts ≤ i → length us ≤ i
      → items_pair app i place (take i us) (drop i ts) (drop i us) ≡ []
  items_over place ts us i end also = items_none app i place (take i us) (drop i ts) (drop i us) (drop_of_length-le ts end) (drop_of_length-le us also)

  -- the new tree's items are over: the old ones that are left go
  pub items_left : (place : Place) (ts us : List (VNode P C Q V H T E L)) (i : ℕ) → i < length ts → length us ≤ i
      → items_pair app i place (take i us) (drop i ts) (drop i us) ≡ items_turn turns.Goes i place (drop i ts) ++ items_out place i ts ∷ []
  items_left place ts us i low end = items_go app i place (take i us) (drop i ts) (drop i us) (some_left ts i low) (drop_of_length-le us end)

  -- the old tree's items are over: the new ones that are left come
  pub items_new : (place : Place) (ts us : List (VNode P C Q V H T E L)) (i : ℕ) → length ts ≤ i → i < length us
      → items_pair app i place (take i us) (drop i ts) (drop i us) ≡ items_turn turns.Comes i place (drop i us) ++ items_in place i us ∷ []
  items_new place ts us i end low = items_come app i place (take i us) (drop i ts) (drop i us) (drop_of_length-le ts end) (some_left us i low)

-- the items of both trees, as far as they were met
module _ {P C Q V H T E L S : Type 0} (one : Mark (types C Q V H T E L) → S → S → Type 0) (place : Place) (were are : List (VNode P C Q V H T E L)) (i : ℕ) (start a : S)
    (so_far : (end : S) → Meets one a end (λ app. items_pair app i place (take i are) (drop i were) (drop i are)) → Meets one start end (λ app. items_pair app 0 place [] were are)) where
  pub items_met : length were ≤ i → length are ≤ i → Meets one start a (λ app. items_pair app 0 place [] were are)
  items_met end also = so_far a ([], refl, λ app tests. sym (items_over app place were are i end also))

  pub items_gone : i < length were → length are ≤ i → (b c : S) → Follows one (items_turn turns.Goes i place (drop i were)) a b → one (items_out place i were) b c
      → Meets one start c (λ app. items_pair app 0 place [] were are)
  items_gone low end b c went last =
      let part : List (Mark (types C Q V H T E L)) = items_turn turns.Goes i place (drop i were) in
      let mark : Mark (types C Q V H T E L) = items_out place i were in
      so_far c (part ++ mark ∷ [], follows_both one part (mark ∷ []) a b c went (met one mark b c last), λ app tests. sym (items_left app place were are i low end))

  pub items_came : length were ≤ i → i < length are → (b c : S) → Follows one (items_turn turns.Comes i place (drop i are)) a b → one (items_in place i are) b c
      → Meets one start c (λ app. items_pair app 0 place [] were are)
  items_came end low b c came last =
      let part : List (Mark (types C Q V H T E L)) = items_turn turns.Comes i place (drop i are) in
      let mark : Mark (types C Q V H T E L) = items_in place i are in
      so_far c (part ++ mark ∷ [], follows_both one part (mark ∷ []) a b c came (met one mark b c last), λ app tests. sym (items_new app place were are i end low))
