-- What slots write, by what stood in them and what stands there now.
use Rattle.std.proofs.Common.{ℕ, Bool, true, false, ◌&&◌, List, [], ◌∷◌, ◌≡◌, ◌≢◌, refl, sym, ap, ◌∙◌, map, not}
use Rattle.std.specs.Prelude.{Some, None, if◌then◌else◌, is_some}
use Rattle.tree_nodes.specs.declared.vnode.VNode.{VNode}
use Rattle.tree_nodes.specs.declared.vnode.VComponent.{VComponent}
use Rattle.tree_nodes.specs.declared.vnode.DynamicNode.{DynamicNode}
use Rattle.tree_nodes.specs.declared.vnode.DynamicNode.TheVariants as values
use Rattle.rt_model.specs.OneLog.{types}
use Rattle.rt_model.specs.Lists.{at, same_numbers}
use Rattle.rt_model.specs.World.{Application}
use Rattle.rt_model.specs.Values.{is_same_component}
use Rattle.rt_model.specs.Tree as model
use Rattle.rt_model.specs.Tree.{Place, text_slot, placeholder_slot, component_slot, fragment_slot, no_trees, a_text}
use Rattle.rt_model.specs.Heard.{number_at}
use Rattle.rt_model.proofs.SamePlaces.{numbers-true}
use Rattle.rt_model.proofs.Among.{numbers_same}
use Rattle.rt_model.specs.Document as doc
use Rattle.rt_model.specs.Caused as caused
use Rattle.rt_model.specs.Caused.{Written, writes, halts, is_place}
use Rattle.tree_mirror.specs.Mirror.{trees_from}
use Rattle.tree_mirror.specs.Sealed.{tree_of, slot_of, component_of}
use Rattle.tree_mirror.proofs.SealedTrees.{slot_Text, slot_Placeholder, slot_Component, slot_Fragment}
use Rattle.run_places.specs.Places.{side_of}
use Rattle.run_places.specs.Sides.{child_in, number_in}
use Rattle.run_shown.specs.declared.calm.Sides.{Sides}
use Rattle.run_shown.specs.Seen.{value_seen}
use Rattle.run_shown.specs.Ways.{place_found, way_of}
use Rattle.run_shown.specs.Units.{both_of, unit_writes, slot_writes, child_writes, items_writes, slot_replaces}

module _ {P C Q V H T E L : Type 0} (app : Application (types C Q V H T E L)) where
  -- slots

  abbrev values_writes : Sides P C Q V H T E L → Place → model.Slot (types C Q V H T E L) → model.Slot (types C Q V H T E L) → Written
  values_writes b place new old = caused.slot_written app (both_of app b) place new old

  abbrev models_replace : Sides P C Q V H T E L → Place → model.Slot (types C Q V H T E L) → model.Slot (types C Q V H T E L) → Written
  models_replace b place new old = caused.slot_replaced app (both_of app b) place new old

  replace_is : (b : Sides P C Q V H T E L) (place : Place) (new old : DynamicNode P C Q V H T E L) → models_replace b place (slot_of new) (slot_of old) ≡ slot_replaces b place new old
  unfolding value_seen
  replace_is b place new old = refl

  pub text_same : (b : Sides P C Q V H T E L) (place : Place) (text was : List ℕ) → was ≡ text → slot_writes app b place (values.Text text) (values.Text was) ≡ writes []
  unfolding slot_writes
  text_same b place text was same =
      (λ k. values_writes b place (slot_Text P text k) (slot_Text P was k)) ∙
      ap (λ c. if c then writes [] else writes (doc.SetNodeText (number_at (side_of (b.old.now).side.now).numbers place a_text) text ∷ [])) (ap (λ xs. same_numbers was xs) (sym same) ∙ numbers_same was)

  pub text_other : (b : Sides P C Q V H T E L) (place : Place) (text was : List ℕ) → (was ≡ text → ⊥)
      → slot_writes app b place (values.Text text) (values.Text was) ≡ writes (doc.SetNodeText (number_in (b.old.now).side.now place a_text) text ∷ [])
  unfolding slot_writes
  text_other b place text was other =
      (λ k. values_writes b place (slot_Text P text k) (slot_Text P was k)) ∙
      ap (λ c. if c then writes [] else writes (doc.SetNodeText (number_at (side_of (b.old.now).side.now).numbers place a_text) text ∷ [])) (by (same_numbers was text) refl)
    where
      by : (c : Bool) → c ≡ same_numbers was text → same_numbers was text ≡ false
      by false is = sym is
      by true is = absurd (other (numbers-true was text (sym is)))

  -- another thing stood in the slot
  other_thing : (b : Sides P C Q V H T E L) (place : Place) (new old : DynamicNode P C Q V H T E L) (x y : model.Slot (types C Q V H T E L))
      → slot_of new ≡ x → slot_of old ≡ y → values_writes b place x y ≡ models_replace b place x y → slot_writes app b place new old ≡ slot_replaces b place new old
  unfolding slot_writes
  other_thing b place new old x y is was h = (λ k. values_writes b place (is k) (was k)) ∙ h ∙ sym (λ k. models_replace b place (is k) (was k)) ∙ replace_is b place new old

  pub text_placeholder : (b : Sides P C Q V H T E L) (place : Place) (text : List ℕ) → slot_writes app b place (values.Text text) values.Placeholder ≡ slot_replaces b place (values.Text text) values.Placeholder
  text_placeholder b place text = other_thing b place (values.Text text) values.Placeholder (text_slot text) placeholder_slot (slot_Text P text) (slot_Placeholder P) refl

  pub text_component : (b : Sides P C Q V H T E L) (place : Place) (text : List ℕ) (c : VComponent P C Q V H T E L) → slot_writes app b place (values.Text text) (values.Component c) ≡ slot_replaces b place (values.Text text) (values.Component c)
  text_component b place text c = other_thing b place (values.Text text) (values.Component c) (text_slot text) (component_slot (component_of c)) (slot_Text P text) (slot_Component c) refl

  pub text_fragment : (b : Sides P C Q V H T E L) (place : Place) (text : List ℕ) (trees : List (VNode P C Q V H T E L)) → slot_writes app b place (values.Text text) (values.Fragment trees) ≡ slot_replaces b place (values.Text text) (values.Fragment trees)
  text_fragment b place text trees = other_thing b place (values.Text text) (values.Fragment trees) (text_slot text) (fragment_slot (trees_from (map tree_of trees))) (slot_Text P text) (slot_Fragment trees) refl

  pub placeholder_same : (b : Sides P C Q V H T E L) (place : Place) → slot_writes app b place values.Placeholder values.Placeholder ≡ writes []
  unfolding slot_writes
  placeholder_same b place = (λ k. values_writes b place (slot_Placeholder P k) (slot_Placeholder P k))

  pub placeholder_text : (b : Sides P C Q V H T E L) (place : Place) (text : List ℕ) → slot_writes app b place values.Placeholder (values.Text text) ≡ slot_replaces b place values.Placeholder (values.Text text)
  placeholder_text b place text = other_thing b place values.Placeholder (values.Text text) placeholder_slot (text_slot text) (slot_Placeholder P) (slot_Text P text) refl

  pub placeholder_component : (b : Sides P C Q V H T E L) (place : Place) (c : VComponent P C Q V H T E L) → slot_writes app b place values.Placeholder (values.Component c) ≡ slot_replaces b place values.Placeholder (values.Component c)
  placeholder_component b place c = other_thing b place values.Placeholder (values.Component c) placeholder_slot (component_slot (component_of c)) (slot_Placeholder P) (slot_Component c) refl

  pub placeholder_fragment : (b : Sides P C Q V H T E L) (place : Place) (trees : List (VNode P C Q V H T E L)) → slot_writes app b place values.Placeholder (values.Fragment trees) ≡ slot_replaces b place values.Placeholder (values.Fragment trees)
  placeholder_fragment b place trees = other_thing b place values.Placeholder (values.Fragment trees) placeholder_slot (fragment_slot (trees_from (map tree_of trees))) (slot_Placeholder P) (slot_Fragment trees) refl

  pub component_text : (b : Sides P C Q V H T E L) (place : Place) (c : VComponent P C Q V H T E L) (text : List ℕ) → slot_writes app b place (values.Component c) (values.Text text) ≡ slot_replaces b place (values.Component c) (values.Text text)
  component_text b place c text = other_thing b place (values.Component c) (values.Text text) (component_slot (component_of c)) (text_slot text) (slot_Component c) (slot_Text P text) refl

  pub component_placeholder : (b : Sides P C Q V H T E L) (place : Place) (c : VComponent P C Q V H T E L) → slot_writes app b place (values.Component c) values.Placeholder ≡ slot_replaces b place (values.Component c) values.Placeholder
  component_placeholder b place c = other_thing b place (values.Component c) values.Placeholder (component_slot (component_of c)) placeholder_slot (slot_Component c) (slot_Placeholder P) refl

  pub component_fragment : (b : Sides P C Q V H T E L) (place : Place) (c : VComponent P C Q V H T E L) (trees : List (VNode P C Q V H T E L)) → slot_writes app b place (values.Component c) (values.Fragment trees) ≡ slot_replaces b place (values.Component c) (values.Fragment trees)
  component_fragment b place c trees = other_thing b place (values.Component c) (values.Fragment trees) (component_slot (component_of c)) (fragment_slot (trees_from (map tree_of trees))) (slot_Component c) (slot_Fragment trees) refl

  component_case : (b : Sides P C Q V H T E L) (place : Place) (c was : VComponent P C Q V H T E L)
      → slot_writes app b place (values.Component c) (values.Component was)
      ≡ (if is_same_component app (component_of was) (component_of c) then child_writes app b place else models_replace b place (component_slot (component_of c)) (component_slot (component_of was)))
  unfolding slot_writes child_writes
  component_case b place c was = (λ k. values_writes b place (slot_Component c k) (slot_Component was k))

  pub component_same : (b : Sides P C Q V H T E L) (place : Place) (c was : VComponent P C Q V H T E L) → is_same_component app (component_of was) (component_of c) ≡ true
      → slot_writes app b place (values.Component c) (values.Component was) ≡ child_writes app b place
  component_same b place c was same =
      component_case b place c was ∙ ap (λ t. if t then child_writes app b place else models_replace b place (component_slot (component_of c)) (component_slot (component_of was))) same

  pub component_other : (b : Sides P C Q V H T E L) (place : Place) (c was : VComponent P C Q V H T E L) → is_same_component app (component_of was) (component_of c) ≡ false
      → slot_writes app b place (values.Component c) (values.Component was) ≡ slot_replaces b place (values.Component c) (values.Component was)
  component_other b place c was other =
      component_case b place c was ∙ ap (λ t. if t then child_writes app b place else models_replace b place (component_slot (component_of c)) (component_slot (component_of was))) other ∙
      sym (λ k. models_replace b place (slot_Component c k) (slot_Component was k)) ∙ replace_is b place (values.Component c) (values.Component was)

  pub fragment_text : (b : Sides P C Q V H T E L) (place : Place) (trees : List (VNode P C Q V H T E L)) (text : List ℕ) → slot_writes app b place (values.Fragment trees) (values.Text text) ≡ slot_replaces b place (values.Fragment trees) (values.Text text)
  fragment_text b place [] text = other_thing b place (values.Fragment []) (values.Text text) (fragment_slot no_trees) (text_slot text) (slot_Fragment []) (slot_Text P text) refl
  fragment_text b place (t ∷ ts) text = other_thing b place (values.Fragment (t ∷ ts)) (values.Text text) (fragment_slot (trees_from (map tree_of (t ∷ ts)))) (text_slot text) (slot_Fragment (t ∷ ts)) (slot_Text P text) refl

  pub fragment_placeholder : (b : Sides P C Q V H T E L) (place : Place) (trees : List (VNode P C Q V H T E L)) → slot_writes app b place (values.Fragment trees) values.Placeholder ≡ slot_replaces b place (values.Fragment trees) values.Placeholder
  fragment_placeholder b place [] = other_thing b place (values.Fragment []) values.Placeholder (fragment_slot no_trees) placeholder_slot (slot_Fragment []) (slot_Placeholder P) refl
  fragment_placeholder b place (t ∷ ts) = other_thing b place (values.Fragment (t ∷ ts)) values.Placeholder (fragment_slot (trees_from (map tree_of (t ∷ ts)))) placeholder_slot (slot_Fragment (t ∷ ts)) (slot_Placeholder P) refl

  pub fragment_component : (b : Sides P C Q V H T E L) (place : Place) (trees : List (VNode P C Q V H T E L)) (c : VComponent P C Q V H T E L) → slot_writes app b place (values.Fragment trees) (values.Component c) ≡ slot_replaces b place (values.Fragment trees) (values.Component c)
  fragment_component b place [] c = other_thing b place (values.Fragment []) (values.Component c) (fragment_slot no_trees) (component_slot (component_of c)) (slot_Fragment []) (slot_Component c) refl
  fragment_component b place (t ∷ ts) c = other_thing b place (values.Fragment (t ∷ ts)) (values.Component c) (fragment_slot (trees_from (map tree_of (t ∷ ts)))) (component_slot (component_of c)) (slot_Fragment (t ∷ ts)) (slot_Component c) refl

  pub no_items_same : (b : Sides P C Q V H T E L) (place : Place) (were : List (VNode P C Q V H T E L)) → were ≡ [] → slot_writes app b place (values.Fragment []) (values.Fragment were) ≡ writes []
  unfolding slot_writes
  no_items_same b place were none =
      let empty : List (VNode P C Q V H T E L) = [] in
      ap (λ ts. slot_writes app b place (values.Fragment []) (values.Fragment ts)) none ∙ (λ k. values_writes b place (slot_Fragment empty k) (slot_Fragment empty k))

  pub no_items_other : (b : Sides P C Q V H T E L) (place : Place) (were : List (VNode P C Q V H T E L)) → were ≢ [] → slot_writes app b place (values.Fragment []) (values.Fragment were) ≡ slot_replaces b place (values.Fragment []) (values.Fragment were)
  no_items_other b place [] some = absurd (some refl)
  no_items_other b place (u ∷ us) some = other_thing b place (values.Fragment []) (values.Fragment (u ∷ us)) (fragment_slot no_trees) (fragment_slot (trees_from (map tree_of (u ∷ us)))) (slot_Fragment []) (slot_Fragment (u ∷ us)) refl

  pub items_anew : (b : Sides P C Q V H T E L) (place : Place) (trees were : List (VNode P C Q V H T E L)) → trees ≢ [] → were ≡ [] → slot_writes app b place (values.Fragment trees) (values.Fragment were) ≡ slot_replaces b place (values.Fragment trees) (values.Fragment were)
  items_anew b place [] were some none = absurd (some refl)
  items_anew b place (t ∷ ts) were some none =
      ap (λ us. slot_writes app b place (values.Fragment (t ∷ ts)) (values.Fragment us)) none ∙
      other_thing b place (values.Fragment (t ∷ ts)) (values.Fragment []) (fragment_slot (trees_from (map tree_of (t ∷ ts)))) (fragment_slot no_trees) (slot_Fragment (t ∷ ts)) (slot_Fragment []) refl ∙
      ap (λ us. slot_replaces b place (values.Fragment (t ∷ ts)) (values.Fragment us)) (sym none)

  pub items_both : (b : Sides P C Q V H T E L) (place : Place) (trees were : List (VNode P C Q V H T E L)) → trees ≢ [] → were ≢ [] → slot_writes app b place (values.Fragment trees) (values.Fragment were) ≡ items_writes app b place 0 0 trees were
  unfolding slot_writes items_writes
  items_both b place [] were some others = absurd (some refl)
  items_both b place (t ∷ ts) [] some others = absurd (others refl)
  items_both b place (t ∷ ts) (u ∷ us) some others = (λ k. values_writes b place (slot_Fragment (t ∷ ts) k) (slot_Fragment (u ∷ us) k))

  -- a child scope

  pub child_none : (b : Sides P C Q V H T E L) (place : Place) → child_in (b.old.now).side.now place ≡ None → child_writes app b place ≡ writes []
  unfolding child_writes
  child_none b place none = ap (λ o. caused.child_written app (both_of app b) place o) none

  pub child_case : (b : Sides P C Q V H T E L) (place : Place) (t : ℕ) → child_in (b.old.now).side.now place ≡ Some t
      → child_writes app b place ≡ (if is_place place (place_found b.stop) && not (is_some (at (way_of (b.unit.now).way.now) t)) then halts else unit_writes app b.unit.now b.depth t)
  unfolding child_writes unit_writes
  child_case b place t some = ap (λ o. caused.child_written app (both_of app b) place o) some

  child_by : (b : Sides P C Q V H T E L) (place : Place) (t : ℕ) (here on : Bool)
      → child_in (b.old.now).side.now place ≡ Some t → is_place place (place_found b.stop) ≡ here → is_some (at (way_of (b.unit.now).way.now) t) ≡ on
      → child_writes app b place ≡ (if here && not on then halts else unit_writes app b.unit.now b.depth t)
  child_by b place t here on some is is_on = child_case b place t some ∙ (λ k. if is k && not (is_on k) then halts else unit_writes app b.unit.now b.depth t)

  -- it was to be fed and was refused
  pub child_halts : (b : Sides P C Q V H T E L) (place : Place) (t : ℕ) → child_in (b.old.now).side.now place ≡ Some t
      → is_place place (place_found b.stop) ≡ true → is_some (at (way_of (b.unit.now).way.now) t) ≡ false → child_writes app b place ≡ halts
  child_halts b place t some here off = child_by b place t true false some here off

  -- it is on the way
  pub child_on_way : (b : Sides P C Q V H T E L) (place : Place) (t : ℕ) → child_in (b.old.now).side.now place ≡ Some t
      → is_place place (place_found b.stop) ≡ true → is_some (at (way_of (b.unit.now).way.now) t) ≡ true → child_writes app b place ≡ unit_writes app b.unit.now b.depth t
  child_on_way b place t some here on = child_by b place t true true some here on

  -- it stands elsewhere
  pub child_elsewhere : (b : Sides P C Q V H T E L) (place : Place) (t : ℕ) → child_in (b.old.now).side.now place ≡ Some t
      → is_place place (place_found b.stop) ≡ false → child_writes app b place ≡ unit_writes app b.unit.now b.depth t
  child_elsewhere b place t some away = child_by b place t false (is_some (at (way_of (b.unit.now).way.now) t)) some away refl
