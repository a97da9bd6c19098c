-- A tree beside an equal one gives no edit, where the scopes of its components write nothing.
use Rattle.std.proofs.Common.{ℕ, zero, suc, ◌+◌, true, false, ◌&&◌, not, List, [], ◌∷◌, ◌++◌, ◌≡◌, refl, ap, ◌∙◌}
use Rattle.std.specs.Prelude.{Option, Some, None, is_some, if◌then◌else◌, length}
use Rattle.rt_lemmas.proofs.Bools.{neither as or_false, or_right as or_true, both_true, or_left as first_true, not_and}
use Rattle.rt_lemmas.proofs.Lists.{both_empty as none}
use Rattle.rt_model.specs.Lists.{Text, same_numbers, same_option}
use Rattle.rt_model.specs.Tree.{Types, AttributeValue, text_value, no_value, listener, Attribute, Tree, block, Slots, no_slots, more_slots, Slot, text_slot, placeholder_slot, component_slot, fragment_slot, Trees, no_trees, more_trees, VComponent, Own, Root, Fragment, ErrorBoundary, SuspenseBoundary, Place, item, attributes_in}
use Rattle.rt_model.specs.World.{Application}
use Rattle.rt_model.specs.Laws.{Tests}
use Rattle.rt_model.specs.Values.{is_same_component}
use Rattle.rt_model.specs.Run.{child_at}
use Rattle.rt_model.specs.Document.{SetAttribute, RemoveEventListener, CreateEventListener}
use Rattle.rt_model.specs.Caused.{writes, halts, is_place, is_key, text_if, text_under, listens, listens_under, one_left, left, one_come, come, Both, child_written, tree_written, slots_written, slot_written, items_written, outputs_written}
use Rattle.rt_model.specs.Unchanged.{is_keyed, once_each, Single, SingleSlots, SingleSlot, SingleTrees, SingleOutput}
use Rattle.rt_model.proofs.Maps.{pick_true, pick_false}
use Rattle.rt_model.proofs.Quiet.{option_same, nothing_on, pass_quiet, slots_quiet_pass}
pub use Rattle.rt_model.proofs.Quiet.{side_same}
use Rattle.rt_model.proofs.Among.{template_same, numbers_same}

module _ {K : Types} where
  key_same : (a : Attribute K) → is_key a a ≡ true
  key_same a = both_true (numbers_same a.name) (option_same a.namespace)

  -- what a slot says of an attribute
  abbrev SaysOf : List (Attribute K) → Attribute K → AttributeValue K → Type 0
  SaysOf all a (text_value t) = text_under a all ≡ Some t
  SaysOf all a no_value = Unit {0}
  SaysOf all a (listener origin handler) = listens_under a all ≡ true

  abbrev SaysAll : List (Attribute K) → List (Attribute K) → Type 0
  SaysAll all [] = Unit {0}
  SaysAll all (a ∷ rest) = SaysOf all a a.value × SaysAll all rest

  says_more : (b : Attribute K) (es : List (Attribute K)) (a : Attribute K) (v : AttributeValue K) → is_key b a ≡ false → SaysOf es a v → SaysOf (b ∷ es) a v
  says_more b es a (text_value t) f h = pick_false (text_if (text_under a es) b.value) (text_under a es) f ∙ h
  says_more b es a no_value f h = tt
  says_more b es a (listener origin handler) f h = or_true (is_key b a && listens b.value) (listens_under a es) h

  says_all_more : (b : Attribute K) (es xs : List (Attribute K)) → is_keyed b xs ≡ false → SaysAll es xs → SaysAll (b ∷ es) xs
  says_all_more b es [] f h = tt
  says_all_more b es (x ∷ xs) f h =
      let p = or_false (is_key b x) (is_keyed b xs) f in (says_more b es x x.value p.0 h.0, says_all_more b es xs p.1 h.1)

  text_first : (later : Option Text) (t : Text) (v : AttributeValue K) → v ≡ text_value t → text_if later v ≡ Some t
  text_first later t v e = ap (λ (u : AttributeValue K). text_if later u) e

  says_first : (a : Attribute K) (es : List (Attribute K)) (v : AttributeValue K) → a.value ≡ v → SaysOf (a ∷ es) a v
  says_first a es (text_value t) e = pick_true (text_if (text_under a es) a.value) (text_under a es) (key_same a) ∙ text_first (text_under a es) t a.value e
  says_first a es no_value e = tt
  says_first a es (listener origin handler) e =
      first_true (is_key a a && listens a.value) (listens_under a es) (both_true (key_same a) (ap (λ (u : AttributeValue K). listens u) e))

  says_all : (es : List (Attribute K)) → once_each es ≡ true → SaysAll es es
  says_all [] h = tt
  says_all (a ∷ es) h =
      let p = not_and (is_keyed a es) (once_each es) h in (says_first a es a.value refl, says_all_more a es es p.0 (says_all es p.1))

  one_left_quiet : (number : ℕ) (all : List (Attribute K)) (a : Attribute K) (v : AttributeValue K) → SaysOf all a v → one_left number all a v ≡ []
  one_left_quiet number all a (text_value t) h = pick_true [] (SetAttribute number a.name a.namespace None ∷ []) (ap (λ (o : Option Text). is_some o) h)
  one_left_quiet number all a no_value h = refl
  one_left_quiet number all a (listener origin handler) h = pick_true [] (RemoveEventListener number a.name ∷ []) h

  left_quiet : (es all : List (Attribute K)) (number : ℕ) → SaysAll all es → left es all number ≡ []
  left_quiet [] all number h = refl
  left_quiet (a ∷ es) all number h = none (one_left_quiet number all a a.value h.0) (left_quiet es all number h.1)

  one_come_quiet : (number : ℕ) (all : List (Attribute K)) (a : Attribute K) (v : AttributeValue K) → SaysOf all a v → one_come number all a v ≡ []
  one_come_quiet number all a (text_value t) h =
      pick_true [] (SetAttribute number a.name a.namespace (Some t) ∷ []) (ap (λ (o : Option Text). same_option same_numbers o (Some t)) h ∙ numbers_same t)
  one_come_quiet number all a no_value h = refl
  one_come_quiet number all a (listener origin handler) h = pick_true [] (CreateEventListener number a.name ∷ []) h

  come_quiet : (es all : List (Attribute K)) (number : ℕ) → SaysAll all es → come es all number ≡ []
  come_quiet [] all number h = refl
  come_quiet (a ∷ es) all number h = none (one_come_quiet number all a a.value h.0) (come_quiet es all number h.1)

  -- nothing was refused, and no child scope of the old side writes anything
  pub record IsQuiet (b : Both K) : Type 0 where
    pub no_stop : b.stop ≡ None
    pub under : (place : Place) (t : ℕ) → child_at b.old.children place ≡ Some t → b.under t ≡ writes []

module _ {K : Types} (app : Application K) (tests : Tests K.Component app.same_component) where
  component_same : (c : VComponent K) → is_same_component app c c ≡ true
  component_same (Own a p) = tests.1 a
  component_same (Root a p) = refl
  component_same (Fragment t) = refl
  component_same (ErrorBoundary t h) = refl
  component_same (SuspenseBoundary t f) = refl

  child_quiet : (b : Both K) → IsQuiet b → (place : Place) (o : Option ℕ) → child_at b.old.children place ≡ o → child_written app b place o ≡ writes []
  child_quiet b q place None found = refl
  child_quiet b q place (Some t) found =
      pick_false halts (b.under t) (ap (λ (o : Option Place). is_place place o && not (b.on_way t)) q.no_stop) ∙ q.under place t found

  mutual
    tree_quiet : (b : Both K) → IsQuiet b → (above : Place) (x : Tree K) → Single x → tree_written app b above x x ≡ writes []
    tree_quiet b q above (block template given slots) h =
        pick_true _ _ (template_same template)
        ∙ nothing_on
        (
        ap writes
        (none
        (pass_quiet _ _ [] 0 template.roots (λ k n. left_quiet (attributes_in given k) (attributes_in given k) n (says_all (attributes_in given k) (h.0 k))))
        (pass_quiet _ _ [] 0 template.roots (λ k n. come_quiet (attributes_in given k) (attributes_in given k) n (says_all (attributes_in given k) (h.0 k)))))
        )
        (slots_quiet_pass _ _ [] 0 template.roots (λ k p. slots_quiet b q slots h.1 k p))

    slots_quiet : (b : Both K) → IsQuiet b → (slots : Slots K) → SingleSlots slots → (k : ℕ) (place : Place) → slots_written app b slots slots k place ≡ writes []
    slots_quiet b q no_slots h k place = refl
    slots_quiet b q (more_slots v rest) h zero place = slot_quiet b q place v h.0
    slots_quiet b q (more_slots v rest) h (suc k) place = slots_quiet b q rest h.1 k place

    slot_quiet : (b : Both K) → IsQuiet b → (place : Place) (v : Slot K) → SingleSlot v → slot_written app b place v v ≡ writes []
    slot_quiet b q place (text_slot t) h = pick_true _ _ (numbers_same t)
    slot_quiet b q place placeholder_slot h = refl
    slot_quiet b q place (component_slot c) h = pick_true _ _ (component_same c) ∙ child_quiet b q place (child_at b.old.children place) refl
    slot_quiet b q place (fragment_slot no_trees) h = refl
    slot_quiet b q place (fragment_slot (more_trees y ys)) h = items_quiet b q place 0 0 (more_trees y ys) h

    items_quiet : (b : Both K) → IsQuiet b → (place : Place) (i last : ℕ) (ts : Trees K) → SingleTrees ts → items_written app b place i last ts ts ≡ writes []
    items_quiet b q place i last no_trees h = refl
    items_quiet b q place i last (more_trees y ys) h = nothing_on (tree_quiet b q (place ++ item i ∷ []) y h.0) (items_quiet b q place (i + 1) _ ys h.1)

  -- so it is with outputs
  pub outputs_quiet : (b : Both K) → IsQuiet b → (o : Option (Tree K)) → SingleOutput o → outputs_written app b o o ≡ writes []
  outputs_quiet b q None h = refl
  outputs_quiet b q (Some tree) h = tree_quiet b q [] tree h
