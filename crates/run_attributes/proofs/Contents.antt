-- The attributes and listeners of an element, entry by entry, and that they are those of the definitions.
use Rattle.std.proofs.Common.{ℕ, zero, suc, List, [], ◌∷◌, ◌≡◌, refl, sym, ap, ◌∙◌, map}
use Rattle.std.specs.Prelude.{Option}
use Rattle.std.specs.List.{slice_index_or}
use Rattle.tree_nodes.specs.declared.attribute.Attribute.{Attribute}
use Rattle.tree_nodes.specs.declared.attribute.AttributeValue.TheVariants as values
use Rattle.tree_nodes.specs.declared.attribute.ListenerCallback.{ListenerCallback}
use Rattle.tree_nodes.specs.declared.template.TemplateAttribute.{TemplateAttribute}
use Rattle.tree_nodes.specs.declared.template.TemplateAttribute.TheVariants as entries
use Rattle.rt_model.specs.Lists.{Text}
use Rattle.rt_model.specs.Tree.{attributes_in}
use Rattle.rt_model.specs.Document as doc
use Rattle.rt_model.specs.Document.{with_attribute, with_listener}
use Rattle.rt_model.specs.View.{one_attribute, one_listener, given_attributes, given_listeners, element_attributes, element_listeners}
use Rattle.tree_mirror.specs.Mirror.{attribute_in, attribute_of, value_of}
use Rattle.run_attributes.specs.Content.{with_given, with_all_given, with_entry, with_entries, with_listener_given, with_listeners_given, with_listeners_of, with_all_listeners}

module _ {P C Q V H T E L : Type 0} where
  -- what a slot gives, at the mirror
  pub slot_given : (given : List (List (Attribute P C Q V H T E L))) (k : ℕ) → attributes_in (map (map attribute_of) given) k ≡ map attribute_of (slice_index_or given k [])
  slot_given [] k = refl
  slot_given (a ∷ given) zero = refl
  slot_given (a ∷ given) (suc k) = slot_given given k

  -- attributes

  pub given_Text : (all : List doc.DocAttribute) (a : Attribute P C Q V H T E L) (text : Text) → a.value ≡ values.Text text
      → with_given all a ≡ with_attribute all (record { name = a.name; namespace = a.namespace; value = text })
  unfolding with_given
  given_Text all a text h = ap (λ v. one_attribute all (attribute_of a) (value_of v)) h

  pub given_None : (all : List doc.DocAttribute) (a : Attribute P C Q V H T E L) → a.value ≡ values.None → with_given all a ≡ all
  unfolding with_given
  given_None all a h = ap (λ v. one_attribute all (attribute_of a) (value_of v)) h

  pub given_Listener : (all : List doc.DocAttribute) (a : Attribute P C Q V H T E L) (l : ListenerCallback P C Q V H T E L) → a.value ≡ values.Listener l → with_given all a ≡ all
  unfolding with_given
  given_Listener all a l h = ap (λ v. one_attribute all (attribute_of a) (value_of v)) h

  all_given : (all : List doc.DocAttribute) (xs : List (Attribute P C Q V H T E L)) → with_all_given all xs ≡ given_attributes all (map attribute_of xs)
  unfolding with_given
  all_given all [] = refl
  all_given all (a ∷ xs) = all_given (with_given all a) xs

  pub entry_Static : (given : List (List (Attribute P C Q V H T E L))) (all : List doc.DocAttribute) (name : Text) (namespace : Option Text) (value : Text)
      → with_entry given all (entries.Static name namespace value) ≡ with_attribute all (record { name = name; namespace = namespace; value = value })
  unfolding with_entry
  entry_Static given all name namespace value = refl

  pub entry_Dynamic : (given : List (List (Attribute P C Q V H T E L))) (all : List doc.DocAttribute) (id : ℕ)
      → with_entry given all (entries.Dynamic id) ≡ with_all_given all (slice_index_or given id [])
  unfolding with_entry
  entry_Dynamic given all id = ap (λ xs. given_attributes all xs) (slot_given given id) ∙ sym (all_given all (slice_index_or given id []))

  pub entries_are : (given : List (List (Attribute P C Q V H T E L))) (all : List doc.DocAttribute) (es : List TemplateAttribute)
      → with_entries given all es ≡ element_attributes (map (map attribute_of) given) all (map attribute_in es)
  unfolding with_entry
  entries_are given all [] = refl
  entries_are given all (entries.Static name namespace value ∷ es) = entries_are given (with_entry given all (entries.Static name namespace value)) es
  entries_are given all (entries.Dynamic id ∷ es) = entries_are given (with_entry given all (entries.Dynamic id)) es

  -- listeners

  pub listener_Text : (all : List Text) (a : Attribute P C Q V H T E L) (text : Text) → a.value ≡ values.Text text → with_listener_given all a ≡ all
  unfolding with_listener_given
  listener_Text all a text h = ap (λ v. one_listener all (attribute_of a) (value_of v)) h

  pub listener_None : (all : List Text) (a : Attribute P C Q V H T E L) → a.value ≡ values.None → with_listener_given all a ≡ all
  unfolding with_listener_given
  listener_None all a h = ap (λ v. one_listener all (attribute_of a) (value_of v)) h

  pub listener_Listener : (all : List Text) (a : Attribute P C Q V H T E L) (l : ListenerCallback P C Q V H T E L) → a.value ≡ values.Listener l
      → with_listener_given all a ≡ with_listener all a.name
  unfolding with_listener_given
  listener_Listener all a l h = ap (λ v. one_listener all (attribute_of a) (value_of v)) h

  all_listening : (all : List Text) (xs : List (Attribute P C Q V H T E L)) → with_listeners_given all xs ≡ given_listeners all (map attribute_of xs)
  unfolding with_listener_given
  all_listening all [] = refl
  all_listening all (a ∷ xs) = all_listening (with_listener_given all a) xs

  pub listeners_Static : (given : List (List (Attribute P C Q V H T E L))) (all : List Text) (name : Text) (namespace : Option Text) (value : Text)
      → with_listeners_of given all (entries.Static name namespace value) ≡ all
  unfolding with_listeners_of
  listeners_Static given all name namespace value = refl

  pub listeners_Dynamic : (given : List (List (Attribute P C Q V H T E L))) (all : List Text) (id : ℕ)
      → with_listeners_of given all (entries.Dynamic id) ≡ with_listeners_given all (slice_index_or given id [])
  unfolding with_listeners_of
  listeners_Dynamic given all id = ap (λ xs. given_listeners all xs) (slot_given given id) ∙ sym (all_listening all (slice_index_or given id []))

  pub listeners_are : (given : List (List (Attribute P C Q V H T E L))) (all : List Text) (es : List TemplateAttribute)
      → with_all_listeners given all es ≡ element_listeners (map (map attribute_of) given) all (map attribute_in es)
  unfolding with_listeners_of
  listeners_are given all [] = refl
  listeners_are given all (entries.Static name namespace value ∷ es) = listeners_are given all es
  listeners_are given all (entries.Dynamic id ∷ es) = listeners_are given (with_listeners_of given all (entries.Dynamic id)) es

pub ruleset contents = (given_Text, given_None, given_Listener, entry_Static, entry_Dynamic, listener_Text, listener_None, listener_Listener, listeners_Static, listeners_Dynamic)
