-- What one attribute slot writes, attribute by attribute, and that it is what the definitions say.
use Rattle.std.proofs.Common.{ℕ, Bool, true, false, ◌&&◌, ◌||◌, List, [], ◌∷◌, ◌++◌, ◌≡◌, refl, sym, ap, ◌∙◌, map}
use Rattle.std.specs.Prelude.{Option, Some, None, if◌then◌else◌, is_some}
pub use Rattle.rt_lemmas.proofs.Lists.{append_nil as nil-right}
use Rattle.tree_nodes.specs.declared.attribute.Attribute.{Attribute}
use Rattle.tree_nodes.specs.declared.attribute.AttributeValue.{AttributeValue}
use Rattle.tree_nodes.specs.declared.attribute.AttributeValue.TheVariants as values
use Rattle.tree_nodes.specs.declared.attribute.ListenerCallback.{ListenerCallback}
use Rattle.rt_edits.specs.declared.edit.Edit.{Edit}
use Rattle.rt_model.specs.Lists.{Text, same_numbers, same_option}
use Rattle.rt_model.specs.Document as doc
use Rattle.rt_model.specs.Caused.{is_key, text_if, text_under, listens, listens_under, one_left, one_come, left, come}
use Rattle.tree_mirror.specs.Mirror.{attribute_of, value_of}
use Rattle.tree_edits.specs.Documents.{edit_of}
use Rattle.run_attributes.specs.Given.{edits_of, has_key_of, text_of, text_here, gives_text, is_listening, text_among, listener_among, left_of, all_left, come_of, all_come}

module _ (P C Q V H T E L : Type 0) where
  pub text_Text : (text : Text) → text_of {P = P} {C = C} {Q = Q} {V = V} {H = H} {T = T} {E = E} {L = L} (values.Text text) ≡ Some text
  unfolding text_of
  text_Text text = refl

  pub text_None : text_of {P = P} {C = C} {Q = Q} {V = V} {H = H} {T = T} {E = E} {L = L} values.None ≡ None
  unfolding text_of
  text_None = refl

  pub listening_Text : (text : Text) → is_listening {P = P} {C = C} {Q = Q} {V = V} {H = H} {T = T} {E = E} {L = L} (values.Text text) ≡ false
  unfolding is_listening
  listening_Text text = refl

  pub listening_None : is_listening {P = P} {C = C} {Q = Q} {V = V} {H = H} {T = T} {E = E} {L = L} values.None ≡ false
  unfolding is_listening
  listening_None = refl

module _ {P C Q V H T E L : Type 0} where
  pub text_Listener : (l : ListenerCallback P C Q V H T E L) → text_of (values.Listener l) ≡ None
  unfolding text_of
  text_Listener l = refl

  pub listening_Listener : (l : ListenerCallback P C Q V H T E L) → is_listening (values.Listener l) ≡ true
  unfolding is_listening
  listening_Listener l = refl

  pub key_out : (b a : Attribute P C Q V H T E L) → has_key_of b a ≡ same_numbers b.name a.name && same_option same_numbers b.namespace a.namespace
  unfolding has_key_of
  key_out b a = refl

  pub here_out : (a b : Attribute P C Q V H T E L) → text_here a b ≡ (if has_key_of b a then text_of b.value else None)
  unfolding text_here
  here_out a b = refl

  pub gives_out : (a : Attribute P C Q V H T E L) (slot : List (Attribute P C Q V H T E L)) (text : Text) → gives_text a slot text ≡ same_option same_numbers (text_among a slot) (Some text)
  unfolding gives_text
  gives_out a slot text = refl

  -- the definitions find the same

  one_text : (key : Bool) (value : AttributeValue P C Q V H T E L) (rest : Option Text)
      → elim (if key then text_of value else None) as (λ o. Option Text) [ None ↦ rest | Some text ↦ Some text ] ≡ (if key then text_if rest (value_of value) else rest)
  unfolding text_of
  one_text true (values.Text t) rest = refl
  one_text true values.None rest = refl
  one_text true (values.Listener l) rest = refl
  one_text false value rest = refl

  pub text_is : (a : Attribute P C Q V H T E L) (xs : List (Attribute P C Q V H T E L)) → text_among a xs ≡ text_under (attribute_of a) (map attribute_of xs)
  unfolding has_key_of text_here
  text_is a [] = refl
  text_is a (b ∷ xs) =
      one_text (is_key (attribute_of b) (attribute_of a)) b.value (text_among a xs) ∙
      ap (λ o. if is_key (attribute_of b) (attribute_of a) then text_if o (value_of b.value) else o) (text_is a xs)

  pub listener_is : (a : Attribute P C Q V H T E L) (xs : List (Attribute P C Q V H T E L)) → listener_among a xs ≡ listens_under (attribute_of a) (map attribute_of xs)
  unfolding has_key_of is_listening
  listener_is a [] = refl
  listener_is a (b ∷ xs) = ap (λ o. (is_key (attribute_of b) (attribute_of a) && listens (value_of b.value)) || o) (listener_is a xs)

  pub left_Text : (number : ℕ) (new : List (Attribute P C Q V H T E L)) (a : Attribute P C Q V H T E L) (text : Text) → a.value ≡ values.Text text
      → left_of number new a ≡ (if is_some (text_among a new) then [] else doc.SetAttribute number a.name a.namespace None ∷ [])
  unfolding left_of
  left_Text number new a text h =
      ap (λ v. one_left number (map attribute_of new) (attribute_of a) (value_of v)) h ∙
      ap (λ o. if is_some o then [] else doc.SetAttribute number a.name a.namespace None ∷ []) (sym (text_is a new))

  pub left_None : (number : ℕ) (new : List (Attribute P C Q V H T E L)) (a : Attribute P C Q V H T E L) → a.value ≡ values.None → left_of number new a ≡ []
  unfolding left_of
  left_None number new a h = ap (λ v. one_left number (map attribute_of new) (attribute_of a) (value_of v)) h

  pub left_Listener : (number : ℕ) (new : List (Attribute P C Q V H T E L)) (a : Attribute P C Q V H T E L) (l : ListenerCallback P C Q V H T E L) → a.value ≡ values.Listener l
      → left_of number new a ≡ (if listener_among a new then [] else doc.RemoveEventListener number a.name ∷ [])
  unfolding left_of
  left_Listener number new a l h =
      ap (λ v. one_left number (map attribute_of new) (attribute_of a) (value_of v)) h ∙
      ap (λ b. if b then [] else doc.RemoveEventListener number a.name ∷ []) (sym (listener_is a new))

  pub left_is : (old new : List (Attribute P C Q V H T E L)) (number : ℕ) → all_left old new number ≡ left (map attribute_of old) (map attribute_of new) number
  unfolding left_of
  left_is [] new number = refl
  left_is (a ∷ old) new number = ap (λ xs. left_of number new a ++ xs) (left_is old new number)

  pub come_Text : (number : ℕ) (old : List (Attribute P C Q V H T E L)) (a : Attribute P C Q V H T E L) (text : Text) → a.value ≡ values.Text text
      → come_of number old a ≡ (if gives_text a old text then [] else doc.SetAttribute number a.name a.namespace (Some text) ∷ [])
  unfolding come_of gives_text
  come_Text number old a text h =
      ap (λ v. one_come number (map attribute_of old) (attribute_of a) (value_of v)) h ∙
      ap (λ o. if same_option same_numbers o (Some text) then [] else doc.SetAttribute number a.name a.namespace (Some text) ∷ []) (sym (text_is a old))

  pub come_None : (number : ℕ) (old : List (Attribute P C Q V H T E L)) (a : Attribute P C Q V H T E L) → a.value ≡ values.None → come_of number old a ≡ []
  unfolding come_of
  come_None number old a h = ap (λ v. one_come number (map attribute_of old) (attribute_of a) (value_of v)) h

  pub come_Listener : (number : ℕ) (old : List (Attribute P C Q V H T E L)) (a : Attribute P C Q V H T E L) (l : ListenerCallback P C Q V H T E L) → a.value ≡ values.Listener l
      → come_of number old a ≡ (if listener_among a old then [] else doc.CreateEventListener number a.name ∷ [])
  unfolding come_of
  come_Listener number old a l h =
      ap (λ v. one_come number (map attribute_of old) (attribute_of a) (value_of v)) h ∙
      ap (λ b. if b then [] else doc.CreateEventListener number a.name ∷ []) (sym (listener_is a old))

  pub come_is : (new old : List (Attribute P C Q V H T E L)) (number : ℕ) → all_come new old number ≡ come (map attribute_of new) (map attribute_of old) number
  unfolding come_of
  come_is [] old number = refl
  come_is (a ∷ new) old number = ap (λ xs. come_of number old a ++ xs) (come_is new old number)

pub edits-append : (a b : List Edit) → edits_of (a ++ b) ≡ edits_of a ++ edits_of b
edits-append [] b = refl
edits-append (x ∷ a) b = ap (λ xs. edit_of x ∷ xs) (edits-append a b)

pub ruleset slots = (key_out, here_out, gives_out, text_Text, text_None, text_Listener, listening_Text, listening_None, listening_Listener, left_Text, left_None, left_Listener, come_Text, come_None, come_Listener, edits-append, nil-right)
