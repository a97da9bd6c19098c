-- The attributes and listeners of an element together, and what one more entry or one edit makes of them.
use Rattle.std.proofs.Common.{ℕ, Bool, true, false, ◌&&◌, ◌||◌, List, [], ◌∷◌, ◌++◌, ◌≡◌, refl, sym, ap, ◌∙◌}
use Rattle.std.specs.Prelude.{Option, Some, None, if◌then◌else◌}
use Rattle.rt_lemmas.proofs.Bools.{neither as either_false}
use Rattle.rt_model.specs.Lists.{Text, same_numbers, same_option, earlier_text}
use Rattle.rt_model.specs.Tree.{Types, TemplateAttribute, fixed, from_slot, AttributeValue, text_value, no_value, listener, Attribute, attributes_in}
use Rattle.rt_model.specs.Fits.{is_plain}
use Rattle.rt_model.specs.Document.{DocAttribute, Content, DocElement, Edit, SetAttribute, CreateEventListener, RemoveEventListener, same_key, earlier_key, with_attribute, set_attribute, with_listener, without_listener, has_text}
use Rattle.rt_model.specs.View.{one_attribute, one_listener, given_attributes, given_listeners, element_attributes, element_listeners}
use Rattle.rt_model.specs.Caused.{listens}
use Rattle.rt_model.proofs.Maps.{pick_true, pick_false, by_test, eq_same}
use Rattle.rt_model.proofs.Among.{numbers_same}
use Rattle.rt_model.proofs.Members.{clash}
use Rattle.law_moves.specs.Settings.{altered_once, and_altered, altered}
use Rattle.law_headline.specs.Entries.{NoneNamed}
use Rattle.law_headline.proofs.Entries.{attributes_commute, listeners_commute, attribute_goes, attribute_differs}
use Rattle.law_headline.proofs.Keys.{Beside, turned, AllBeside, flat, key_same}

-- an element's attributes, and the names that it listens to
pub record Marks : Type 0 where
  pub attributes : List DocAttribute
  pub listeners : List Text

-- an element without any
abbrev pub bare : Marks
bare = record { attributes = []; listeners = [] }

-- a row of edits and then another one
pub altered_both : (n : ℕ) (es fs : List Edit) (c : Content) → altered n (es ++ fs) c ≡ and_altered (altered n es c) (λ d. altered n fs d)
altered_both n [] fs c = refl
altered_both n (e ∷ es) fs c = by_first (altered_once n e c) (λ d. altered_both n es fs d)
  where
    by_first : (o : Option Content) → ((d : Content) → altered n (es ++ fs) d ≡ and_altered (altered n es d) (λ x. altered n fs x))
        → and_altered o (λ d. altered n (es ++ fs) d) ≡ and_altered (and_altered o (λ d. altered n es d)) (λ x. altered n fs x)
    by_first None go = refl
    by_first (Some d) go = go d

-- both of them
abbrev pub together : List DocAttribute → List Text → Marks
together attributes listeners = record { attributes = attributes; listeners = listeners }

-- one edit of the element n
module _ (n : ℕ) (tag : Text) (space : Option Text) where
  -- the element with these marks
  abbrev pub marked : Marks → Content
  marked s = DocElement tag space s.attributes s.listeners

  abbrev once_altered : Option Content → Option Content
  once_altered o = and_altered o (λ c. Some c)

  pub attribute_set : (s : Marks) (name : Text) (namespace value : Option Text)
      → altered n (SetAttribute n name namespace value ∷ []) (marked s) ≡ Some (DocElement tag space (set_attribute s.attributes name namespace value) s.listeners)
  attribute_set s name namespace value = ap once_altered (pick_true _ _ (eq_same n))

  pub listener_set : (s : Marks) (name : Text) → has_text s.listeners name ≡ false
      → altered n (CreateEventListener n name ∷ []) (marked s) ≡ Some (DocElement tag space s.attributes (with_listener s.listeners name))
  listener_set s name h = ap once_altered (pick_true _ _ (eq_same n) ∙ pick_false _ _ h)

  pub listener_dropped : (s : Marks) (name : Text) → has_text s.listeners name ≡ true
      → altered n (RemoveEventListener n name ∷ []) (marked s) ≡ Some (DocElement tag space s.attributes (without_listener s.listeners name))
  listener_dropped s name h = ap once_altered (pick_true _ _ (eq_same n) ∙ pick_true _ _ h)

-- what has a text and what comes of a new one
pub has_new : (all : List Text) (n : Text) → has_text (with_listener all n) n ≡ true
has_new [] n = ap (λ (x : Bool). x || false) (numbers_same n)
has_new (m ∷ ms) n =
    by_test (same_numbers m n)
    (λ e. ap (λ (l : List Text). has_text l n) (pick_true _ _ e) ∙ ap (λ (x : Bool). x || has_text ms n) e)
    (λ e.
    ap (λ (l : List Text). has_text l n) (pick_false _ _ e)
    ∙ by_test (earlier_text n m)
    (λ d. ap (λ (l : List Text). has_text l n) (pick_true (n ∷ m ∷ ms) (m ∷ with_listener ms n) d) ∙ ap (λ (x : Bool). x || has_text (m ∷ ms) n) (numbers_same n))
    (λ d. ap (λ (l : List Text). has_text l n) (pick_false (n ∷ m ∷ ms) (m ∷ with_listener ms n) d) ∙ ap (λ (x : Bool). x || has_text (with_listener ms n) n) e ∙ has_new ms n))

-- another name doesn't come with a new one
pub has_not_new : (all : List Text) (m n : Text) → same_numbers m n ≡ false → has_text all n ≡ false → has_text (with_listener all m) n ≡ false
has_not_new [] m n h g = ap (λ (x : Bool). x || false) h
has_not_new (k ∷ ks) m n h g =
    let parts = either_false (same_numbers k n) (has_text ks n) g in
    by_test (same_numbers k m)
    (λ e. ap (λ (l : List Text). has_text l n) (pick_true _ _ e) ∙ g)
    (λ e.
    ap (λ (l : List Text). has_text l n) (pick_false _ _ e)
    ∙ by_test (earlier_text m k)
    (λ d. ap (λ (l : List Text). has_text l n) (pick_true (m ∷ k ∷ ks) (k ∷ with_listener ks m) d) ∙ ap (λ (x : Bool). x || has_text (k ∷ ks) n) h ∙ g)
    (λ d. ap (λ (l : List Text). has_text l n) (pick_false (m ∷ k ∷ ks) (k ∷ with_listener ks m) d) ∙ ap (λ (x : Bool). x || has_text (with_listener ks m) n) parts.0 ∙ has_not_new ks m n h parts.1))

-- a listener's name that came goes again
pub listener_goes : (all : List Text) (n : Text) → has_text all n ≡ false → without_listener (with_listener all n) n ≡ all
listener_goes [] n h = pick_true _ _ (numbers_same n)
listener_goes (m ∷ ms) n h =
    let parts = either_false (same_numbers m n) (has_text ms n) h in
    ap (λ (l : List Text). without_listener l n) (pick_false _ _ parts.0)
    ∙ by_test (earlier_text n m)
    (λ d. ap (λ (l : List Text). without_listener l n) (pick_true (n ∷ m ∷ ms) (m ∷ with_listener ms n) d) ∙ pick_true _ _ (numbers_same n))
    (λ d.
    ap (λ (l : List Text). without_listener l n) (pick_false (n ∷ m ∷ ms) (m ∷ with_listener ms n) d)
    ∙ pick_false _ _ parts.0
    ∙ ap (λ (l : List Text). m ∷ l) (listener_goes ms n parts.1))

none_of_two : (b : Bool) (xs ys : List DocAttribute) (a : DocAttribute) → NoneNamed xs a → NoneNamed ys a → NoneNamed (if b then xs else ys) a
none_of_two true xs ys a h k = h
none_of_two false xs ys a h k = k

none_new : (all : List DocAttribute) (b a : DocAttribute) → same_key b a.name a.namespace ≡ false → NoneNamed all a → NoneNamed (with_attribute all b) a
none_new [] b a h g = (h, tt)
none_new (c ∷ rest) b a h g =
    none_of_two (same_key c b.name b.namespace) (b ∷ rest) (if earlier_key b c then b ∷ c ∷ rest else c ∷ with_attribute rest b) a (h, g.1)
    (none_of_two (earlier_key b c) (b ∷ c ∷ rest) (c ∷ with_attribute rest b) a (h, g) (g.0, none_new rest b a h g.1))

plain_space : {K : Types} (v : AttributeValue K) (s : Option Text) → is_plain v s ≡ true → listens v ≡ true → s ≡ None
plain_space (listener origin handler) None p l = refl
plain_space (listener origin handler) (Some t) p l = cc
plain_space (text_value text) s p l = cc
plain_space no_value s p l = cc

module _ {K : Types} where
  -- the document's attribute of a name and namespace
  abbrev pub worth : Attribute K → Text → DocAttribute
  worth a t = record { name = a.name; namespace = a.namespace; value = t }

  -- one more entry
  abbrev pub one : Marks → Attribute K → AttributeValue K → Marks
  one s a v = record { attributes = one_attribute s.attributes a v; listeners = one_listener s.listeners a v }

  -- several
  abbrev pub given : Marks → List (Attribute K) → Marks
  given s [] = s
  given s (a ∷ rest) = given (one s a a.value) rest

  pub given_both : (xs ys : List (Attribute K)) (s : Marks) → given s (xs ++ ys) ≡ given (given s xs) ys
  given_both [] ys s = refl
  given_both (x ∷ xs) ys s = given_both xs ys (one s x x.value)

  pub given_apart : (es : List (Attribute K)) (s : Marks) → given s es ≡ together (given_attributes s.attributes es) (given_listeners s.listeners es)
  given_apart [] s = refl
  given_apart (a ∷ rest) s = given_apart rest (one s a a.value)

  pub element_flat : (from : List (List (Attribute K))) (attributes : List TemplateAttribute) (s : Marks)
      → together (element_attributes from s.attributes attributes) (element_listeners from s.listeners attributes) ≡ given s (flat (λ k. attributes_in from k) attributes)
  element_flat from [] s = refl
  element_flat from (fixed name namespace value ∷ rest) s =
      element_flat from rest (record { attributes = with_attribute s.attributes (record { name = name; namespace = namespace; value = value }); listeners = s.listeners })
  element_flat from (from_slot k ∷ rest) s =
      element_flat from rest (together (given_attributes s.attributes (attributes_in from k)) (given_listeners s.listeners (attributes_in from k)))
      ∙ ap (λ (t : Marks). given t (flat (λ j. attributes_in from j) rest)) (sym (given_apart (attributes_in from k) s))
      ∙ sym (given_both (attributes_in from k) (flat (λ j. attributes_in from j) rest) s)

  pub names_apart : (a b : Attribute K) → Beside a b → listens a.value ≡ true → listens b.value ≡ true → same_numbers a.name b.name ≡ false
  names_apart a b h l m =
      by_test (same_numbers a.name b.name)
      (λ e.
      clash
      (ap (λ (x : Bool). x && same_option same_numbers a.namespace b.namespace) e
      ∙ ap (λ (s : Option Text). same_option same_numbers s b.namespace) (plain_space a.value a.namespace h.plain l)
      ∙ ap (λ (s : Option Text). same_option same_numbers None s) (plain_space b.value b.namespace h.other m))
      h.there)
      (λ e. e)

  -- two entries in either order
  pub swapped : (s : Marks) (a b : Attribute K) → Beside a b → one (one s a a.value) b b.value ≡ one (one s b b.value) a a.value
  swapped s a b h = by_values a.value b.value (λ l m. names_apart a b h l m)
    where
      by_values : (v w : AttributeValue K) → (listens v ≡ true → listens w ≡ true → same_numbers a.name b.name ≡ false) → one (one s a v) b w ≡ one (one s b w) a v
      by_values (text_value t) (text_value u) f =
          ap (λ (all : List DocAttribute). together all s.listeners) (attributes_commute s.attributes (worth a t) (worth b u) h.there)
      by_values (text_value t) no_value f = refl
      by_values (text_value t) (listener o k) f = refl
      by_values no_value w f = refl
      by_values (listener o k) (text_value u) f = refl
      by_values (listener o k) no_value f = refl
      by_values (listener o k) (listener p q) f =
          ap (λ (all : List Text). together s.attributes all) (listeners_commute s.listeners a.name b.name (f refl refl))

  -- an entry may be taken last
  pub taken_last : (es : List (Attribute K)) (s : Marks) (a : Attribute K) → AllBeside a es → given (one s a a.value) es ≡ one (given s es) a a.value
  taken_last [] s a h = refl
  taken_last (b ∷ rest) s a h = ap (λ (t : Marks). given t rest) (swapped s a b h.0) ∙ taken_last rest (one s b b.value) a h.1

  -- an element has no entry of this name
  pub record Free (s : Marks) (a : Attribute K) : Type 0 where
    pub key : (t : Text) → NoneNamed s.attributes (worth a t)
    pub name : listens a.value ≡ true → has_text s.listeners a.name ≡ false

  pub bare_free : (a : Attribute K) → Free bare a
  bare_free a = record { key = λ t. tt; name = λ l. refl }

  -- another entry leaves it so
  pub free_one : (s : Marks) (a b : Attribute K) → Beside a b → Free s a → Free (one s b b.value) a
  free_one s a b h free = by_value b.value (λ l m. names_apart b a (turned a b h) l m)
    where
      by_value : (w : AttributeValue K) → (listens w ≡ true → listens a.value ≡ true → same_numbers b.name a.name ≡ false) → Free (one s b w) a
      by_value (text_value u) f = record { key = λ t. none_new s.attributes (worth b u) (worth a t) h.back (free.key t); name = free.name }
      by_value no_value f = record { key = free.key; name = free.name }
      by_value (listener o k) f = record { key = free.key; name = λ l. has_not_new s.listeners b.name a.name (f refl l) (free.name l) }

  pub free_given : (es : List (Attribute K)) (s : Marks) (a : Attribute K) → AllBeside a es → Free s a → Free (given s es) a
  free_given [] s a h free = free
  free_given (b ∷ rest) s a h free = free_given rest (one s b b.value) a h.1 (free_one s a b h.0 free)

  -- none of a list has a name that the element has
  abbrev pub AllFree : Marks → List (Attribute K) → Type 0
  AllFree s [] = Unit {0}
  AllFree s (a ∷ rest) = Free s a × AllFree s rest

  pub bare_all_free : (es : List (Attribute K)) → AllFree bare es
  bare_all_free [] = tt
  bare_all_free (a ∷ rest) = (bare_free a, bare_all_free rest)

  pub all_free_one : (es : List (Attribute K)) (s : Marks) (a : Attribute K) → AllBeside a es → AllFree s es → AllFree (one s a a.value) es
  all_free_one [] s a h f = tt
  all_free_one (b ∷ rest) s a h f = (free_one s b a (turned a b h.0) f.0, all_free_one rest s a h.1 f.1)

  -- one edit of the element n
  module _ (n : ℕ) (tag : Text) (space : Option Text) where
    -- a text that was there goes
    pub text_goes : (s : Marks) (a : Attribute K) (t : Text) → Free s a
        → altered n (SetAttribute n a.name a.namespace None ∷ []) (marked n tag space (one s a (text_value t))) ≡ Some (marked n tag space s)
    text_goes s a t free =
        attribute_set n tag space (one s a (text_value t)) a.name a.namespace None
        ∙ ap (λ (all : List DocAttribute). Some (DocElement tag space all s.listeners)) (attribute_goes s.attributes (worth a t) (free.key t))

    -- a listener that was there goes
    pub listener_leaves : (s : Marks) (a : Attribute K) (o : ℕ) (k : K.Handler) → has_text s.listeners a.name ≡ false
        → altered n (RemoveEventListener n a.name ∷ []) (marked n tag space (one s a (listener o k))) ≡ Some (marked n tag space s)
    listener_leaves s a o k h =
        listener_dropped n tag space (one s a (listener o k)) a.name (has_new s.listeners a.name)
        ∙ ap (λ (all : List Text). Some (DocElement tag space s.attributes all)) (listener_goes s.listeners a.name h)

    -- a text takes the place of another one
    pub text_differs : (s : Marks) (a : Attribute K) (u t : Text)
        → altered n (SetAttribute n a.name a.namespace (Some t) ∷ []) (marked n tag space (one s a (text_value u))) ≡ Some (marked n tag space (one s a (text_value t)))
    text_differs s a u t =
        attribute_set n tag space (one s a (text_value u)) a.name a.namespace (Some t)
        ∙ ap (λ (all : List DocAttribute). Some (DocElement tag space all s.listeners)) (attribute_differs s.attributes (worth a u) (worth a t) (key_same a))
