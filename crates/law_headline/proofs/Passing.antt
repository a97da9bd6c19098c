-- The two passes over the attribute slots of one element.
use Rattle.std.proofs.Common.{ℕ, Bool, true, false, List, [], ◌∷◌, ◌++◌, ◌≡◌, refl, sym, ap, subst, ◌∙◌}
use Rattle.std.specs.Prelude.{Option, Some, None, if◌then◌else◌, is_some}
use Rattle.rt_model.specs.Lists.{Text, same_numbers, same_option}
use Rattle.rt_model.specs.Tree.{Types, TemplateAttribute, fixed, from_slot, AttributeValue, text_value, no_value, listener, Attribute}
use Rattle.rt_model.specs.Fits.{is_plain}
use Rattle.rt_model.specs.Document.{Content, Edit, SetAttribute, CreateEventListener, RemoveEventListener, has_text}
use Rattle.rt_model.specs.Caused.{element_pass, text_under, listens, listens_under, one_left, left, one_come, come}
use Rattle.rt_model.proofs.Maps.{by_test}
use Rattle.rt_model.proofs.SamePlaces.{numbers-true}
use Rattle.law_moves.specs.Settings.{and_altered, altered}
use Rattle.law_headline.proofs.Keys.{named, AllBeside, Unique, beside_both, beside_left, beside_right, unique_left, unique_right, flat}
use Rattle.law_headline.proofs.Marks.{Marks, altered_both, one, given, given_both, taken_last, Free, free_given, AllFree, all_free_one, marked, attribute_set, listener_set, text_goes, listener_leaves, text_differs}
use Rattle.law_headline.proofs.Staying.{one_kept, kept, text_found, one_found, found, found_swapped, beside_all_found, kept_found}

module _ (n : ℕ) (tag : Text) (space : Option Text) where
  -- edits make the second marks of the first ones
  abbrev pub Alters : List Edit → Marks → Marks → Type 0
  Alters es s t = altered n es (marked n tag space s) ≡ Some (marked n tag space t)

  alters_both : (es fs : List Edit) (s t u : Marks) → Alters es s t → Alters fs t u → Alters (es ++ fs) s u
  alters_both es fs s t u h k =
      altered_both n es fs (marked n tag space s) ∙ ap (λ (o : Option Content). and_altered o (λ d. altered n fs d)) h ∙ k

  -- the first marks are these, and the second ones those
  of_to : (es : List Edit) (s t u v : Marks) → s ≡ t → v ≡ u → Alters es t u → Alters es s v
  of_to es s t u v p q h = ap (λ (x : Marks). altered n es (marked n tag space x)) p ∙ h ∙ ap (λ (x : Marks). Some (marked n tag space x)) (sym q)

module _ {K : Types} (n : ℕ) (tag : Text) (space : Option Text) where
  -- the first pass, one attribute: it stays, or it goes
  one_leaves : (new : List (Attribute K)) (a : Attribute K) (v : AttributeValue K) (s : Marks)
      → ((t : Text) → v ≡ text_value t → Free s (named a v))
      → (listens v ≡ true → has_text s.listeners a.name ≡ false)
      → Alters n tag space (one_left n new a v) (one s a v) (given s (one_kept new a v))
  one_leaves new a (text_value t) s free f =
      by_test (is_some (text_under a new))
      (λ e.
      ap (λ (x : Bool). altered n (if x then [] else SetAttribute n a.name a.namespace None ∷ []) (marked n tag space (one s a (text_value t)))) e
      ∙ ap (λ (x : Bool). Some (marked n tag space (given s (if x then named a (text_value t) ∷ [] else [])))) (sym e))
      (λ e.
      ap (λ (x : Bool). altered n (if x then [] else SetAttribute n a.name a.namespace None ∷ []) (marked n tag space (one s a (text_value t)))) e
      ∙ text_goes n tag space s (named a (text_value t)) t (free t refl)
      ∙ ap (λ (x : Bool). Some (marked n tag space (given s (if x then named a (text_value t) ∷ [] else [])))) (sym e))
  one_leaves new a no_value s free f = refl
  one_leaves new a (listener o k) s free f =
      by_test (listens_under a new)
      (λ e.
      ap (λ (x : Bool). altered n (if x then [] else RemoveEventListener n a.name ∷ []) (marked n tag space (one s a (listener o k)))) e
      ∙ ap (λ (x : Bool). Some (marked n tag space (given s (if x then named a (listener o k) ∷ [] else [])))) (sym e))
      (λ e.
      ap (λ (x : Bool). altered n (if x then [] else RemoveEventListener n a.name ∷ []) (marked n tag space (one s a (listener o k)))) e
      ∙ listener_leaves n tag space s a o k (f refl)
      ∙ ap (λ (x : Bool). Some (marked n tag space (given s (if x then named a (listener o k) ∷ [] else [])))) (sym e))

  -- what stays may be taken last too
  kept_last : (new : List (Attribute K)) (a : Attribute K) (v : AttributeValue K) (r : List (Attribute K)) (s : Marks) → AllBeside (named a v) r
      → given (given s (one_kept new a v)) r ≡ given (given s r) (one_kept new a v)
  kept_last new a (text_value t) r s h = of_test (is_some (text_under a new))
    where
      of_test : (x : Bool) → given (given s (if x then named a (text_value t) ∷ [] else [])) r ≡ given (given s r) (if x then named a (text_value t) ∷ [] else [])
      of_test true = taken_last r s (named a (text_value t)) h
      of_test false = refl
  kept_last new a no_value r s h = refl
  kept_last new a (listener o k) r s h = of_test (listens_under a new)
    where
      of_test : (x : Bool) → given (given s (if x then named a (listener o k) ∷ [] else [])) r ≡ given (given s r) (if x then named a (listener o k) ∷ [] else [])
      of_test true = taken_last r s (named a (listener o k)) h
      of_test false = refl

  free_kept : (new : List (Attribute K)) (a : Attribute K) (v : AttributeValue K) (r : List (Attribute K)) (s : Marks) → AllBeside (named a v) r → AllFree s r → AllFree (given s (one_kept new a v)) r
  free_kept new a (text_value t) r s h f = of_test (is_some (text_under a new))
    where
      of_test : (x : Bool) → AllFree (given s (if x then named a (text_value t) ∷ [] else [])) r
      of_test true = all_free_one r s (named a (text_value t)) h f
      of_test false = f
  free_kept new a no_value r s h f = f
  free_kept new a (listener o k) r s h f = of_test (listens_under a new)
    where
      of_test : (x : Bool) → AllFree (given s (if x then named a (listener o k) ∷ [] else [])) r
      of_test true = all_free_one r s (named a (listener o k)) h f
      of_test false = f

  -- the first pass over one slot, ahead of what comes after it
  slot_leaves : (old new tail : List (Attribute K)) (s : Marks) → Unique (old ++ tail) → AllFree s (old ++ tail)
      → Alters n tag space (left old new n) (given s (old ++ tail)) (given (given s (kept old new)) tail) × AllFree (given s (kept old new)) tail
  slot_leaves [] new tail s u f = (refl, f)
  slot_leaves (a ∷ rest) new tail s u f =
      let r : List (Attribute K) = rest ++ tail in
      let stays : List (Attribute K) = one_kept new a a.value in
      let free : Free (given s r) a = free_given r s a u.1 f.0 in
      let later = slot_leaves rest new tail (given s stays) u.2 (free_kept new a a.value r s u.1 f.1) in
      let whole : given s (kept (a ∷ rest) new) ≡ given (given s stays) (kept rest new) = given_both stays (kept rest new) s in (
        alters_both n tag space (one_left n new a a.value) (left rest new n) (given s (a ∷ r)) (given (given s stays) r) (given (given s (kept (a ∷ rest) new)) tail)
            (of_to n tag space (one_left n new a a.value) (given s (a ∷ r)) (one (given s r) a a.value) (given (given s r) stays) (given (given s stays) r)
            (taken_last r s a u.1)
            (kept_last new a a.value r s u.1)
            (one_leaves new a a.value (given s r) (λ t e. free) free.name))
            (of_to n tag space (left rest new n) (given (given s stays) r) (given (given s stays) r) (given (given (given s stays) (kept rest new)) tail) (given (given s (kept (a ∷ rest) new)) tail)
            refl
            (ap (λ (x : Marks). given x tail) whole)
            later.0),
        ap_free whole later.1,
      )
    where
      ap_free : {x y : Marks} → x ≡ y → AllFree y tail → AllFree x tail
      ap_free e f = subst (λ (z : Marks). AllFree z tail) (sym e) f

  -- the first pass over an element
  pub element_leaves : (old new : ℕ → List (Attribute K)) (attributes : List TemplateAttribute) (s : Marks) → Unique (flat old attributes) → AllFree s (flat old attributes)
      → Alters n tag space (element_pass (λ k m. left (old k) (new k) m) n attributes) (given s (flat old attributes)) (given s (flat (λ k. kept (old k) (new k)) attributes))
  element_leaves old new [] s u f = refl
  element_leaves old new (fixed name namespace value ∷ rest) s u f =
      let own : Attribute K = record { name = name; namespace = namespace; value = text_value value } in
      element_leaves old new rest (one s own (text_value value)) u.2 (all_free_one (flat old rest) s own u.1 f.1)
  element_leaves old new (from_slot k ∷ rest) s u f =
      let tail : List (Attribute K) = flat old rest in
      let stays : List (Attribute K) = kept (old k) (new k) in
      let others : List (Attribute K) = flat (λ j. kept (old j) (new j)) rest in
      let slot = slot_leaves (old k) (new k) tail s u f in
      alters_both n tag space (left (old k) (new k) n) (element_pass (λ j m. left (old j) (new j) m) n rest) (given s (old k ++ tail)) (given (given s stays) tail) (given s (stays ++ others))
      slot.0
      (of_to n tag space (element_pass (λ j m. left (old j) (new j) m) n rest) (given (given s stays) tail) (given (given s stays) tail) (given (given s stays) others) (given s (stays ++ others))
      refl
      (given_both stays others s)
      (element_leaves old new rest (given s stays) (unique_right (old k) tail u) slot.1))

  -- the second pass, one attribute: it is there, or it comes or differs
  one_comes : (old : List (Attribute K)) (b : Attribute K) (v : AttributeValue K) (s : Marks)
      → (listens v ≡ true → has_text s.listeners b.name ≡ false)
      → Alters n tag space (one_come n old b v) (given s (one_found old b v)) (one s b v)
  one_comes old b (text_value t) s f = of_option (text_under b old)
    where
      of_option : (o : Option Text)
          → altered n (if same_option same_numbers o (Some t) then [] else SetAttribute n b.name b.namespace (Some t) ∷ []) (marked n tag space (given s (text_found b o)))
          ≡ Some (marked n tag space (one s b (text_value t)))
      of_option None = attribute_set n tag space s b.name b.namespace (Some t)
      of_option (Some u) =
          by_test (same_numbers u t)
          (λ e.
          ap (λ (x : Bool). altered n (if x then [] else SetAttribute n b.name b.namespace (Some t) ∷ []) (marked n tag space (one s b (text_value u)))) e
          ∙ ap (λ (x : Text). Some (marked n tag space (one s b (text_value x)))) (numbers-true u t e))
          (λ e.
          ap (λ (x : Bool). altered n (if x then [] else SetAttribute n b.name b.namespace (Some t) ∷ []) (marked n tag space (one s b (text_value u)))) e
          ∙ text_differs n tag space s b u t)
  one_comes old b no_value s f = refl
  one_comes old b (listener o k) s f =
      by_test (listens_under b old)
      (λ e.
      ap (λ (x : Bool). altered n (if x then [] else CreateEventListener n b.name ∷ []) (marked n tag space (given s (if x then named b (listener o k) ∷ [] else [])))) e)
      (λ e.
      ap (λ (x : Bool). altered n (if x then [] else CreateEventListener n b.name ∷ []) (marked n tag space (given s (if x then named b (listener o k) ∷ [] else [])))) e
      ∙ listener_set n tag space s b.name (f refl))

  -- another value of the same name
  renamed : (b : Attribute K) (w : AttributeValue K) (r : List (Attribute K)) → is_plain w b.namespace ≡ true → AllBeside b r → AllBeside (named b w) r
  renamed b w [] p h = tt
  renamed b w (c ∷ rest) p h = (record { there = h.0.there; back = h.0.back; plain = p; other = h.0.other }, renamed b w rest p h.1)

  -- the second pass over one slot; tail is what stands after it, and later what will
  slot_comes : (new old tail later : List (Attribute K)) (s : Marks) → Unique (new ++ later)
      → ((b : Attribute K) → AllBeside b later → AllBeside b tail)
      → AllFree s (new ++ later)
      → Alters n tag space (come new old n) (given (given s (found new old)) tail) (given (given s new) tail) × AllFree (given s new) later
  slot_comes [] old tail later s u t f = (refl, f)
  slot_comes (b ∷ more) old tail later s u t f =
      let r : List (Attribute K) = found more old ++ tail in
      let here : List (Attribute K) = one_found old b b.value in
      let apart : AllBeside b r = beside_both b (found more old) tail (beside_all_found more old b (beside_left b more later u.1)) (t b (beside_right b more later u.1)) in
      let free : Free (given s r) b = free_given r s b apart f.0 in
      let next : Marks = one s b b.value in
      let others = slot_comes more old tail later next u.2 t (all_free_one (more ++ later) s b u.1 f.1) in (
        alters_both n tag space (one_come n old b b.value) (come more old n) (given (given s (here ++ found more old)) tail) (given next r) (given (given s (b ∷ more)) tail)
            (of_to n tag space (one_come n old b b.value) (given (given s (here ++ found more old)) tail) (given (given s r) here) (one (given s r) b b.value) (given next r)
            (ap (λ (x : Marks). given x tail) (given_both here (found more old) s)
            ∙ sym (given_both (found more old) tail (given s here))
            ∙ found_swapped old b b.value r s (λ w p. renamed b w r p apart) u.0)
            (taken_last r s b apart)
            (one_comes old b b.value (given s r) free.name))
            (of_to n tag space (come more old n) (given next r) (given (given next (found more old)) tail) (given (given next more) tail) (given (given s (b ∷ more)) tail)
            (given_both (found more old) tail next)
            refl
            others.0),
        others.1,
      )

  beside_flat : (new old : ℕ → List (Attribute K)) (attributes : List TemplateAttribute) (b : Attribute K) → AllBeside b (flat new attributes) → AllBeside b (flat (λ k. found (new k) (old k)) attributes)
  beside_flat new old [] b h = tt
  beside_flat new old (fixed name namespace value ∷ rest) b h = (h.0, beside_flat new old rest b h.1)
  beside_flat new old (from_slot k ∷ rest) b h =
      beside_both b (found (new k) (old k)) (flat (λ j. found (new j) (old j)) rest)
      (beside_all_found (new k) (old k) b (beside_left b (new k) (flat new rest) h))
      (beside_flat new old rest b (beside_right b (new k) (flat new rest) h))

  -- the second pass over an element
  pub element_comes : (new old : ℕ → List (Attribute K)) (attributes : List TemplateAttribute) (s : Marks) → Unique (flat new attributes) → AllFree s (flat new attributes)
      → Alters n tag space (element_pass (λ k m. come (new k) (old k) m) n attributes) (given s (flat (λ k. found (new k) (old k)) attributes)) (given s (flat new attributes))
  element_comes new old [] s u f = refl
  element_comes new old (fixed name namespace value ∷ rest) s u f =
      let own : Attribute K = record { name = name; namespace = namespace; value = text_value value } in
      element_comes new old rest (one s own (text_value value)) u.2 (all_free_one (flat new rest) s own u.1 f.1)
  element_comes new old (from_slot k ∷ rest) s u f =
      let tail : List (Attribute K) = flat (λ j. found (new j) (old j)) rest in
      let later : List (Attribute K) = flat new rest in
      let here : List (Attribute K) = found (new k) (old k) in
      let slot = slot_comes (new k) (old k) tail later s u (λ b h. beside_flat new old rest b h) f in
      alters_both n tag space (come (new k) (old k) n) (element_pass (λ j m. come (new j) (old j) m) n rest) (given s (here ++ tail)) (given (given s (new k)) tail) (given s (new k ++ later))
      (of_to n tag space (come (new k) (old k) n) (given s (here ++ tail)) (given (given s here) tail) (given (given s (new k)) tail) (given (given s (new k)) tail)
      (given_both here tail s)
      refl
      slot.0)
      (of_to n tag space (element_pass (λ j m. come (new j) (old j) m) n rest) (given (given s (new k)) tail) (given (given s (new k)) tail) (given (given s (new k)) later) (given s (new k ++ later))
      refl
      (given_both (new k) later s)
      (element_comes new old rest (given s (new k)) (unique_right (new k) later u) slot.1))

-- what stays of an element, in the old order and in the new one
module _ {K : Types} where
  pub flat_orders : (old new : ℕ → List (Attribute K)) (attributes : List TemplateAttribute) (s : Marks) → Unique (flat old attributes) → Unique (flat new attributes)
      → given s (flat (λ k. kept (old k) (new k)) attributes) ≡ given s (flat (λ k. found (new k) (old k)) attributes)
  flat_orders old new [] s u v = refl
  flat_orders old new (fixed name namespace value ∷ rest) s u v =
      let own : Attribute K = record { name = name; namespace = namespace; value = text_value value } in
      flat_orders old new rest (one s own (text_value value)) u.2 v.2
  flat_orders old new (from_slot k ∷ rest) s u v =
      let first : List (Attribute K) = kept (old k) (new k) in
      let second : List (Attribute K) = found (new k) (old k) in
      given_both first (flat (λ j. kept (old j) (new j)) rest) s
      ∙ ap (λ (t : Marks). given t (flat (λ j. kept (old j) (new j)) rest)) (kept_found (old k) (new k) s (unique_left (old k) (flat old rest) u) (unique_left (new k) (flat new rest) v))
      ∙ flat_orders old new rest (given s second) (unique_right (old k) (flat old rest) u) (unique_right (new k) (flat new rest) v)
      ∙ sym (given_both second (flat (λ j. found (new j) (old j)) rest) s)
