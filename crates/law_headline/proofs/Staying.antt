-- What stays of a slot's old attributes, in the old order and in the new one: it makes the same of an element.
use Rattle.std.proofs.Common.{Bool, true, false, ◌||◌, List, [], ◌∷◌, ◌++◌, ◌≡◌, refl, sym, ap, ◌∙◌}
use Rattle.std.specs.Prelude.{Option, Some, None, if◌then◌else◌, is_some}
use Rattle.rt_model.specs.Lists.{Text}
use Rattle.rt_model.specs.Tree.{Types, AttributeValue, text_value, no_value, listener, Attribute}
use Rattle.rt_model.specs.Fits.{is_plain}
use Rattle.rt_model.specs.Caused.{is_key, text_if, text_under, listens, listens_under}
use Rattle.rt_model.proofs.Maps.{by_test}
use Rattle.law_headline.proofs.Keys.{named, Beside, AllBeside, Unique, beside, beside_like, beside_both, key_name, key_space, key_turned, text_past, listens_past, text_here, listens_here, no_text, no_listener}
use Rattle.law_headline.proofs.Marks.{Marks, given, given_both, taken_last}

module _ {K : Types} where
  -- an old attribute stays where the new slot gives a text under its key, or listens under it
  abbrev pub one_kept : List (Attribute K) → Attribute K → AttributeValue K → List (Attribute K)
  one_kept new a (text_value t) = if is_some (text_under a new) then named a (text_value t) ∷ [] else []
  one_kept new a no_value = []
  one_kept new a (listener o k) = if listens_under a new then named a (listener o k) ∷ [] else []

  -- what stays, in the old order
  abbrev pub kept : List (Attribute K) → List (Attribute K) → List (Attribute K)
  kept [] new = []
  kept (a ∷ rest) new = one_kept new a a.value ++ kept rest new

  -- the old text under the key of a new one
  abbrev pub text_found : Attribute K → Option Text → List (Attribute K)
  text_found b None = []
  text_found b (Some t) = named b (text_value t) ∷ []

  -- a new attribute finds the old text, or that the old slot listened
  abbrev pub one_found : List (Attribute K) → Attribute K → AttributeValue K → List (Attribute K)
  one_found old b (text_value t) = text_found b (text_under b old)
  one_found old b no_value = []
  one_found old b (listener o k) = if listens_under b old then named b (listener o k) ∷ [] else []

  -- what stays, in the new order
  abbrev pub found : List (Attribute K) → List (Attribute K) → List (Attribute K)
  found [] old = []
  found (b ∷ rest) old = one_found old b b.value ++ found rest old

  -- what is beside an attribute is beside what stays of it
  pub beside_found : (old : List (Attribute K)) (a b : Attribute K) (w : AttributeValue K) → is_plain w b.namespace ≡ true → Beside a b → AllBeside a (one_found old b w)
  beside_found old a b (text_value t) p h = of_option (text_under b old)
    where
      of_option : (o : Option Text) → AllBeside a (text_found b o)
      of_option None = tt
      of_option (Some u) = (record { there = h.there; back = h.back; plain = h.plain; other = refl }, tt)
  beside_found old a b no_value p h = tt
  beside_found old a b (listener o k) p h = of_test (listens_under b old)
    where
      of_test : (x : Bool) → AllBeside a (if x then named b (listener o k) ∷ [] else [])
      of_test true = (record { there = h.there; back = h.back; plain = h.plain; other = p }, tt)
      of_test false = tt

  pub beside_all_found : (new old : List (Attribute K)) (a : Attribute K) → AllBeside a new → AllBeside a (found new old)
  beside_all_found [] old a h = tt
  beside_all_found (b ∷ rest) old a h = beside_both a (one_found old b b.value) (found rest old) (beside_found old a b b.value h.0.other h.0) (beside_all_found rest old a h.1)

  beside_kept : (new : List (Attribute K)) (b a : Attribute K) (v : AttributeValue K) → is_plain v a.namespace ≡ true → Beside b a → AllBeside b (one_kept new a v)
  beside_kept new b a (text_value t) p h = of_test (is_some (text_under a new))
    where
      of_test : (x : Bool) → AllBeside b (if x then named a (text_value t) ∷ [] else [])
      of_test true = (record { there = h.there; back = h.back; plain = h.plain; other = refl }, tt)
      of_test false = tt
  beside_kept new b a no_value p h = tt
  beside_kept new b a (listener o k) p h = of_test (listens_under a new)
    where
      of_test : (x : Bool) → AllBeside b (if x then named a (listener o k) ∷ [] else [])
      of_test true = (record { there = h.there; back = h.back; plain = h.plain; other = p }, tt)
      of_test false = tt

  found_nothing : (new : List (Attribute K)) → found new [] ≡ []
  found_nothing [] = refl
  found_nothing (b ∷ rest) = ap (λ (xs : List (Attribute K)). xs ++ found rest []) (by_value b.value) ∙ found_nothing rest
    where
      by_value : (w : AttributeValue K) → one_found [] b w ≡ []
      by_value (text_value t) = refl
      by_value no_value = refl
      by_value (listener o k) = refl

  -- an old attribute of another key isn't found
  one_past : (a b : Attribute K) (rest : List (Attribute K)) (w : AttributeValue K) → is_key a b ≡ false → one_found (a ∷ rest) b w ≡ one_found rest b w
  one_past a b rest (text_value t) h = ap (text_found b) (text_past a b rest h)
  one_past a b rest no_value h = refl
  one_past a b rest (listener o k) h = ap (λ (x : Bool). if x then named b (listener o k) ∷ [] else []) (listens_past a b rest h)

  all_past : (new : List (Attribute K)) (a : Attribute K) (rest : List (Attribute K)) → AllBeside a new → found new (a ∷ rest) ≡ found new rest
  all_past [] a rest h = refl
  all_past (b ∷ more) a rest h =
      ap (λ (xs : List (Attribute K)). xs ++ found more (a ∷ rest)) (one_past a b rest b.value h.0.there)
      ∙ ap (λ (xs : List (Attribute K)). one_found rest b b.value ++ xs) (all_past more a rest h.1)

  kept_past : (a b : Attribute K) (more : List (Attribute K)) (v : AttributeValue K) → is_key b a ≡ false → one_kept (b ∷ more) a v ≡ one_kept more a v
  kept_past a b more (text_value t) h = ap (λ (o : Option Text). if is_some o then named a (text_value t) ∷ [] else []) (text_past b a more h)
  kept_past a b more no_value h = refl
  kept_past a b more (listener o k) h = ap (λ (x : Bool). if x then named a (listener o k) ∷ [] else []) (listens_past b a more h)

  -- entries of two keys, in either order
  pub found_swapped : (old : List (Attribute K)) (b : Attribute K) (w : AttributeValue K) (xs : List (Attribute K)) (s : Marks)
      → ((v : AttributeValue K) → is_plain v b.namespace ≡ true → AllBeside (named b v) xs)
      → is_plain w b.namespace ≡ true
      → given (given s (one_found old b w)) xs ≡ given (given s xs) (one_found old b w)
  found_swapped old b (text_value t) xs s h p = of_option (text_under b old)
    where
      of_option : (o : Option Text) → given (given s (text_found b o)) xs ≡ given (given s xs) (text_found b o)
      of_option None = refl
      of_option (Some u) = taken_last xs s (named b (text_value u)) (h (text_value u) refl)
  found_swapped old b no_value xs s h p = refl
  found_swapped old b (listener o k) xs s h p = of_test (listens_under b old)
    where
      of_test : (x : Bool) → given (given s (if x then named b (listener o k) ∷ [] else [])) xs ≡ given (given s xs) (if x then named b (listener o k) ∷ [] else [])
      of_test true = taken_last xs s (named b (listener o k)) (h (listener o k) p)
      of_test false = refl

  -- two attributes of one key: what one finds of the other is what stays of it
  found_here : (a b : Attribute K) (v w : AttributeValue K) (rest more : List (Attribute K)) (s : Marks)
      → a.name ≡ b.name
      → a.namespace ≡ b.namespace
      → text_under b rest ≡ None
      → listens_under b rest ≡ false
      → text_under a more ≡ None
      → listens_under a more ≡ false
      → (found_text : text_under b (a ∷ rest) ≡ text_if (text_under b rest) v)
      → (found_listener : listens_under b (a ∷ rest) ≡ (listens v || listens_under b rest))
      → (kept_text : text_under a (b ∷ more) ≡ text_if (text_under a more) w)
      → (kept_listener : listens_under a (b ∷ more) ≡ (listens w || listens_under a more))
      → given s (one_found (a ∷ rest) b w) ≡ given (given s (one_kept (b ∷ more) a v)) (one_found rest b w)
  found_here a b (text_value u) (text_value t) rest more s n m tb lb ta la ft fl kt kl =
      ap (λ (o : Option Text). given s (text_found b o)) ft
      ∙ ap (λ (x : Text). given {K = K} s (record { name = x; namespace = b.namespace; value = text_value u } ∷ [])) (sym n)
      ∙ ap (λ (x : Option Text). given {K = K} s (record { name = a.name; namespace = x; value = text_value u } ∷ [])) (sym m)
      ∙ ap (λ (o : Option Text). given s (if is_some o then named a (text_value u) ∷ [] else [])) (sym kt)
      ∙ ap (λ (o : Option Text). given (given s (one_kept (b ∷ more) a (text_value u))) (text_found b o)) (sym tb)
  found_here a b no_value (text_value t) rest more s n m tb lb ta la ft fl kt kl =
      ap (λ (o : Option Text). given s (text_found b o)) ft
  found_here a b (listener o k) (text_value t) rest more s n m tb lb ta la ft fl kt kl =
      ap (λ (p : Option Text). given s (text_found b p)) (ft ∙ tb)
      ∙ ap (λ (x : Bool). given s (if x then named a (listener o k) ∷ [] else [])) (sym (kl ∙ la))
      ∙ ap (λ (p : Option Text). given (given s (one_kept (b ∷ more) a (listener o k))) (text_found b p)) (sym tb)
  found_here a b (text_value u) no_value rest more s n m tb lb ta la ft fl kt kl =
      ap (λ (o : Option Text). given s (if is_some o then named a (text_value u) ∷ [] else [])) (sym (kt ∙ ta))
  found_here a b no_value no_value rest more s n m tb lb ta la ft fl kt kl = refl
  found_here a b (listener o k) no_value rest more s n m tb lb ta la ft fl kt kl =
      ap (λ (x : Bool). given s (if x then named a (listener o k) ∷ [] else [])) (sym (kl ∙ la))
  found_here a b (text_value u) (listener o k) rest more s n m tb lb ta la ft fl kt kl =
      ap (λ (x : Bool). given s (if x then named b (listener o k) ∷ [] else [])) (fl ∙ lb)
      ∙ ap (λ (p : Option Text). given s (if is_some p then named a (text_value u) ∷ [] else [])) (sym (kt ∙ ta))
      ∙ ap (λ (x : Bool). given (given s (one_kept (b ∷ more) a (text_value u))) (if x then named b (listener o k) ∷ [] else [])) (sym lb)
  found_here a b no_value (listener o k) rest more s n m tb lb ta la ft fl kt kl =
      ap (λ (x : Bool). given s (if x then named b (listener o k) ∷ [] else [])) fl
  found_here a b (listener p q) (listener o k) rest more s n m tb lb ta la ft fl kt kl =
      ap (λ (x : Bool). given s (if x then named b (listener o k) ∷ [] else [])) fl
      ∙ ap (λ (x : Text). given {K = K} s (record { name = x; namespace = b.namespace; value = listener o k } ∷ [])) (sym n)
      ∙ ap (λ (x : Bool). given s (if x then named a (listener p q) ∷ [] else [])) (sym kl)
      ∙ ap (λ (x : Bool). given (given s (one_kept (b ∷ more) a (listener p q))) (if x then named b (listener o k) ∷ [] else [])) (sym lb)

  -- one more old attribute stays ahead of what is found of the others
  found_more : (new : List (Attribute K)) (a : Attribute K) (rest : List (Attribute K)) (s : Marks) → Unique new → AllBeside a rest → is_plain a.value a.namespace ≡ true
      → given s (found new (a ∷ rest)) ≡ given (given s (one_kept new a a.value)) (found new rest)
  found_more [] a rest s u h p = none a.value
    where
      none : (v : AttributeValue K) → s ≡ given {K = K} (given s (one_kept [] a v)) []
      none (text_value t) = refl
      none no_value = refl
      none (listener o k) = refl
  found_more (b ∷ more) a rest s u h p = by_test (is_key a b) (λ e. alike e) (λ e. unlike e (λ t. found_more more a rest t u.2 h p))
    where
      first : List (Attribute K)
      first = one_found rest b b.value

      stays : List (Attribute K)
      stays = one_kept (b ∷ more) a a.value

      alike : is_key a b ≡ true → given s (found (b ∷ more) (a ∷ rest)) ≡ given (given s stays) (first ++ found more rest)
      alike e =
          let back : is_key b a ≡ true = key_turned a b e in
          let apart : AllBeside a more = beside_like a b more e p u.1 in
          let own : AllBeside b rest = beside_like b a rest back u.0 h in
          given_both (one_found (a ∷ rest) b b.value) (found more (a ∷ rest)) s
          ∙ ap (λ (t : Marks). given t (found more (a ∷ rest)))
          (found_here a b a.value b.value rest more s (key_name a b e) (key_space a b e) (no_text b rest own) (no_listener b rest own) (no_text a more apart) (no_listener a more apart) (text_here a b rest e) (listens_here a b rest e) (text_here b a more back) (listens_here b a more back))
          ∙ ap (λ (xs : List (Attribute K)). given (given (given s stays) first) xs) (all_past more a rest apart)
          ∙ sym (given_both first (found more rest) (given s stays))

      unlike : is_key a b ≡ false → ((t : Marks) → given t (found more (a ∷ rest)) ≡ given (given t (one_kept more a a.value)) (found more rest))
          → given s (found (b ∷ more) (a ∷ rest)) ≡ given (given s stays) (first ++ found more rest)
      unlike e go =
          let apart : Beside a b = beside a b e p u.0 in
          let others : List (Attribute K) = one_kept more a a.value in
          given_both (one_found (a ∷ rest) b b.value) (found more (a ∷ rest)) s
          ∙ ap (λ (xs : List (Attribute K)). given (given s xs) (found more (a ∷ rest))) (one_past a b rest b.value e)
          ∙ go (given s first)
          ∙ ap (λ (t : Marks). given t (found more rest))
          (found_swapped rest b b.value others s
          (λ v q. beside_kept more (named b v) a a.value p (record { there = apart.back; back = e; plain = q; other = p }))
          u.0)
          ∙ ap (λ (xs : List (Attribute K)). given (given (given s xs) first) (found more rest)) (sym (kept_past a b more a.value apart.back))
          ∙ sym (given_both first (found more rest) (given s stays))

  -- in the old order and in the new one
  pub kept_found : (old new : List (Attribute K)) (s : Marks) → Unique old → Unique new → given s (kept old new) ≡ given s (found new old)
  kept_found [] new s u v = ap (λ (xs : List (Attribute K)). given s xs) (sym (found_nothing new))
  kept_found (a ∷ rest) new s u v =
      given_both (one_kept new a a.value) (kept rest new) s
      ∙ kept_found rest new (given s (one_kept new a a.value)) u.2 v
      ∙ sym (found_more new a rest s v u.1 u.0)
