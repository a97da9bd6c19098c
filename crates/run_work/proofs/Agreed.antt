-- What becomes of a place in the events of two trees is what the definitions say of it, who compare all places.
use Rattle.std.proofs.Common.{ℕ, true, false, List, [], ◌∷◌, ◌++◌, ◌≡◌, inl, inr, refl, sym, ap, ◌∙◌, subst}
use Rattle.std.specs.Prelude.{All, Some}
use Rattle.std.proofs.lemmas.List.Elements.{All-head, All-tail}
pub use Rattle.rt_lemmas.proofs.Options.{by_option}
use Rattle.rt_model.specs.Tree.{Types, VComponent, Place, Kind, same_place, Spot, node_at, component_at}
use Rattle.rt_model.specs.World.{Application}
use Rattle.rt_model.specs.Values.{is_same_component}
use Rattle.rt_model.specs.State.{SideName, Item, Draw, Feed, Make}
use Rattle.rt_model.specs.Run.{child_at, has_node, component_in, is_fed, serves, drop_at, drops_of}
use Rattle.rt_model.proofs.Maps.{by_test, pick_true, pick_false}
use Rattle.rt_model.proofs.Among.{Among, among_right, place_same}
use Rattle.rt_model.proofs.SamePlaces.{same_place-true}
use Rattle.rt_model.proofs.Places.{place_of, Apart, Distinct}
use Rattle.rt_model.proofs.Agendas.{node_found, found_node}
use Rattle.run_work.specs.Events.{Event, stays, goes, comes, fed, left, made}
use Rattle.run_work.proofs.Flats.{flat, old_in, new_in}
use Rattle.run_work.proofs.Branches.{AllIn, among_either}
use Rattle.run_work.proofs.Matched.{among-flat, IsMatched}

module _ {K : Types} where
  -- what all of a list are, each is
  pub all-among : (P : Spot K → Type 0) (xs : List (Spot K)) → All P xs → (x : Spot K) → Among xs x → P x
  all-among P [] a x h = absurd h
  all-among P (y ∷ ys) a x (inl h) = subst P h (All-head P y ys a)
  all-among P (y ∷ ys) a x (inr h) = all-among P ys (All-tail P y ys a) x h

  distinct-apart : (xs ys : List (Spot K)) → Distinct (xs ++ ys) → (x y : Spot K) → Among xs x → Among ys y → place_of x ≡ place_of y → ⊥
  distinct-apart [] ys d x y h g = absurd h
  distinct-apart (z ∷ xs) ys d x y (inl h) g = subst (λ (w : Spot K). Apart w y) h (all-among (λ f. Apart z f) (xs ++ ys) d.0 y (among_right xs ys y g))
  distinct-apart (z ∷ xs) ys d x y (inr h) g = distinct-apart xs ys d.1 x y h g

  -- what comes behind has no place twice either
  pub distinct-later : (xs ys : List (Spot K)) → Distinct (xs ++ ys) → Distinct ys
  distinct-later [] ys d = d
  distinct-later (x ∷ xs) ys d = distinct-later xs ys d.1

  -- what a flat list has comes of one of its events
  pub from-flat : (f : Event K → List (Spot K)) (es : List (Event K)) (s : Spot K) → Among (flat f es) s → (e : Event K) × Among es e × Among (f e) s
  from-flat f [] s h = absurd h
  from-flat f (e ∷ es) s h =
      elim (among_either (f e) (flat f es) s h) [
        | inl g ↦ (e, inl refl, g)
        | inr g ↦ let found = from-flat f es s g in (found.0, inr found.1, found.2)
      ]

  -- two events with spots of one place are one
  once : (f : Event K → List (Spot K)) (es : List (Event K)) → Distinct (flat f es) → (a b : Event K) (x y : Spot K) → Among es a → Among es b → Among (f a) x → Among (f b) y → place_of x ≡ place_of y → a ≡ b
  once f [] d a b x y h g p q same = absurd h
  once f (e ∷ es) d a b x y (inl h) (inl g) p q same = sym h ∙ g
  once f (e ∷ es) d a b x y (inl h) (inr g) p q same = absurd (distinct-apart (f e) (flat f es) d x y (subst (λ (z : Event K). Among (f z) x) (sym h) p) (among-flat f es b y g q) same)
  once f (e ∷ es) d a b x y (inr h) (inl g) p q same = absurd (distinct-apart (f e) (flat f es) d y x (subst (λ (z : Event K). Among (f z) y) (sym g) q) (among-flat f es a x h p) (sym same))
  once f (e ∷ es) d a b x y (inr h) (inr g) p q same = once f es (distinct-later (f e) (flat f es) d) a b x y h g p q same

  only : {x y : Spot K} → Among (x ∷ []) y → x ≡ y
  only (inl h) = h
  only (inr h) = absurd h

  -- a component that is there is found
  pub component-found : (ss : List (Spot K)) → Distinct ss → (p : Place) (c : VComponent K) → Among ss (component_at p c) → component_in ss p ≡ Some c
  component-found [] d p c h = absurd h
  component-found (node_at q l ∷ ss) d p c (inl h) = cc
  component-found (node_at q l ∷ ss) d p c (inr h) = component-found ss d.1 p c h
  component-found (component_at q b ∷ ss) d p c (inl h) =
      let places : q ≡ p = cc h in
      let components : b ≡ c = cc h in
      pick_true (Some b) (component_in ss p) (ap (λ z. same_place z p) places ∙ place_same p) ∙ ap Some components
  component-found (component_at q b ∷ ss) d p c (inr h) =
      by_test (same_place q p)
      (λ r. absurd (all-among (λ f. Apart (component_at q b) f) ss d.0 (component_at p c) h (same_place-true q p r)))
      (λ r. pick_false (Some b) (component_in ss p) r ∙ component-found ss d.1 p c h)

  -- and one that is found is there
  pub found-component : (ss : List (Spot K)) (p : Place) (c : VComponent K) → component_in ss p ≡ Some c → Among ss (component_at p c)
  found-component [] p c h = cc
  found-component (node_at q l ∷ ss) p c h = inr (found-component ss p c h)
  found-component (component_at q b ∷ ss) p c h =
      by_test (same_place q p)
      (λ r.
      let places : q ≡ p = same_place-true q p r in
      let some : Some b ≡ Some c = sym (pick_true (Some b) (component_in ss p) r) ∙ h in
      let components : b ≡ c = cc some in
      inl (λ k. component_at (places k) (components k)))
      (λ r. inr (found-component ss p c (sym (pick_false (Some b) (component_in ss p) r) ∙ h)))

  module _ (scope : ℕ) (side : SideName) where
    -- the work of one event
    abbrev pub work_in : Event K → List (Item K)
    work_in (stays p k) = []
    work_in (goes p k) = []
    work_in (comes p k) = Draw scope side p k ∷ []
    work_in (fed p c d) = Feed scope side p d ∷ []
    work_in (left p c) = []
    work_in (made p d) = Make scope side p d ∷ []

    -- the drop of one event
    abbrev pub drop_in : List (Place × ℕ) → Event K → List (Item K)
    drop_in children (stays p k) = []
    drop_in children (goes p k) = []
    drop_in children (comes p k) = []
    drop_in children (fed p c d) = []
    drop_in children (left p c) = drop_at scope side (child_at children p)
    drop_in children (made p d) = []

  module _ (app : Application K) where
    -- what the definitions say of a place, by what became of it
    abbrev pub IsAgreed : List (Spot K) → List (Spot K) → Event K → Type 0
    IsAgreed olds news (stays p k) = (has_node olds p k ≡ true) × (has_node news p k ≡ true)
    IsAgreed olds news (goes p k) = has_node news p k ≡ false
    IsAgreed olds news (comes p k) = has_node olds p k ≡ false
    IsAgreed olds news (fed p c d) = (is_fed app (component_in olds p) (Some d) ≡ true) × (is_fed app (Some c) (component_in news p) ≡ true) × (is_fed app (component_in olds p) (component_in news p) ≡ true)
    IsAgreed olds news (left p c) = (is_fed app (Some c) (component_in news p) ≡ false) × (is_fed app (component_in olds p) (component_in news p) ≡ false)
    IsAgreed olds news (made p d) = is_fed app (component_in olds p) (Some d) ≡ false

    module _ (es : List (Event K)) (matched : IsMatched (λ c d. is_same_component app c d) es) (old_once : Distinct (flat old_in es)) (new_once : Distinct (flat new_in es)) where
      no-come : (p : Place) (k : Kind) → Among es (comes p k) → (e : Event K) → Among es e → Among (old_in e) (node_at p k) → has_node (flat old_in es) p k ≡ false
      no-come p k h (stays q l) g i =
          let spot : node_at q l ≡ node_at p k = only i in
          let places : q ≡ p = cc spot in
          let same : comes p k ≡ stays q l = once new_in es new_once (comes p k) (stays q l) (node_at p k) (node_at q l) h g (inl refl) (inl refl) (sym places) in
          cc same
      no-come p k h (goes q l) g i =
          let spot : node_at q l ≡ node_at p k = only i in
          absurd (matched (goes q l) (comes p k) g h (cc spot) (cc spot))
      no-come p k h (fed q c d) g i = let spot : component_at q c ≡ node_at p k = only i in cc spot
      no-come p k h (left q c) g i = let spot : component_at q c ≡ node_at p k = only i in cc spot
      no-come p k h (comes q l) g i = absurd i
      no-come p k h (made q d) g i = absurd i

      no-go : (p : Place) (k : Kind) → Among es (goes p k) → (e : Event K) → Among es e → Among (new_in e) (node_at p k) → has_node (flat new_in es) p k ≡ false
      no-go p k h (stays q l) g i =
          let spot : node_at q l ≡ node_at p k = only i in
          let places : q ≡ p = cc spot in
          let same : goes p k ≡ stays q l = once old_in es old_once (goes p k) (stays q l) (node_at p k) (node_at q l) h g (inl refl) (inl refl) (sym places) in
          cc same
      no-go p k h (comes q l) g i =
          let spot : node_at q l ≡ node_at p k = only i in
          let places : q ≡ p = cc spot in
          let kinds : l ≡ k = cc spot in
          absurd (matched (goes p k) (comes q l) h g (sym places) (sym kinds))
      no-go p k h (fed q c d) g i = let spot : component_at q d ≡ node_at p k = only i in cc spot
      no-go p k h (made q d) g i = let spot : component_at q d ≡ node_at p k = only i in cc spot
      no-go p k h (goes q l) g i = absurd i
      no-go p k h (left q c) g i = absurd i

      no-make : (p : Place) (d c : VComponent K) → Among es (made p d) → (e : Event K) → Among es e → Among (old_in e) (component_at p c) → is_same_component app c d ≡ false
      no-make p d c h (fed q a b) g i =
          let spot : component_at q a ≡ component_at p c = only i in
          let places : q ≡ p = cc spot in
          let same : made p d ≡ fed q a b = once new_in es new_once (made p d) (fed q a b) (component_at p d) (component_at q b) h g (inl refl) (inl refl) (sym places) in
          cc same
      no-make p d c h (left q a) g i =
          let spot : component_at q a ≡ component_at p c = only i in
          let places : q ≡ p = cc spot in
          let components : a ≡ c = cc spot in
          ap (λ z. is_same_component app z d) (sym components) ∙ matched (left q a) (made p d) g h places
      no-make p d c h (stays q l) g i = let spot : node_at q l ≡ component_at p c = only i in cc spot
      no-make p d c h (goes q l) g i = let spot : node_at q l ≡ component_at p c = only i in cc spot
      no-make p d c h (comes q l) g i = absurd i
      no-make p d c h (made q b) g i = absurd i

      no-leave : (p : Place) (c d : VComponent K) → Among es (left p c) → (e : Event K) → Among es e → Among (new_in e) (component_at p d) → is_same_component app c d ≡ false
      no-leave p c d h (fed q a b) g i =
          let spot : component_at q b ≡ component_at p d = only i in
          let places : q ≡ p = cc spot in
          let same : left p c ≡ fed q a b = once old_in es old_once (left p c) (fed q a b) (component_at p c) (component_at q a) h g (inl refl) (inl refl) (sym places) in
          cc same
      no-leave p c d h (made q b) g i =
          let spot : component_at q b ≡ component_at p d = only i in
          let places : q ≡ p = cc spot in
          let components : b ≡ d = cc spot in
          ap (λ z. is_same_component app c z) (sym components) ∙ matched (left p c) (made q b) h g (sym places)
      no-leave p c d h (stays q l) g i = let spot : node_at q l ≡ component_at p d = only i in cc spot
      no-leave p c d h (comes q l) g i = let spot : node_at q l ≡ component_at p d = only i in cc spot
      no-leave p c d h (goes q l) g i = absurd i
      no-leave p c d h (left q b) g i = absurd i

      -- the definitions say of each place what became of it
      pub all-agreed : AllIn (IsAgreed (flat old_in es) (flat new_in es)) es
      all-agreed (stays p k) h = (found_node (flat old_in es) p k (among-flat old_in es (stays p k) (node_at p k) h (inl refl)), found_node (flat new_in es) p k (among-flat new_in es (stays p k) (node_at p k) h (inl refl)))
      all-agreed (goes p k) h = by_test (has_node (flat new_in es) p k)
          (λ q. let found = from-flat new_in es (node_at p k) (node_found (flat new_in es) p k q) in no-go p k h found.0 found.1 found.2) (λ q. q)
      all-agreed (comes p k) h = by_test (has_node (flat old_in es) p k)
          (λ q. let found = from-flat old_in es (node_at p k) (node_found (flat old_in es) p k q) in no-come p k h found.0 found.1 found.2) (λ q. q)
      all-agreed (fed p c d) h =
          let same : is_same_component app c d ≡ true = matched (fed p c d) (fed p c d) h h refl in
          let before : component_in (flat old_in es) p ≡ Some c = component-found (flat old_in es) old_once p c (among-flat old_in es (fed p c d) (component_at p c) h (inl refl)) in
          let after : component_in (flat new_in es) p ≡ Some d = component-found (flat new_in es) new_once p d (among-flat new_in es (fed p c d) (component_at p d) h (inl refl)) in (
            ap (λ o. is_fed app o (Some d)) before ∙ same,
            ap (λ o. is_fed app (Some c) o) after ∙ same,
            (λ k. is_fed app (before k) (after k)) ∙ same,
          )
      all-agreed (left p c) h =
          let before : component_in (flat old_in es) p ≡ Some c = component-found (flat old_in es) old_once p c (among-flat old_in es (left p c) (component_at p c) h (inl refl)) in
          let gone : is_fed app (Some c) (component_in (flat new_in es) p) ≡ false = by_option (component_in (flat new_in es) p)
          (λ q. ap (λ o. is_fed app (Some c) o) q)
          (λ d q. let found = from-flat new_in es (component_at p d) (found-component (flat new_in es) p d q) in ap (λ o. is_fed app (Some c) o) q ∙ no-leave p c d h found.0 found.1 found.2) in
          (gone, ap (λ o. is_fed app o (component_in (flat new_in es) p)) before ∙ gone)
      all-agreed (made p d) h = by_option (component_in (flat old_in es) p)
          (λ q. ap (λ o. is_fed app o (Some d)) q)
          (λ c q. let found = from-flat old_in es (component_at p c) (found-component (flat old_in es) p c q) in ap (λ o. is_fed app o (Some d)) q ∙ no-make p d c h found.0 found.1 found.2)

    module _ (scope : ℕ) (side : SideName) (olds news : List (Spot K)) where
      -- the work of events on which the definitions agree is theirs
      pub agreed-work : (es : List (Event K)) → AllIn (IsAgreed olds news) es → flat (work_in scope side) es ≡ serves app scope side olds (flat new_in es)
      agreed-work [] h = refl
      agreed-work (stays p k ∷ es) h =
          agreed-work es (λ e g. h e (inr g)) ∙ sym (pick_true (serves app scope side olds (flat new_in es)) (Draw scope side p k ∷ serves app scope side olds (flat new_in es)) ((h (stays p k) (inl refl)).0))
      agreed-work (goes p k ∷ es) h = agreed-work es (λ e g. h e (inr g))
      agreed-work (comes p k ∷ es) h =
          ap (λ zs. Draw scope side p k ∷ zs) (agreed-work es (λ e g. h e (inr g)))
          ∙ sym (pick_false (serves app scope side olds (flat new_in es)) (Draw scope side p k ∷ serves app scope side olds (flat new_in es)) (h (comes p k) (inl refl)))
      agreed-work (fed p c d ∷ es) h =
          ap (λ zs. Feed scope side p d ∷ zs) (agreed-work es (λ e g. h e (inr g)))
          ∙ sym (pick_true (Feed scope side p d ∷ serves app scope side olds (flat new_in es)) (Make scope side p d ∷ serves app scope side olds (flat new_in es)) ((h (fed p c d) (inl refl)).0))
      agreed-work (left p c ∷ es) h = agreed-work es (λ e g. h e (inr g))
      agreed-work (made p d ∷ es) h =
          ap (λ zs. Make scope side p d ∷ zs) (agreed-work es (λ e g. h e (inr g)))
          ∙ sym (pick_false (Feed scope side p d ∷ serves app scope side olds (flat new_in es)) (Make scope side p d ∷ serves app scope side olds (flat new_in es)) (h (made p d) (inl refl)))

      -- and so are the drops
      pub agreed-drops : (children : List (Place × ℕ)) (es : List (Event K)) → AllIn (IsAgreed olds news) es → flat (drop_in scope side children) es ≡ drops_of app scope side news children (flat old_in es)
      agreed-drops children [] h = refl
      agreed-drops children (stays p k ∷ es) h = agreed-drops children es (λ e g. h e (inr g))
      agreed-drops children (goes p k ∷ es) h = agreed-drops children es (λ e g. h e (inr g))
      agreed-drops children (comes p k ∷ es) h = agreed-drops children es (λ e g. h e (inr g))
      agreed-drops children (made p d ∷ es) h = agreed-drops children es (λ e g. h e (inr g))
      agreed-drops children (fed p c d ∷ es) h =
          let rest : List (Item K) = drops_of app scope side news children (flat old_in es) in
          agreed-drops children es (λ e g. h e (inr g)) ∙ sym (pick_true rest (drop_at scope side (child_at children p) ++ rest) ((h (fed p c d) (inl refl)).1))
      agreed-drops children (left p c ∷ es) h =
          let rest : List (Item K) = drops_of app scope side news children (flat old_in es) in
          ap (λ zs. drop_at scope side (child_at children p) ++ zs) (agreed-drops children es (λ e g. h e (inr g)))
          ∙ sym (pick_false rest (drop_at scope side (child_at children p) ++ rest) ((h (left p c) (inl refl)).0))
