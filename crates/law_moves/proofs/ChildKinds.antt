-- A child is of the sort of the component at its slot: one of the application's, the same, or the same built-in one.
use Rattle.std.proofs.Common.{ℕ, true, false, List, [], ◌∷◌, ◌++◌, ◌≡◌, ◌<◌, ◌⊎◌, refl, sym, ap, ◌∙◌, nat_eq, inl, inr}
use Rattle.std.proofs.lemmas.Bool.{eqb-true}
use Rattle.std.specs.Prelude.{Option, Some, None, is_some}
use Rattle.std.specs.List.{AllByRecursion}
use Rattle.rt_lemmas.proofs.Numbers.{eq_above as old_kid}
use Rattle.rt_model.specs.Lists.{at}
use Rattle.rt_model.specs.Tree.{Types, Place, same_place, VComponent, Own, Root, Fragment, ErrorBoundary, SuspenseBoundary, is_suspense_boundary, Spot}
use Rattle.rt_model.specs.State.{SideName, MainSide, ChildrenSide, FallbackSide, Side, Scope, State, Item, Draw, Row, Feed, Make, Drop, side_of, with_side, empty_side, is_live}
use Rattle.rt_model.specs.Run.{child_at, spots_of, component_in}
use Rattle.rt_model.specs.Boundary.{drop_items}
use Rattle.rt_model.specs.Replay.{with_new_scope}
use Rattle.rt_model.specs.Framed.{Frame, framed, TookOne}
use Rattle.rt_model.proofs.Maps.{by_test, pick_true, pick_false}
use Rattle.rt_model.proofs.SamePlaces.{same_place-true}
use Rattle.rt_model.proofs.NumbersStand.{child_among}
use Rattle.rt_model.proofs.Stands.{Stands}
use Rattle.law_moves.proofs.Twigs.{twig, twig_side, kids, slots, SameTwigs, side_by, same_framed, side_found, by_scope}
use Rattle.law_moves.proofs.Woven.{owner, Stack, kids_same, slots_same}
use Rattle.law_moves.proofs.Lists.{some_number, every_join}
use Rattle.law_moves.proofs.Patched.{by_side, Turns, IsRow, Aside, Idle, aside_row}
use Rattle.law_moves.proofs.Made.{at_child, part, side_else, side_child, kids_here, slots_else, is_new}
use Rattle.law_moves.proofs.Opens.{OwnRows}
use Rattle.law_moves.proofs.Weaves.{put_side, put_turns}
use Rattle.law_moves.specs.Heeds.{Leavings, leavings}
use Rattle.law_moves.specs.Sorts.{ComponentSort, is_boundary_sort, sort_of}

-- a child that was found after one more joined the end was there, or is that one, at its place
kid_or_new : (xs : List (Place × ℕ)) (p : Place) (n : ℕ) (q : Place) (t : ℕ) → child_at (xs ++ (p, n) ∷ []) q ≡ Some t → (child_at xs q ≡ Some t) ⊎ ((p ≡ q) × (n ≡ t))
kid_or_new [] p n q t h =
    by_test (same_place p q)
    (λ s. inr (same_place-true p q s, some_number n t (sym (pick_true (Some n) None s) ∙ h)))
    (λ s. let absurdity : None ≡ Some t = sym (pick_false (Some n) None s) ∙ h in cc)
kid_or_new (e ∷ xs) p n q t h =
    by_test (same_place e.0 q)
    (λ s. inl (pick_true (Some e.1) (child_at xs q) s ∙ sym (pick_true (Some e.1) (child_at (xs ++ (p, n) ∷ []) q) s) ∙ h))
    (
    λ s.
    elim (kid_or_new xs p n q t (sym (pick_false (Some e.1) (child_at (xs ++ (p, n) ∷ []) q) s) ∙ h)) [
      | inl g ↦ inl (pick_false (Some e.1) (child_at xs q) s ∙ g)
      | inr g ↦ inr g
    ]
    )

module _ {K : Types} where
  some_sort : (a b : ComponentSort K) → Some a ≡ Some b → a ≡ b
  some_sort a b h = cc

  some_component : (c d : VComponent K) → Some c ≡ Some d → c ≡ d
  some_component c d h = cc

  boundary_of : (c : VComponent K) → is_suspense_boundary c ≡ is_boundary_sort (sort_of c)
  boundary_of (Own a p) = refl
  boundary_of (Root a p) = refl
  boundary_of (Fragment t) = refl
  boundary_of (ErrorBoundary t f) = refl
  boundary_of (SuspenseBoundary t f) = refl

  -- of one sort both are a suspense boundary, or neither
  pub boundary_sorts : (c d : VComponent K) → sort_of c ≡ sort_of d → is_suspense_boundary c ≡ is_suspense_boundary d
  boundary_sorts c d h = boundary_of c ∙ ap (λ (a : ComponentSort K). is_boundary_sort a) h ∙ sym (boundary_of d)

  -- the sort of a live scope's component
  abbrev pub kind_of : Option (Scope K) → Option (ComponentSort K)
  kind_of None = None
  kind_of (Some x) = Some (sort_of x.component)

  abbrev kind_left : Option (Leavings K) → Option (ComponentSort K)
  kind_left None = None
  kind_left (Some f) = Some (sort_of f.0)

  kind_leavings : (o : Option (Scope K)) → kind_of o ≡ kind_left (leavings o)
  kind_leavings None = refl
  kind_leavings (Some x) = refl

  pub kind_by : (o p : Option (Scope K)) → leavings o ≡ leavings p → kind_of o ≡ kind_of p
  kind_by o p h = kind_leavings o ∙ ap (λ (f : Option (Leavings K)). kind_left f) h ∙ sym (kind_leavings p)

  abbrev kind_framed : Option (Frame K) → Option (ComponentSort K)
  kind_framed None = None
  kind_framed (Some f) = Some (sort_of f.0)

  kind_frame : (o : Option (Scope K)) → kind_of o ≡ kind_framed (framed o)
  kind_frame None = refl
  kind_frame (Some x) = refl

  kind_of_frame : (o p : Option (Scope K)) → framed o ≡ framed p → kind_of o ≡ kind_of p
  kind_of_frame o p h = kind_frame o ∙ ap (λ (f : Option (Frame K)). kind_framed f) h ∙ sym (kind_frame p)

  -- the component of a feed or a make stands in its slot
  abbrev pub Placed : State K → Item K → Type 0
  Placed w (Feed s a p c) = component_in (slots w s a) p ≡ Some c
  Placed w (Make s a p c) = component_in (slots w s a) p ≡ Some c
  Placed w (Draw s a p k) = Unit {0}
  Placed w (Row b step) = Unit {0}
  Placed w (Drop t s a) = Unit {0}

  -- a child is of the sort of its slot's component, by these sorts, and what the open work feeds or makes stands in its slot
  pub record KindsBy (kind : ℕ → Option (ComponentSort K)) (w : State K) (work : List (Item K)) : Type 0 where
    pub kids_fit : (s t : ℕ) (a : SideName) (p : Place) (c : VComponent K) (b : ComponentSort K) → child_at (kids w s a) p ≡ Some t → component_in (slots w s a) p ≡ Some c → kind t ≡ Some b → b ≡ sort_of c
    pub placed : AllByRecursion (λ (i : Item K). Placed w i) work

  -- of the scopes as they are
  abbrev pub Kinds : State K → List (Item K) → Type 0
  Kinds w work = KindsBy (λ t. kind_of (at w.scopes t)) w work

  pub kinds_fewer : (k l : ℕ → Option (ComponentSort K)) (w : State K) (work : List (Item K)) → ((t : ℕ) (b : ComponentSort K) → l t ≡ Some b → k t ≡ Some b) → KindsBy k w work → KindsBy l w work
  kinds_fewer k l w work f h = record { kids_fit = λ s t a p c b e d q. h.kids_fit s t a p c b e d (f t b q); placed = h.placed }

  pub kinds_alike : (k l : ℕ → Option (ComponentSort K)) (w : State K) (work : List (Item K)) → ((t : ℕ) → l t ≡ k t) → KindsBy k w work → KindsBy l w work
  kinds_alike k l w work f h = kinds_fewer k l w work (λ t b q. sym (f t) ∙ q) h

  pub kinds_later : (k : ℕ → Option (ComponentSort K)) (w : State K) (i : Item K) (rest : List (Item K)) → KindsBy k w (i ∷ rest) → KindsBy k w rest
  kinds_later k w i rest h = record { kids_fit = h.kids_fit; placed = h.placed.1 }

  placed_all : (w v : State K) (work : List (Item K)) → ((i : Item K) → Placed w i → Placed v i) → AllByRecursion (λ (i : Item K). Placed w i) work → AllByRecursion (λ (i : Item K). Placed v i) work
  placed_all w v [] f h = tt
  placed_all w v (i ∷ work) f h = (f i h.0, placed_all w v work f h.1)

  -- the same tree
  module _ (w v : State K) (same : SameTwigs w v) where
    placed_same : (i : Item K) → Placed w i → Placed v i
    placed_same (Feed s a p c) h = ap (λ (ss : List (Spot K)). component_in ss p) (slots_same w v same s a) ∙ h
    placed_same (Make s a p c) h = ap (λ (ss : List (Spot K)). component_in ss p) (slots_same w v same s a) ∙ h
    placed_same (Draw s a p k) h = tt
    placed_same (Row b step) h = tt
    placed_same (Drop t s a) h = tt

    pub kinds_same : (k : ℕ → Option (ComponentSort K)) (work : List (Item K)) → KindsBy k w work → KindsBy k v work
    kinds_same k work h =
        record {
          kids_fit =
              λ s t a p c b e d q.
              h.kids_fit s t a p c b (sym (ap (λ (xs : List (Place × ℕ)). child_at xs p) (kids_same w v same s a)) ∙ e) (sym (ap (λ (ss : List (Spot K)). component_in ss p) (slots_same w v same s a)) ∙ d) q;
          placed = placed_all w v work placed_same h.placed;
        }

  row_placed : (w : State K) (i : Item K) → IsRow i → Placed w i
  row_placed w (Row b step) r = tt
  row_placed w (Feed s a p c) r = absurd r
  row_placed w (Make s a p c) r = absurd r
  row_placed w (Draw s a p k) r = absurd r
  row_placed w (Drop t s a) r = absurd r

  pub rows_placed : (w : State K) (s : ℕ) (work : List (Item K)) → OwnRows s work → AllByRecursion (λ (i : Item K). Placed w i) work
  rows_placed w s [] h = tt
  rows_placed w s (i ∷ work) h = (row_placed w i h.0.1, rows_placed w s work h.1)

  pub kinds_more : (k : ℕ → Option (ComponentSort K)) (w : State K) (work rest : List (Item K)) → AllByRecursion (λ (i : Item K). Placed w i) work → KindsBy k w rest → KindsBy k w (work ++ rest)
  kinds_more k w work rest f h = record { kids_fit = h.kids_fit; placed = every_join (λ (i : Item K). Placed w i) work rest f h.placed }

  -- one side has other children and another output
  module _ (w v : State K) (u : ℕ) (a : SideName) (new : List (Spot K)) (left : List (Place × ℕ)) (f : Turns w v u a new left) (k : ℕ → Option (ComponentSort K))
      (here : (t : ℕ) (p : Place) (c : VComponent K) (b : ComponentSort K) → child_at left p ≡ Some t → component_in new p ≡ Some c → k t ≡ Some b → b ≡ sort_of c) where
    slots_else_by : (s : ℕ) (b : SideName) (p : Place) (c : VComponent K) → (s ≡ u → b ≡ a → ⊥) → component_in (slots w s b) p ≡ Some c → component_in (slots v s b) p ≡ Some c
    slots_else_by s b p c other h = ap (λ (z : Side K). component_in (spots_of z.output) p) (f.others s b other) ∙ h

    placed_turned : (i : Item K) → Aside w u i → Placed w i → Placed v i
    placed_turned (Feed s b p c) aside h = slots_else_by s b p c (λ e d. aside_row w u (Feed s b p c) aside e) h
    placed_turned (Make s b p c) aside h = slots_else_by s b p c (λ e d. aside_row w u (Make s b p c) aside e) h
    placed_turned (Draw s b p q) aside h = tt
    placed_turned (Row b step) aside h = tt
    placed_turned (Drop t s b) aside h = tt

    rest_turned : (rest : List (Item K)) → Idle w u rest → AllByRecursion (λ (i : Item K). Placed w i) rest → AllByRecursion (λ (i : Item K). Placed v i) rest
    rest_turned [] idle h = tt
    rest_turned (i ∷ rest) idle h = (placed_turned i idle.0 h.0, rest_turned rest idle.1 h.1)

    fit_turned : (rest : List (Item K)) → KindsBy k w rest → (s t : ℕ) (b : SideName) (p : Place) (c : VComponent K) (q : ComponentSort K) → child_at (kids v s b) p ≡ Some t → component_in (slots v s b) p ≡ Some c → k t ≡ Some q → q ≡ sort_of c
    fit_turned rest h s t b p c q e d is =
        by_side s u b a
        (
        λ same.
        let kids_now : kids v s b ≡ left = ap (λ (i : ℕ). kids v i b) same.0 ∙ ap (λ (i : SideName). kids v u i) same.1 ∙ f.kids_here in
        let slots_now : slots v s b ≡ new = ap (λ (i : ℕ). slots v i b) same.0 ∙ ap (λ (i : SideName). slots v u i) same.1 ∙ f.slots_here in
        here t p c q (sym (ap (λ (xs : List (Place × ℕ)). child_at xs p) kids_now) ∙ e) (sym (ap (λ (ss : List (Spot K)). component_in ss p) slots_now) ∙ d) is
        )
        (
        λ other.
        let side = f.others s b other in
        h.kids_fit s t b p c q (sym (ap (λ (z : Side K). child_at z.children p) side) ∙ e) (sym (ap (λ (z : Side K). component_in (spots_of z.output) p) side) ∙ d) is
        )

    pub kinds_turned : (work rest : List (Item K)) → Idle w u rest → AllByRecursion (λ (i : Item K). Placed v i) work → KindsBy k w rest → KindsBy k v (work ++ rest)
    kinds_turned work rest idle new_placed h =
        record {
          kids_fit = fit_turned rest h;
          placed = every_join (λ (i : Item K). Placed v i) work rest new_placed (rest_turned rest idle h.placed);
        }

  drops_placed : (v : State K) (b : ℕ) (a : SideName) (ts : List ℕ) → AllByRecursion (λ (i : Item K). Placed v i) (drop_items b a ts)
  drops_placed v b a [] = tt
  drops_placed v b a (t ∷ ts) = (tt, drops_placed v b a ts)

  -- a fallback is emptied
  pub kinds_emptied : (w : State K) (b : ℕ) (x : Scope K) (found : at w.scopes b ≡ Some x) (k : ℕ → Option (ComponentSort K)) (ts : List ℕ) (rest : List (Item K)) → Idle w b rest → KindsBy k w rest
      → KindsBy k (put_side w b FallbackSide x empty_side found) (drop_items b FallbackSide ts ++ rest)
  kinds_emptied w b x found k ts rest idle h =
      let v : State K = put_side w b FallbackSide x empty_side found in
      kinds_turned w v b FallbackSide [] [] (put_turns w b FallbackSide x empty_side found [] refl) k (λ t p c q e d is. let absurdity : None ≡ Some t = e in cc) (drop_items b FallbackSide ts) rest idle
      (drops_placed v b FallbackSide ts) h

  -- a scope is gone
  module _ (w v : State K) (l : ℕ) (took : TookOne w l v) where
    twig_left : (t : ℕ) → nat_eq l t ≡ false → twig (at v.scopes t) ≡ twig (at w.scopes t)
    twig_left t other = same_framed (at v.scopes t) (at w.scopes t) (took.others t other)

    gone_at : (t : ℕ) → nat_eq l t ≡ true → at v.scopes t ≡ None
    gone_at t q = ap (λ (i : ℕ). at v.scopes i) (sym (eqb-true l t q)) ∙ took.gone

    kind_fewer : (t : ℕ) (b : ComponentSort K) → kind_of (at v.scopes t) ≡ Some b → kind_of (at w.scopes t) ≡ Some b
    kind_fewer t b q =
        by_test (nat_eq l t)
        (λ same. let absurdity : None ≡ Some b = sym (ap (λ (o : Option (Scope K)). kind_of o) (gone_at t same)) ∙ q in cc)
        (λ other. kind_of_frame (at w.scopes t) (at v.scopes t) (sym (took.others t other)) ∙ q)

    live_other : (t : ℕ) → is_live v t ≡ true → nat_eq l t ≡ false
    live_other t live =
        by_test (nat_eq l t)
        (λ same. let absurdity : true ≡ false = sym live ∙ ap (λ (o : Option (Scope K)). is_some o) (gone_at t same) in cc)
        (λ other. other)

    placed_left : (i : Item K) → is_live v (owner i) ≡ true → Placed w i → Placed v i
    placed_left (Feed s a p c) live h = ap (λ (z : Side K). component_in (spots_of z.output) p) (side_by w v s a (twig_left s (live_other s live))) ∙ h
    placed_left (Make s a p c) live h = ap (λ (z : Side K). component_in (spots_of z.output) p) (side_by w v s a (twig_left s (live_other s live))) ∙ h
    placed_left (Draw s a p k) live h = tt
    placed_left (Row b step) live h = tt
    placed_left (Drop t s a) live h = tt

    work_left : (work : List (Item K)) → Stack v work → AllByRecursion (λ (i : Item K). Placed w i) work → AllByRecursion (λ (i : Item K). Placed v i) work
    work_left [] stack h = tt
    work_left (i ∷ work) stack h = (placed_left i stack.0 h.0, work_left work stack.3 h.1)

    pub kinds_left : (work : List (Item K)) → Stack v work → Kinds w work → Kinds v work
    kinds_left work stack h =
        record {
          kids_fit =
              λ s t a p c b e d q.
              by_test (nat_eq l s)
              (λ same. let absurdity : None ≡ Some t = sym (ap (λ (o : Option (Scope K)). child_at (twig_side a (twig o)).children p) (gone_at s same)) ∙ e in cc)
              (
              λ other.
              let side = side_by w v s a (twig_left s other) in
              h.kids_fit s t a p c b (sym (ap (λ (z : Side K). child_at z.children p) side) ∙ e) (sym (ap (λ (z : Side K). component_in (spots_of z.output) p) side) ∙ d) (kind_fewer t b q)
              );
          placed = work_left work stack h.placed;
        }

  -- children have numbers that were drawn
  drawn_kid : (w : State K) (work : List (Item K)) → Stands w work → (s t : ℕ) (a : SideName) (p : Place) → child_at (kids w s a) p ≡ Some t → t < w.next_scope
  drawn_kid w work st s t a p e =
      by_scope (at w.scopes s)
      (λ none. let absurdity : None ≡ Some t = sym (ap (λ (o : Option (Scope K)). child_at (twig_side a (twig o)).children p) none) ∙ e in cc)
      (
      λ x found.
      st.drawn s t x a p found
      (child_among (side_of x a).children p t (ap (λ (z : Side K). child_at z.children p) (sym (side_found w s a x found)) ∙ e))
      )

  -- a scope is made
  module _ (w : State K) (s : ℕ) (a : SideName) (p : Place) (c : VComponent K) (x : Scope K) (found : at w.scopes s ≡ Some x) (fresh : at w.scopes w.next_scope ≡ None)
      (rest : List (Item K)) (st : Stands w (Make s a p c ∷ rest)) (h : Kinds w (Make s a p c ∷ rest)) (stack : Stack w rest) where
    abbrev pub made_state : State K
    made_state = with_new_scope w s a p c x

    kind_old : (t : ℕ) → nat_eq w.next_scope t ≡ false → kind_of (at made_state.scopes t) ≡ kind_of (at w.scopes t)
    kind_old t old = part w s a p c x found fresh (λ (o : Option (Scope K)). kind_of o) t old (kind_child a)
      where
        kind_child : (b : SideName) → kind_of (Some (with_side x b (record (side_of x b) { children = (side_of x b).children ++ (p, w.next_scope) ∷ [] }))) ≡ kind_of (Some x)
        kind_child MainSide = refl
        kind_child ChildrenSide = refl
        kind_child FallbackSide = refl

    kind_new : kind_of (at made_state.scopes w.next_scope) ≡ Some (sort_of c)
    kind_new = ap (λ (o : Option (Scope K)). kind_of o) (at_child w s a p c x found fresh)

    old_fit : (r t : ℕ) (b : SideName) (q : Place) (d : VComponent K) (i : ComponentSort K) → child_at (kids w r b) q ≡ Some t → component_in (slots w r b) q ≡ Some d → kind_of (at made_state.scopes t) ≡ Some i → i ≡ sort_of d
    old_fit r t b q d i e g is =
        h.kids_fit r t b q d i e g (sym (kind_old t (old_kid t w.next_scope (drawn_kid w (Make s a p c ∷ rest) st r t b q e))) ∙ is)

    made_fit : (r t : ℕ) (b : SideName) (q : Place) (d : VComponent K) (i : ComponentSort K) → child_at (kids made_state r b) q ≡ Some t → component_in (slots made_state r b) q ≡ Some d → kind_of (at made_state.scopes t) ≡ Some i
        → i ≡ sort_of d
    made_fit r t b q d i e g is =
        by_test (nat_eq w.next_scope r)
        (
        λ new.
        let empty : kids made_state r b ≡ [] = ap (λ (j : ℕ). kids made_state j b) (sym (eqb-true w.next_scope r new)) ∙ ap (λ (z : Side K). z.children) (side_child w s a p c x found fresh b) in
        let absurdity : None ≡ Some t = sym (ap (λ (xs : List (Place × ℕ)). child_at xs q) empty) ∙ e in
        cc
        )
        (
        λ old.
        let slot : component_in (slots w r b) q ≡ Some d = sym (ap (λ (ss : List (Spot K)). component_in ss q) (slots_else w s a p c x found fresh r b old)) ∙ g in
        by_side r s b a
        (
        λ same.
        let kids_now : kids made_state r b ≡ kids w s a ++ (p, w.next_scope) ∷ [] =
        ap (λ (j : ℕ). kids made_state j b) same.0 ∙ ap (λ (j : SideName). kids made_state s j) same.1 ∙ kids_here w s a p c x found fresh in
        let slot_here : component_in (slots w s a) q ≡ Some d =
        sym (ap (λ (j : SideName). component_in (slots w s j) q) same.1) ∙ sym (ap (λ (j : ℕ). component_in (slots w j b) q) same.0) ∙ slot in
        elim (kid_or_new (kids w s a) p w.next_scope q t (sym (ap (λ (xs : List (Place × ℕ)). child_at xs q) kids_now) ∙ e)) [
          | inl kid ↦ old_fit s t a q d i kid slot_here is
          | inr new ↦
              let one : c ≡ d = some_component c d (sym h.placed.0 ∙ ap (λ (j : Place). component_in (slots w s a) j) new.0 ∙ slot_here) in
              let kind : Some i ≡ Some (sort_of c) = sym is ∙ ap (λ (j : ℕ). kind_of (at made_state.scopes j)) (sym new.1) ∙ kind_new in
              some_sort i (sort_of c) kind ∙ ap (λ (j : VComponent K). sort_of j) one
        ]
        )
        (
        λ other.
        old_fit r t b q d i (sym (ap (λ (z : Side K). child_at z.children q) (side_else w s a p c x found fresh r b old other)) ∙ e) slot is
        )
        )

    owner_old : (r : ℕ) → is_live w r ≡ true → nat_eq w.next_scope r ≡ false
    owner_old r live = is_new w s a p c x found fresh r live

    placed_made : (i : Item K) → is_live w (owner i) ≡ true → Placed w i → Placed made_state i
    placed_made (Feed r b q d) live g = ap (λ (ss : List (Spot K)). component_in ss q) (slots_else w s a p c x found fresh r b (owner_old r live)) ∙ g
    placed_made (Make r b q d) live g = ap (λ (ss : List (Spot K)). component_in ss q) (slots_else w s a p c x found fresh r b (owner_old r live)) ∙ g
    placed_made (Draw r b q k) live g = tt
    placed_made (Row b step) live g = tt
    placed_made (Drop t r b) live g = tt

    work_made : (work : List (Item K)) → Stack w work → AllByRecursion (λ (i : Item K). Placed w i) work → AllByRecursion (λ (i : Item K). Placed made_state i) work
    work_made [] order g = tt
    work_made (i ∷ work) order g = (placed_made i order.0 g.0, work_made work order.3 g.1)

    pub kinds_made : Kinds made_state rest
    kinds_made = record { kids_fit = made_fit; placed = work_made rest stack h.placed.1 }
