-- What a tree feeds is of its child's sort; and where a fed component lets the output stay, it means the same.
use Rattle.std.proofs.Common.{ℕ, Bool, true, false, ◌&&◌, List, [], ◌++◌, ◌≡◌, refl, sym, ap, ◌∙◌, subst, inl, inr}
use Rattle.std.specs.Prelude.{Option, Some, None}
use Rattle.std.specs.List.{AllByRecursion}
use Rattle.rt_model.specs.Lists.{at, same_option}
use Rattle.rt_model.specs.Tree.{Types, Tree, Place, VComponent, Own, Root, Fragment, ErrorBoundary, SuspenseBoundary, is_suspense_boundary, Element, Spot, component_at, spots}
use Rattle.rt_model.specs.World.{World, Application}
use Rattle.rt_model.specs.Laws.{MeanAlike, IsLawful}
use Rattle.rt_model.specs.Values.{same_call, same_element, is_same_component, keeps_output}
use Rattle.rt_model.specs.State.{SideName, Side, Scope, State, Item, Outcome, Done, side_of, is_live}
use Rattle.rt_model.specs.Run.{child_at, spots_of, component_in, is_fed, kept_children, serves, drops_of, start_agenda, body_of}
use Rattle.rt_model.specs.Boundary.{children_of}
use Rattle.rt_model.proofs.Among.{Among}
use Rattle.rt_model.proofs.Conjunctions.{and-left, and-right}
use Rattle.rt_model.proofs.SameTrees.{option_tests, element_tests}
use Rattle.rt_model.proofs.Places.{spots_distinct}
use Rattle.rt_model.proofs.NumbersStand.{child_among}
use Rattle.law_moves.proofs.Twigs.{kids, slots, SameTwigs, live_by, side_found, found_live}
use Rattle.law_moves.proofs.Lists.{every_join, component_is, fed_at, kept_at, kept_fed, serves_every, drops_every}
use Rattle.law_moves.proofs.Patched.{Turns, Idle}
use Rattle.law_moves.proofs.Opens.{Opens}
use Rattle.law_moves.proofs.Weaves.{put_turns, idle_same}
use Rattle.law_moves.proofs.Owed.{Alike}
use Rattle.law_moves.proofs.Alone.{Then}
use Rattle.law_moves.proofs.BodyCalled.{new_side, with_tree, agenda_of, agenda_is}
use Rattle.law_moves.proofs.ChildKinds.{Placed, KindsBy, kinds_same, rows_placed, kinds_more, kinds_turned}
use Rattle.law_moves.specs.Sorts.{ComponentSort, own_sort, sort_of}

module _ {K : Types} (app : Application K) (lawful : IsLawful K app) where
  -- components that may be fed are of one sort
  same_kind : (c d : VComponent K) → is_same_component app c d ≡ true → sort_of c ≡ sort_of d
  same_kind (Own a p) (Own b q) h = ap (λ (e : K.Component). own_sort e) (lawful.tests_components.0 a b h)
  same_kind (Own a p) (Root b q) h = let absurdity : false ≡ true = h in cc
  same_kind (Own a p) (Fragment u) h = let absurdity : false ≡ true = h in cc
  same_kind (Own a p) (ErrorBoundary u g) h = let absurdity : false ≡ true = h in cc
  same_kind (Own a p) (SuspenseBoundary u g) h = let absurdity : false ≡ true = h in cc
  same_kind (Root a p) (Own b q) h = let absurdity : false ≡ true = h in cc
  same_kind (Root a p) (Root b q) h = refl
  same_kind (Root a p) (Fragment u) h = let absurdity : false ≡ true = h in cc
  same_kind (Root a p) (ErrorBoundary u g) h = let absurdity : false ≡ true = h in cc
  same_kind (Root a p) (SuspenseBoundary u g) h = let absurdity : false ≡ true = h in cc
  same_kind (Fragment t) (Own b q) h = let absurdity : false ≡ true = h in cc
  same_kind (Fragment t) (Root b q) h = let absurdity : false ≡ true = h in cc
  same_kind (Fragment t) (Fragment u) h = refl
  same_kind (Fragment t) (ErrorBoundary u g) h = let absurdity : false ≡ true = h in cc
  same_kind (Fragment t) (SuspenseBoundary u g) h = let absurdity : false ≡ true = h in cc
  same_kind (ErrorBoundary t f) (Own b q) h = let absurdity : false ≡ true = h in cc
  same_kind (ErrorBoundary t f) (Root b q) h = let absurdity : false ≡ true = h in cc
  same_kind (ErrorBoundary t f) (Fragment u) h = let absurdity : false ≡ true = h in cc
  same_kind (ErrorBoundary t f) (ErrorBoundary u g) h = refl
  same_kind (ErrorBoundary t f) (SuspenseBoundary u g) h = let absurdity : false ≡ true = h in cc
  same_kind (SuspenseBoundary t f) (Own b q) h = let absurdity : false ≡ true = h in cc
  same_kind (SuspenseBoundary t f) (Root b q) h = let absurdity : false ≡ true = h in cc
  same_kind (SuspenseBoundary t f) (Fragment u) h = let absurdity : false ≡ true = h in cc
  same_kind (SuspenseBoundary t f) (ErrorBoundary u g) h = let absurdity : false ≡ true = h in cc
  same_kind (SuspenseBoundary t f) (SuspenseBoundary u g) h = refl

  fed_pair : (o : Option (VComponent K)) (c : VComponent K) → is_fed app o (Some c) ≡ true → (d : VComponent K) × (o ≡ Some d) × (is_same_component app d c ≡ true)
  fed_pair None c h = let absurdity : false ≡ true = h in cc
  fed_pair (Some d) c h = (d, refl, h)

  -- a tree becomes the output of a side
  module _ (w : State K) (s : ℕ) (a : SideName) (tree : Tree K) (x : Scope K) (live : at w.scopes s ≡ Some x) (k : ℕ → Option (ComponentSort K)) (rest : List (Item K)) (idle : Idle w s rest) (h : KindsBy k w rest) where
    abbrev new : List (Spot K)
    new = spots [] tree

    abbrev left : List (Place × ℕ)
    left = kept_children app (slots w s a) new (kids w s a)

    abbrev after : State K
    after = with_tree app w s a tree x live

    turns : Turns w after s a new left
    turns =
        put_turns w s a x (new_side app w s a tree x live) live left
        (sym (ap (λ (i : Side K). kept_children app (spots_of i.output) new i.children) (side_found w s a x live)))

    fit_here : (t : ℕ) (p : Place) (c : VComponent K) (b : ComponentSort K) → child_at left p ≡ Some t → component_in new p ≡ Some c → k t ≡ Some b → b ≡ sort_of c
    fit_here t p c b e d is =
        let old : List (Spot K) = slots w s a in
        let fed : fed_at app old new p ≡ true = kept_fed app old new (kids w s a) (p, t) (child_among left p t e) in
        let kid : child_at (kids w s a) p ≡ Some t = sym (kept_at app old new (kids w s a) p fed) ∙ e in
        let pair = fed_pair (component_in old p) c (sym (ap (λ (o : Option (VComponent K)). is_fed app (component_in old p) o) d) ∙ fed) in
        h.kids_fit s t a p pair.0 b kid pair.1 is ∙ same_kind pair.0 c pair.2

    stands_new : (p : Place) (c : VComponent K) → Among new (component_at p c) → component_in (slots after s a) p ≡ Some c
    stands_new p c e = ap (λ (ss : List (Spot K)). component_in ss p) turns.slots_here ∙ component_is new p c (spots_distinct [] tree) e

    agenda_placed : AllByRecursion (λ (i : Item K). Placed after i) (agenda_of app w s a tree x live)
    agenda_placed =
        let old : List (Spot K) = spots_of (side_of x a).output in
        every_join (λ (i : Item K). Placed after i) (serves app s a old new) (drops_of app s a new (side_of x a).children old)
        (serves_every app s a old (λ (i : Item K). Placed after i) new (λ p q. tt) (λ p c e fed. stands_new p c e) (λ p c e fresh. stands_new p c e))
        (drops_every app s a new (side_of x a).children (λ (i : Item K). Placed after i) old (λ p c t e gone kid. tt))

    pub kinds_tree : Then (λ v work. KindsBy k v (work ++ rest)) (start_agenda app w s a tree)
    kinds_tree =
        subst (λ (o : Outcome K). Then (λ v work. KindsBy k v (work ++ rest)) o) (sym (agenda_is app w s a tree x live))
        (kinds_turned w after s a new left turns k fit_here (agenda_of app w s a tree x live) rest idle agenda_placed h)

  -- what a run or a step opens
  pub kinds_opened : (w : State K) (s : ℕ) (v : State K) (work rest : List (Item K)) (k : ℕ → Option (ComponentSort K)) → Opens app w s (Done v work) → is_live w s ≡ true → Idle w s rest → KindsBy k w rest → KindsBy k v (work ++ rest)
  kinds_opened w s v work rest k (inl how) live idle h = kinds_more k v work rest (rows_placed v s work how.1) (kinds_same w v how.0 k rest h)
  kinds_opened w s v work rest k (inr how) live idle h =
      let u : State K = how.2 in
      let same : SameTwigs w u = how.3 in
      let there = found_live (at u.scopes s) (live_by w u s (same s) ∙ live) in
      subst (λ (o : Outcome K). Then (λ z more. KindsBy k z (more ++ rest)) o) how.4
      (kinds_tree u s how.0 how.1 there.0 there.1 k rest (idle_same w u s rest same idle) (kinds_same w u same k rest h))

module _ {K : Types} (app : Application K) (lawful : IsLawful K app) where
  elements : (t u : Element K) → same_element app t u ≡ true → t ≡ u
  elements t u h = (element_tests app lawful.tests_components lawful.tests_props lawful.tests_handlers).0 t u h

  call_same : (x y : K.Component × K.Props) → same_call app x y ≡ true → x ≡ y
  call_same x y h =
      let component : x.0 ≡ y.0 = lawful.tests_components.0 x.0 y.0 (and-left (app.same_component x.0 y.0) (app.same_props x.1 y.1) h) in
      let props : x.1 ≡ y.1 = lawful.tests_props.0 x.1 y.1 (and-right (app.same_component x.0 y.0) (app.same_props x.1 y.1) h) in
      λ t. (component t, props t)

  call_self : (x : K.Component × K.Props) → same_call app x x ≡ true
  call_self x = ap (λ (b : Bool). b && app.same_props x.1 x.1) (lawful.tests_components.1 x.0) ∙ lawful.tests_props.1 x.1

  calls : (f g : Option (K.Component × K.Props)) → same_option (λ x y. same_call app x y) f g ≡ true → f ≡ g
  calls f g h = (option_tests (λ x y. same_call app x y) (call_same, call_self)).0 f g h

  root_same : (a b : K.Component) (p q : K.Props) → app.same_component a b ≡ true → app.same_props p q ≡ true → ◌≡◌ {A = VComponent K} (Root a p) (Root b q)
  root_same a b p q e d = ap (λ (c : K.Component). Root c p) (lawful.tests_components.0 a b e) ∙ ap (λ (i : K.Props). Root b i) (lawful.tests_props.0 p q d)

  equal_all : (c d : VComponent K) → c ≡ d → Alike app c d × (is_suspense_boundary d ≡ is_suspense_boundary c) × (children_of c ≡ children_of d)
  equal_all c d e = (
    λ u. (ap (λ (i : VComponent K). (body_of app i u).answer) e, ap (λ (i : VComponent K). (body_of app i u).reads) e),
    ap (λ (i : VComponent K). is_suspense_boundary i) (sym e),
    ap (λ (i : VComponent K). children_of i) e,
  )

  -- where a fed component lets the output stay, it means the same
  pub keeps_all : (c d : VComponent K) → keeps_output app c d ≡ true → Alike app c d × (is_suspense_boundary d ≡ is_suspense_boundary c) × (children_of c ≡ children_of d)
  keeps_all (Own a p) (Own b q) h =
      let same : a ≡ b = lawful.tests_components.0 a b (and-left (app.same_component a b) (app.memoize a p q) h) in
      let alike : (u : World K) → MeanAlike (app.body a p u) (app.body a q u) = lawful.memoized_alike a p q (and-right (app.same_component a b) (app.memoize a p q) h) in (
        λ u. (
          (alike u).0 ∙ ap (λ (c : K.Component). (app.body c q u).answer) same,
          (alike u).1 ∙ ap (λ (c : K.Component). (app.body c q u).reads) same,
        ),
        refl,
        refl,
      )
  keeps_all (Own a p) (Root b q) h = let absurdity : false ≡ true = h in cc
  keeps_all (Own a p) (Fragment u) h = let absurdity : false ≡ true = h in cc
  keeps_all (Own a p) (ErrorBoundary u g) h = let absurdity : false ≡ true = h in cc
  keeps_all (Own a p) (SuspenseBoundary u g) h = let absurdity : false ≡ true = h in cc
  keeps_all (Root a p) (Own b q) h = let absurdity : false ≡ true = h in cc
  keeps_all (Root a p) (Root b q) h = equal_all (Root a p) (Root b q) (root_same a b p q (and-left (app.same_component a b) (app.same_props p q) h) (and-right (app.same_component a b) (app.same_props p q) h))
  keeps_all (Root a p) (Fragment u) h = let absurdity : false ≡ true = h in cc
  keeps_all (Root a p) (ErrorBoundary u g) h = let absurdity : false ≡ true = h in cc
  keeps_all (Root a p) (SuspenseBoundary u g) h = let absurdity : false ≡ true = h in cc
  keeps_all (Fragment t) (Own b q) h = let absurdity : false ≡ true = h in cc
  keeps_all (Fragment t) (Root b q) h = let absurdity : false ≡ true = h in cc
  keeps_all (Fragment t) (Fragment u) h = equal_all (Fragment t) (Fragment u) (ap (λ (i : Element K). Fragment i) (elements t u h))
  keeps_all (Fragment t) (ErrorBoundary u g) h = let absurdity : false ≡ true = h in cc
  keeps_all (Fragment t) (SuspenseBoundary u g) h = let absurdity : false ≡ true = h in cc
  keeps_all (ErrorBoundary t f) (Own b q) h = let absurdity : false ≡ true = h in cc
  keeps_all (ErrorBoundary t f) (Root b q) h = let absurdity : false ≡ true = h in cc
  keeps_all (ErrorBoundary t f) (Fragment u) h = let absurdity : false ≡ true = h in cc
  keeps_all (ErrorBoundary t f) (ErrorBoundary u g) h = let absurdity : false ≡ true = h in cc
  keeps_all (ErrorBoundary t f) (SuspenseBoundary u g) h = let absurdity : false ≡ true = h in cc
  keeps_all (SuspenseBoundary t f) (Own b q) h = let absurdity : false ≡ true = h in cc
  keeps_all (SuspenseBoundary t f) (Root b q) h = let absurdity : false ≡ true = h in cc
  keeps_all (SuspenseBoundary t f) (Fragment u) h = let absurdity : false ≡ true = h in cc
  keeps_all (SuspenseBoundary t f) (ErrorBoundary u g) h = let absurdity : false ≡ true = h in cc
  keeps_all (SuspenseBoundary t f) (SuspenseBoundary u g) h =
      let first : t ≡ u = elements t u (and-left (same_element app t u) (same_option (λ x y. same_call app x y) f g) h) in
      let second : f ≡ g = calls f g (and-right (same_element app t u) (same_option (λ x y. same_call app x y) f g) h) in
      equal_all (SuspenseBoundary t f) (SuspenseBoundary u g) (ap (λ (i : Element K). SuspenseBoundary i f) first ∙ ap (λ (i : Option (K.Component × K.Props)). SuspenseBoundary u i) second)
