-- Where the scopes round the application's root stand, and that none of them is on the way of a removal.
use Rattle.std.proofs.Common.{ℕ, true, false, List, [], ◌∷◌, ◌≡◌, refl, sym, ap, ◌∙◌, subst, nat_eq, arith}
use Rattle.std.proofs.lemmas.Bool.{eqb-true}
use Rattle.std.specs.Prelude.{Option, Some, None, is_some}
use Rattle.rt_model.specs.Lists.{at, has}
use Rattle.rt_model.specs.Tree.{Types, Root, Place, Kind}
use Rattle.rt_model.specs.State.{SideName, MainSide, ChildrenSide, FallbackSide, Side, Scope, State, Item, Drop, Outcome, Done, Cut, side_of, with_side, is_live}
use Rattle.rt_model.specs.Run.{root_tree, child_at}
use Rattle.rt_model.specs.Replay.{with_child}
use Rattle.rt_model.proofs.Maps.{by_test, none_some}
use Rattle.rt_model.proofs.NumbersStand.{child_among}
use Rattle.law_moves.specs.Frames.{Shown, stand, shown}
use Rattle.law_moves.proofs.Made.{kid_stays}
use Rattle.law_moves.proofs.Twigs.{twig, twig_below, up, up_found, found_live, side_found, kids}
use Rattle.law_moves.proofs.Woven.{Climb}
use Rattle.law_headline.proofs.Steps.{Ready}
use Rattle.law_reduce.specs.RootStays.{only_place, boundary_tree, suspense_boundary}
use Rattle.law_reduce.proofs.Wraps.{shape, SeenAs, RowOf, row_seen, SeenO, AllFit, FitO}

pub other_than : (n l : ℕ) → (l ≡ n → ⊥) → nat_eq l n ≡ false
other_than n l other = by_test (nat_eq l n) (λ q. absurd (other (eqb-true l n q))) (λ q. q)

module _ {K : Types} where
  live_stand : (o : Option (Scope K)) → is_some o ≡ is_some (stand o)
  live_stand None = refl
  live_stand (Some x) = refl

  -- what stands as it stood is live
  pub live_still : (w v : State K) (n : ℕ) → stand (at v.scopes n) ≡ stand (at w.scopes n) → is_live w n ≡ true → is_live v n ≡ true
  live_still w v n same live = live_stand (at v.scopes n) ∙ ap (λ o. is_some o) same ∙ sym (live_stand (at w.scopes n)) ∙ live

module _ {K : Types} (c : K.Component) (p : K.Props) (s t : ℕ) where
  abbrev pub RootShows : Shown K → Type 0
  RootShows f = (f.0 ≡ Root c p) × (f.1 ≡ None) × ((f.5).output ≡ Some (root_tree c p)) × (child_at (f.5).children only_place ≡ Some s)

  abbrev pub BoundaryShows : Shown K → Type 0
  BoundaryShows f = (f.0 ≡ suspense_boundary c p) × ((f.6).output ≡ Some (boundary_tree c p)) × (child_at (f.6).children only_place ≡ Some t)

  abbrev pub Fit : List (Item K) → Type 0
  Fit work = AllFit (suspense_boundary c p) work

  -- with the work that a change opens
  abbrev pub BothO : ℕ → (Shown K → Type 0) → Outcome K → Type 0
  BothO n R (Done v work) = SeenAs n R v × Fit work
  BothO n R (Cut v fault) = Unit {0}

  abbrev pub WorkO : Outcome K → Type 0
  WorkO o = FitO (suspense_boundary c p) o

  -- scope 0 shows the suspense boundary, that has the error boundary, and that is live
  pub record Wraps (w : State K) (work : List (Item K)) : Type 0 where
    pub root : SeenAs 0 (λ f. RootShows f) w
    pub around : SeenAs s (λ f. BoundaryShows f) w
    pub live : is_live w t ≡ true
    pub items : Fit work

  pub seen_on : (w v : State K) (n : ℕ) (R : Shown K → Type 0) → SeenAs n R w → shown (at v.scopes n) ≡ shown (at w.scopes n) → SeenAs n R v
  seen_on w v n R h same = record { now = h.now; is = same ∙ h.is; fine = h.fine }

  pub seen_by : (n : ℕ) (R : Shown K → Type 0) (o : Outcome K) (v : State K) (work : List (Item K)) → o ≡ Done v work → SeenO n R o → SeenAs n R v
  seen_by n R o v work e h = subst (λ (z : Outcome K). SeenO n R z) e h

  pub both_seen : (n : ℕ) (R : Shown K → Type 0) (o : Outcome K) → BothO n R o → SeenO n R o
  both_seen n R (Done v work) h = h.0
  both_seen n R (Cut v fault) h = tt

  -- one scope is served
  pub one_served : (w v : State K) (b : ℕ) (before work : List (Item K)) → Wraps w before → ((n : ℕ) → nat_eq b n ≡ false → shown (at v.scopes n) ≡ shown (at w.scopes n))
      → stand (at v.scopes t) ≡ stand (at w.scopes t)
      → (b ≡ 0 → SeenAs 0 (λ f. RootShows f) v)
      → (b ≡ s → SeenAs s (λ f. BoundaryShows f) v)
      → Fit work
      → Wraps v work
  one_served w v b before work h others stands root around items =
      record {
        root = by_test (nat_eq b 0) (λ q. root (eqb-true b 0 q)) (λ q. seen_on w v 0 (λ f. RootShows f) h.root (others 0 q));
        around = by_test (nat_eq b s) (λ q. around (eqb-true b s q)) (λ q. seen_on w v s (λ f. BoundaryShows f) h.around (others s q));
        live = live_still w v t stands h.live;
        items = items;
      }

  -- where what stands round the root stands

  pub root_row : (w : State K) (work : List (Item K)) → Wraps w work → RowOf 0 (λ f. RootShows f) w
  root_row w work h = row_seen 0 (λ f. RootShows f) w h.root

  pub around_row : (w : State K) (work : List (Item K)) → Wraps w work → RowOf s (λ f. BoundaryShows f) w
  around_row w work h = row_seen s (λ f. BoundaryShows f) w h.around

  pub around_up : (w : State K) (work : List (Item K)) → Ready w work → Wraps w work → (x : Scope K) → at w.scopes s ≡ Some x → (x.parent ≡ Some 0) × (x.below ≡ MainSide)
  around_up w work ready h x there =
      let r : RowOf 0 (λ f. RootShows f) w = root_row w work h in
      (ready.stands).child 0 s r.row x MainSide only_place r.there (child_among (r.row).main_side.children only_place s (r.fine).3) there

  error_up : (w : State K) (work : List (Item K)) → Ready w work → Wraps w work → (x : Scope K) → at w.scopes t ≡ Some x → (x.parent ≡ Some s) × (x.below ≡ ChildrenSide)
  error_up w work ready h x there =
      let r : RowOf s (λ f. BoundaryShows f) w = around_row w work h in
      (ready.stands).child s t r.row x ChildrenSide only_place r.there (child_among (r.row).children_side.children only_place t (r.fine).2) there

  -- a scope with a parent isn't scope 0
  pub not_root : {P : Type 0} (w : State K) (work : List (Item K)) (q : ℕ) → Wraps w work → up w 0 ≡ Some q → P
  not_root w work q h above =
      let r : RowOf 0 (λ f. RootShows f) w = root_row w work h in
      none_some (up_found w 0 r.row r.there ∙ (r.fine).1) above

  -- none of them is on the way up from what goes to what is dropped
  module _ (w : State K) (top parent : ℕ) (side : SideName) (rest : List (Item K)) (ready : Ready w (Drop top parent side ∷ rest)) (h : Wraps w (Drop top parent side ∷ rest)) where
    abbrev work : List (Item K)
    work = Drop top parent side ∷ rest

    -- no child at its place is dropped
    no_kid : (q : Place) (a : SideName) (n r : ℕ) (x y : Scope K) → n ≡ top → at w.scopes r ≡ Some x → child_at (side_of x a).children q ≡ Some n → at w.scopes n ≡ Some y → y.parent ≡ Some r → y.below ≡ a → ⊥
    no_kid q a n r x y same there kid found above under =
        let fits = ready.woven.stack.1 in
        let here : at w.scopes top ≡ Some y = ap (λ (m : ℕ). at w.scopes m) (sym same) ∙ found in
        let up_is : Some r ≡ Some parent = sym above ∙ sym (up_found w top y here) ∙ fits.1 in
        let side_is : Some a ≡ Some side = ap (λ (b : SideName). Some b) (sym under) ∙ sym (ap (λ (o : Option (Scope K)). twig_below (twig o)) here) ∙ fits.2 in
        let one : r ≡ parent = cc in
        let other : a ≡ side = cc in
        let kid_is : child_at (kids w r a) q ≡ Some top = ap (λ (z : Side K). child_at z.children q) (side_found w r a x there) ∙ kid ∙ ap (λ (m : ℕ). Some m) same in
        fits.3 q (ap (λ (m : ℕ). child_at (kids w m side) q) (sym one) ∙ ap (λ (b : SideName). child_at (kids w r b) q) (sym other) ∙ kid_is)

    pub from_root : (path : List ℕ) (n : ℕ) → n ≡ 0 → Climb w path n top → ⊥
    from_root [] n zero_is way = not_root w work parent h (ap (λ (m : ℕ). up w m) (sym zero_is ∙ way) ∙ ready.woven.stack.1.1)
    from_root (q ∷ path) n zero_is way = not_root w work q h (ap (λ (m : ℕ). up w m) (sym zero_is) ∙ way.0)

    around_on : (path : List ℕ) → Climb w path s top → (y : Scope K) → at w.scopes s ≡ Some y → y.parent ≡ Some 0 → y.below ≡ MainSide → ⊥
    around_on [] way y found above under =
        let r : RowOf 0 (λ f. RootShows f) w = root_row w work h in
        no_kid only_place MainSide s 0 r.row y way r.there (r.fine).3 found above under
    around_on (q ∷ path) way y found above under =
        let here : Some 0 ≡ Some q = sym above ∙ sym (up_found w s y found) ∙ way.0 in
        let one : q ≡ 0 = cc in
        from_root path q one way.1

    pub from_around : (path : List ℕ) (n : ℕ) → n ≡ s → Climb w path n top → ⊥
    from_around path n same way =
        let r : RowOf s (λ f. BoundaryShows f) w = around_row w work h in
        let above = around_up w work ready h r.row r.there in
        around_on path (subst (λ (m : ℕ). Climb w path m top) same way) r.row r.there above.0 above.1

    error_on : (path : List ℕ) → Climb w path t top → (y : Scope K) → at w.scopes t ≡ Some y → y.parent ≡ Some s → y.below ≡ ChildrenSide → ⊥
    error_on [] way y found above under =
        let r : RowOf s (λ f. BoundaryShows f) w = around_row w work h in
        no_kid only_place ChildrenSide t s r.row y way r.there (r.fine).2 found above under
    error_on (q ∷ path) way y found above under =
        let here : Some s ≡ Some q = sym above ∙ sym (up_found w t y found) ∙ way.0 in
        let one : q ≡ s = cc in
        from_around path q one way.1

    pub from_error : (path : List ℕ) (n : ℕ) → n ≡ t → Climb w path n top → ⊥
    from_error path n same way =
        let found = found_live (at w.scopes t) h.live in
        let above = error_up w work ready h found.0 found.1 in
        error_on path (subst (λ (m : ℕ). Climb w path m top) same way) found.0 found.1 above.0 above.1

  -- a number that is yet to be drawn is another one
  pub not_new : (w : State K) (work : List (Item K)) (n : ℕ) (x : Scope K) → Ready w work → at w.scopes n ≡ Some x → nat_eq w.next_scope n ≡ false
  not_new w work n x ready there =
      by_test (nat_eq w.next_scope n)
      (λ q. none_some (ap (λ (m : ℕ). at w.scopes m) (sym (eqb-true w.next_scope n q)) ∙ (ready.rooted).drawn w.next_scope (omega arith)) there)
      (λ q. q)

  -- more numbers, or one child more
  pub numbers_root : (x : Scope K) (a : SideName) (ns : List (Place × Kind × ℕ)) → RootShows (shape x) → RootShows (shape (with_side x a (record (side_of x a) { numbers = ns })))
  numbers_root x MainSide ns h = h
  numbers_root x ChildrenSide ns h = h
  numbers_root x FallbackSide ns h = h

  pub numbers_around : (x : Scope K) (a : SideName) (ns : List (Place × Kind × ℕ)) → BoundaryShows (shape x) → BoundaryShows (shape (with_side x a (record (side_of x a) { numbers = ns })))
  numbers_around x MainSide ns h = h
  numbers_around x ChildrenSide ns h = h
  numbers_around x FallbackSide ns h = h

  pub child_root : (x : Scope K) (a : SideName) (q : Place) (n : ℕ) → RootShows (shape x) → RootShows (shape (with_child a q n x))
  child_root x MainSide q n h = (h.0, h.1, h.2, kid_stays x.main_side.children (q, n) only_place s h.3)
  child_root x ChildrenSide q n h = h
  child_root x FallbackSide q n h = h

  pub child_around : (x : Scope K) (a : SideName) (q : Place) (n : ℕ) → BoundaryShows (shape x) → BoundaryShows (shape (with_child a q n x))
  child_around x MainSide q n h = h
  child_around x ChildrenSide q n h = (h.0, h.1, kid_stays x.children_side.children (q, n) only_place t h.2)
  child_around x FallbackSide q n h = h
