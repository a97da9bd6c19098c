-- What is below scope 0 is the suspense boundary, wherever moves lead from a session's start; so where all is current it has its tree.
use Rattle.std.proofs.Common.{ℕ, ◌+◌, Bool, true, false, List, [], ◌∷◌, ◌++◌, ◌≡◌, refl, sym, ap, ◌∙◌, subst, nat_eq}
use Rattle.std.proofs.lemmas.Bool.{eqb-true}
use Rattle.std.specs.Prelude.{Option, Some, None, if◌then◌else◌}
use Rattle.rt_model.specs.Lists.{at, put, has}
use Rattle.rt_model.specs.Tree.{Types, VComponent, Root, Place, Kind, Spot, spots}
use Rattle.rt_model.specs.World.{Scopes, at_end, Application}
use Rattle.rt_model.specs.Laws.{IsLawful}
use Rattle.rt_model.specs.State.{SideName, MainSide, ChildrenSide, FallbackSide, IdsExhausted, RowStep, Scope, State, Item, Make, Outcome, Done, Cut, side_of, with_side, new_scope, is_held}
use Rattle.rt_model.specs.Run.{root_tree, spots_of, kept_numbers, kept_children, patched, row_of, after_answer, run_as, run}
use Rattle.rt_model.specs.Boundary.{children_of, boundary_step}
use Rattle.rt_model.specs.Replay.{draw_number, with_child, with_new_scope, made_in, outcome_of}
use Rattle.rt_model.proofs.Maps.{by_test, none_some, eq_same, at_put_here, at_put_none, at_append_here}
use Rattle.law_moves.specs.Frames.{Stand, Shown, stand, shown, Keeps}
use Rattle.law_moves.proofs.Twigs.{up, up_found}
use Rattle.law_moves.proofs.Woven.{Climb}
use Rattle.law_headline.proofs.Trees.{apart_has}
use Rattle.law_reduce.specs.RootStays.{suspense_boundary}
use Rattle.law_reduce.proofs.Wraps.{shape, row_shown, some_shown, SeenAs, RowOf, row_seen, SeenO, AllFit, both_fit, patch_fit, call_q, run_q, boundary_q, rendered_q, patch_q, row_q}
use Rattle.law_reduce.proofs.Around.{BothO, WorkO, seen_on, seen_by}
use Rattle.law_reduce.proofs.RootRuns.{step_of}
use Rattle.law_reduce.proofs.RootStays.{numbered_seen}

abbrev pub stand_up : Option Stand → Option ℕ
stand_up None = None
stand_up (Some f) = f.0

abbrev pub stand_below : Option Stand → SideName
stand_below None = MainSide
stand_below (Some f) = f.2

module _ {K : Types} where
  -- where a scope stands as it stood its record says so
  pub same_parent : (w v : State K) (n : ℕ) (x y : Scope K) → at w.scopes n ≡ Some x → at v.scopes n ≡ Some y → stand (at v.scopes n) ≡ stand (at w.scopes n) → x.parent ≡ y.parent
  same_parent w v n x y e f same =
      sym (ap (λ (o : Option (Scope K)). stand_up (stand o)) e) ∙ sym (ap (λ (o : Option Stand). stand_up o) same) ∙ ap (λ (o : Option (Scope K)). stand_up (stand o)) f

  pub same_below : (w v : State K) (n : ℕ) (x y : Scope K) → at w.scopes n ≡ Some x → at v.scopes n ≡ Some y → stand (at v.scopes n) ≡ stand (at w.scopes n) → x.below ≡ y.below
  same_below w v n x y e f same =
      sym (ap (λ (o : Option (Scope K)). stand_below (stand o)) e) ∙ sym (ap (λ (o : Option Stand). stand_below o) same) ∙ ap (λ (o : Option (Scope K)). stand_below (stand o)) f

  -- and it was there
  pub stood_there : (o : Option (Scope K)) (y : Scope K) → stand (Some y) ≡ stand o → (x : Scope K) × (o ≡ Some x)
  stood_there None y h = cc
  stood_there (Some x) y h = (x, refl)

  -- scope 0 has no parent, so it is on no way up to a scope that has one
  pub alone : (w : State K) (top parent : ℕ) (path : List ℕ) (n : ℕ) → up w 0 ≡ None → up w top ≡ Some parent → Climb w path n top → n ≡ 0 → ⊥
  alone w top parent [] n none above way root = none_some (ap (λ (m : ℕ). up w m) (sym way ∙ root) ∙ none) above
  alone w top parent (q ∷ path) n none above way root = none_some (ap (λ (m : ℕ). up w m) root ∙ none) way.0

  numbers_component : (x : Scope K) (a : SideName) (ns : List (Place × Kind × ℕ)) → (with_side x a (record (side_of x a) { numbers = ns })).component ≡ x.component
  numbers_component x MainSide ns = refl
  numbers_component x ChildrenSide ns = refl
  numbers_component x FallbackSide ns = refl

  pub child_component : (x : Scope K) (a : SideName) (q : Place) (n : ℕ) → (with_child a q n x).component ≡ x.component
  child_component x MainSide q n = refl
  child_component x ChildrenSide q n = refl
  child_component x FallbackSide q n = refl

module _ {K : Types} (app : Application K) (lawful : IsLawful K app) (c : K.Component) (p : K.Props) where
  abbrev around : VComponent K
  around = suspense_boundary c p

  -- a scope has this component
  abbrev pub Is : VComponent K → Shown K → Type 0
  Is d f = f.0 ≡ d

  abbrev pub Top : Shown K → Type 0
  Top f = (f.0 ≡ Root c p) × (f.1 ≡ None)

  -- scope 0 is the root wrapper, and what is below its main side is the suspense boundary
  pub record Beneath (w : State K) (work : List (Item K)) : Type 0 where
    pub root : SeenAs 0 (λ f. Top f) w
    pub kids : (n : ℕ) (f : Shown K) → shown (at w.scopes n) ≡ Some f → f.1 ≡ Some 0 → f.3 ≡ MainSide → f.0 ≡ around
    pub items : AllFit around work

  pub root_row : (w : State K) (work : List (Item K)) → Beneath w work → RowOf 0 (λ f. Top f) w
  root_row w work h = row_seen 0 (λ f. Top f) w h.root

  pub no_parent : (w : State K) (work : List (Item K)) → Beneath w work → up w 0 ≡ None
  no_parent w work h = let r : RowOf 0 (λ f. Top f) w = root_row w work h in up_found w 0 r.row r.there ∙ (r.fine).1

  -- scope 0 is still there, with its component
  pub root_on : (w v : State K) (before : List (Item K)) → Beneath w before → stand (at v.scopes 0) ≡ stand (at w.scopes 0) → SeenAs 0 (λ f. Is (Root c p) f) v → SeenAs 0 (λ f. Top f) v
  root_on w v before h same seen =
      let r : RowOf 0 (λ f. Top f) w = root_row w before h in
      let now = row_shown (at v.scopes 0) seen.now seen.is in
      let above : (r.row).parent ≡ (now.0).parent = same_parent w v 0 r.row now.0 r.there now.1 same in
      record { now = seen.now; is = seen.is; fine = (seen.fine, ap (λ (f : Shown K). f.1) (sym now.2) ∙ sym above ∙ (r.fine).1) }

  -- a scope below it that stands as it stood, and had the boundary, has it still
  pub kid_on : (w v : State K) (before : List (Item K)) (n : ℕ) → Beneath w before → stand (at v.scopes n) ≡ stand (at w.scopes n)
      → ((x : Scope K) → at w.scopes n ≡ Some x → x.component ≡ around → SeenAs n (λ f. Is around f) v)
      → (f : Shown K) → shown (at v.scopes n) ≡ Some f → f.1 ≡ Some 0 → f.3 ≡ MainSide → f.0 ≡ around
  kid_on w v before n h same comp f e above under =
      let now = row_shown (at v.scopes n) f e in
      let was = stood_there (at w.scopes n) now.0 (ap (λ (o : Option (Scope K)). stand o) (sym now.1) ∙ same) in
      let up_is : (was.0).parent ≡ Some 0 = same_parent w v n was.0 now.0 was.1 now.1 same ∙ ap (λ (g : Shown K). g.1) now.2 ∙ above in
      let low : (was.0).below ≡ MainSide = same_below w v n was.0 now.0 was.1 now.1 same ∙ ap (λ (g : Shown K). g.3) now.2 ∙ under in
      let old : (was.0).component ≡ around = h.kids n (shape was.0) (ap (λ (o : Option (Scope K)). shown o) was.1) up_is low in
      let seen : SeenAs n (λ f. Is around f) v = comp was.0 was.1 old in
      let one : seen.now ≡ f = some_shown seen.now f (sym seen.is ∙ e) in
      ap (λ (g : Shown K). g.0) (sym one) ∙ seen.fine

  -- one scope is served
  pub one_on : (w v : State K) (b : ℕ) (before work : List (Item K)) → Beneath w before → Keeps (b ∷ []) [] w v
      → (b ≡ 0 → SeenAs 0 (λ f. Is (Root c p) f) v)
      → ((n : ℕ) (x : Scope K) → b ≡ n → at w.scopes n ≡ Some x → x.component ≡ around → SeenAs n (λ f. Is around f) v)
      → AllFit around work
      → Beneath v work
  one_on w v b before work h k root kid items =
      record {
        root =
            by_test (nat_eq b 0) (λ q. root_on w v before h (k.stands 0 refl) (root (eqb-true b 0 q)))
            (λ q. seen_on c p 0 0 w v 0 (λ f. Top f) h.root (k.sides 0 (apart_has b 0 q)));
        kids =
            λ n f e above under.
            by_test (nat_eq b n) (λ q. kid_on w v before n h (k.stands n refl) (λ x there old. kid n x (eqb-true b n q) there old) f e above under)
            (λ q. h.kids n f (sym (k.sides n (apart_has b n q)) ∙ e) above under);
        items = items;
      }

  -- a run of the boundary leaves it that
  pub around_is : (w : State K) (n : ℕ) (x : Scope K) → at w.scopes n ≡ Some x → x.component ≡ around → SeenO n (λ f. Is around f) (run app w n)
  around_is w n x there is =
      let Q : Outcome K → Type 0 = λ o. SeenO n (λ f. Is around f) o in
      let g : Shown K = shape x in
      run_q app n g Q (λ v f. tt) w x there (ap (λ (o : Option (Scope K)). shown o) there)
      (
      λ v h.
      subst (λ (d : VComponent K). SeenO n (λ f. Is around f) (run_as app v n x d)) (sym is)
      (boundary_q app n g Q (λ u f. tt) v (row_of x.shows (is_held x)) h (λ u k. record { now = g; is = k; fine = is }))
      )

  -- a run of the root wrapper
  root_patched : (v : State K) (y : Scope K) → y.component ≡ Root c p
      → BothO c p 0 0 0 (λ f. Is (Root c p) f) (patched app v 0 MainSide (root_tree c p) (spots_of y.main_side.output) (spots [] (root_tree c p)) y.main_side y)
  root_patched v y is =
      let old : List (Spot K) = spots_of y.main_side.output in
      let new : List (Spot K) = spots [] (root_tree c p) in
      let z : Scope K = record y { main_side = record { output = Some (root_tree c p); numbers = kept_numbers new y.main_side.numbers; children = kept_children app old new y.main_side.children } } in (
        record { now = shape z; is = ap (λ (o : Option (Scope K)). shown o) (at_put_here v.scopes 0 z 0 (eq_same 0)); fine = is },
        patch_fit around app 0 MainSide old new y.main_side.children ((λ e f. refl), tt),
      )

  pub root_run : (w : State K) (x : Scope K) → at w.scopes 0 ≡ Some x → x.component ≡ Root c p → BothO c p 0 0 0 (λ f. Is (Root c p) f) (run app w 0)
  root_run w x there is =
      let Q : Outcome K → Type 0 = λ o. BothO c p 0 0 0 (λ f. Is (Root c p) f) o in
      let g : Shown K = shape x in
      run_q app 0 g Q (λ v f. tt) w x there (ap (λ (o : Option (Scope K)). shown o) there)
      (
      λ v h.
      subst (λ (d : VComponent K). BothO c p 0 0 0 (λ f. Is (Root c p) f) (run_as app v 0 x d)) (sym is)
      (call_q app 0 g Q (λ u f. tt) v (Root c p) (λ u a. after_answer app u 0 a) h
      (λ u k. rendered_q app 0 g Q (λ z f. tt) u (root_tree c p) k
      (λ z j. patch_q app 0 g Q (λ y f. tt) z MainSide (root_tree c p) j (λ y e. root_patched z y (ap (λ (f : Shown K). f.0) e ∙ is)))))
      )

  -- items

  pub kid_of : (w v : State K) (item : Item K) (b : ℕ) (work : List (Item K)) → outcome_of app w item ≡ Done v work → (d : VComponent K)
      → ((x : Scope K) → at w.scopes b ≡ Some x → x.component ≡ d → SeenO b (λ f. Is d f) (outcome_of app w item))
      → (n : ℕ) (x : Scope K) → b ≡ n → at w.scopes n ≡ Some x → x.component ≡ d → SeenAs n (λ f. Is d f) v
  kid_of w v item b work e d comp n x same there is =
      subst (λ (m : ℕ). SeenAs m (λ f. Is d f) v) same
      (seen_by c p 0 0 b (λ f. Is d f) (outcome_of app w item) v work e (comp x (ap (λ (m : ℕ). at w.scopes m) same ∙ there) is))

  pub served_one : (w v : State K) (item : Item K) (b : ℕ) (rest work : List (Item K)) → Beneath w (item ∷ rest) → Keeps (b ∷ []) [] w v → outcome_of app w item ≡ Done v work
      → ((d : VComponent K) (x : Scope K) → at w.scopes b ≡ Some x → x.component ≡ d → SeenO b (λ f. Is d f) (outcome_of app w item))
      → WorkO c p 0 0 (outcome_of app w item)
      → Beneath v (work ++ rest)
  served_one w v item b rest work h k e comp fit =
      let r : RowOf 0 (λ f. Top f) w = root_row w (item ∷ rest) h in
      one_on w v b (item ∷ rest) (work ++ rest) h k
      (λ z. kid_of w v item b work e (Root c p) (comp (Root c p)) 0 r.row z r.there (r.fine).0)
      (λ n x z there is. kid_of w v item b work e around (comp around) n x z there is)
      (both_fit around work rest (subst (λ (o : Outcome K). WorkO c p 0 0 o) e fit) h.items.1)

  pub drawn_is : (w : State K) (b : ℕ) (a : SideName) (q : Place) (k : Kind) (d : VComponent K) (x : Scope K) → at w.scopes b ≡ Some x → x.component ≡ d → SeenO b (λ f. Is d f) (draw_number w b a q k)
  drawn_is w b a q k d x there is =
      numbered_seen app lawful c p 0 0 w b (λ f. Is d f) a q k x there (numbers_component x a ((side_of x a).numbers ++ (q, k, w.next.elements) ∷ []) ∙ is)

  pub step_is : (w : State K) (b : ℕ) (step : RowStep) (d : VComponent K) (x : Scope K) → at w.scopes b ≡ Some x → x.component ≡ d → SeenO b (λ f. Is d f) (boundary_step app w b step)
  step_is w b step d x there is =
      step_of app lawful c p 0 0 (λ o. SeenO b (λ f. Is d f) o) w b x step there
      (row_q app lawful around b (shape x) (λ o. SeenO b (λ f. Is d f) o) (λ v f. tt) (λ v f work here like fit. record { now = f; is = here; fine = like.component ∙ is })
      (λ v y e. patched_is v y (ap (λ (f : Shown K). f.0) e ∙ is)) w x step there refl)
    where
      patched_is : (v : State K) (y : Scope K) → y.component ≡ d
          → SeenO b (λ f. Is d f) (patched app v b ChildrenSide (children_of y.component) (spots_of y.children_side.output) (spots [] (children_of y.component)) y.children_side y)
      patched_is v y same =
          let old : List (Spot K) = spots_of y.children_side.output in
          let new : List (Spot K) = spots [] (children_of y.component) in
          let z : Scope K = record y { children_side = record { output = Some (children_of y.component); numbers = kept_numbers new y.children_side.numbers; children = kept_children app old new y.children_side.children } } in
          record { now = shape z; is = ap (λ (o : Option (Scope K)). shown o) (at_put_here v.scopes b z b (eq_same b)); fine = same }

  -- a new scope
  pub made_is : (w : State K) (b : ℕ) (a : SideName) (q : Place) (x : Scope K) → at w.scopes b ≡ Some x → at w.scopes w.next_scope ≡ None → SeenO w.next_scope (λ f. Is around f) (outcome_of app w (Make b a q around))
  made_is w b a q x there fresh =
      subst (λ (o : Option (Scope K)). SeenO w.next_scope (λ f. Is around f) (elim o as (λ z. Outcome K) [ None ↦ Done w [] | Some y ↦ made_in app w b a q around y ])) (sym there)
      (by (at_end w.next_scope))
    where
      n : ℕ
      n = w.next_scope

      new : Scope K
      new = new_scope around (Some b) (x.height + 1) a

      by : (z : Bool) → SeenO w.next_scope (λ f. Is around f) (if z then Cut w (IdsExhausted Scopes) else run app (with_new_scope w b a q around x) w.next_scope)
      by true = tt
      by false =
          around_is (with_new_scope w b a q around x) n new
          (at_append_here (put w.scopes b (with_child a q n x)) n new n (eq_same n) (at_put_none w.scopes b (with_child a q n x) x n there fresh))
          refl
