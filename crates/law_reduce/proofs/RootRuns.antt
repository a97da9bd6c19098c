-- What runs and steps of runs leave of the scopes round the application's root.
use Rattle.std.proofs.Common.{ℕ, true, List, [], ◌≡◌, refl, sym, ap, ◌∙◌, subst}
use Rattle.std.specs.Prelude.{Option, Some, None}
use Rattle.rt_model.specs.Lists.{at}
use Rattle.rt_model.specs.Tree.{Types, Tree, VComponent, Root, Place, Spot, spots}
use Rattle.rt_model.specs.World.{Application}
use Rattle.rt_model.specs.Laws.{IsLawful}
use Rattle.rt_model.specs.State.{MainSide, ChildrenSide, RowStep, Side, Scope, State, Item, Outcome, Done, is_held}
use Rattle.rt_model.specs.Run.{root_tree, child_at, component_in, spots_of, is_fed, kept_numbers, kept_children, patched, row_of, after_answer, run_as, run}
use Rattle.rt_model.specs.Boundary.{children_of, boundary_step, row_step}
use Rattle.rt_model.proofs.Maps.{eq_same, at_put_here}
use Rattle.law_moves.specs.Frames.{Shown, shown}
use Rattle.law_moves.proofs.Lists.{kept_at}
use Rattle.law_reduce.specs.RootStays.{only_place, boundary_tree, suspense_boundary}
use Rattle.law_reduce.proofs.Wraps.{shape, SeenAs, RowOf, row_seen, SeenO, patch_fit, spots_else, call_q, run_q, boundary_q, rendered_q, patch_q, Like, row_q}
use Rattle.law_reduce.proofs.Around.{RootShows, BoundaryShows, Fit, BothO, WorkO, both_seen}

module _ {K : Types} (app : Application K) (lawful : IsLawful K app) (c : K.Component) (p : K.Props) (s t : ℕ) where
  abbrev Top : Shown K → Type 0
  Top f = RootShows c p s t f

  abbrev Inner : Shown K → Type 0
  Inner f = BoundaryShows c p s t f

  abbrev around : VComponent K
  around = suspense_boundary c p

  -- runs

  root_patched : (v : State K) (y : Scope K) → Top (shape y) → BothO c p s t 0 (λ f. Top f) (patched app v 0 MainSide (root_tree c p) (spots_of y.main_side.output) (spots [] (root_tree c p)) y.main_side y)
  root_patched v y h =
      let old : List (Spot K) = spots_of y.main_side.output in
      let new : List (Spot K) = spots [] (root_tree c p) in
      let kids : List (Place × ℕ) = kept_children app old new y.main_side.children in
      let z : Scope K = record y { main_side = record { output = Some (root_tree c p); numbers = kept_numbers new y.main_side.numbers; children = kids } } in
      let fed : is_fed app (component_in old only_place) (component_in new only_place) ≡ true =
      ap (λ (o : Option (Tree K)). is_fed app (component_in (spots_of o) only_place) (component_in new only_place)) h.2 in
      let kid : child_at kids only_place ≡ Some s = kept_at app old new y.main_side.children only_place fed ∙ h.3 in (
        record {
          now = shape z;
          is = ap (λ (o : Option (Scope K)). shown o) (at_put_here v.scopes 0 z 0 (eq_same 0));
          fine = (h.0, h.1, refl, kid);
        },
        patch_fit around app 0 MainSide old new y.main_side.children ((λ e f. refl), tt),
      )

  pub root_run : (w : State K) → SeenAs 0 (λ f. Top f) w → BothO c p s t 0 (λ f. Top f) (run app w 0)
  root_run w seen =
      let Q : Outcome K → Type 0 = λ o. BothO c p s t 0 (λ f. Top f) o in
      let r : RowOf 0 (λ f. Top f) w = row_seen 0 (λ f. Top f) w seen in
      let g : Shown K = shape r.row in
      run_q app 0 g Q (λ v f. tt) w r.row r.there (ap (λ (o : Option (Scope K)). shown o) r.there)
      (
      λ v h.
      subst (λ (d : VComponent K). BothO c p s t 0 (λ f. Top f) (run_as app v 0 r.row d)) (sym (r.fine).0)
      (call_q app 0 g Q (λ u f. tt) v (Root c p) (λ u a. after_answer app u 0 a) h
      (λ u k. rendered_q app 0 g Q (λ z f. tt) u (root_tree c p) k
      (λ z j. patch_q app 0 g Q (λ x f. tt) z MainSide (root_tree c p) j (λ y e. root_patched z y (subst (λ (f : Shown K). Top f) (sym e) r.fine)))))
      )

  pub around_run : (w : State K) (x : Scope K) → at w.scopes s ≡ Some x → Inner (shape x) → SeenO s (λ f. Inner f) (run app w s)
  around_run w x there fine =
      let Q : Outcome K → Type 0 = λ o. SeenO s (λ f. Inner f) o in
      let g : Shown K = shape x in
      run_q app s g Q (λ v f. tt) w x there (ap (λ (o : Option (Scope K)). shown o) there)
      (
      λ v h.
      subst (λ (d : VComponent K). SeenO s (λ f. Inner f) (run_as app v s x d)) (sym fine.0)
      (boundary_q app s g Q (λ u f. tt) v (row_of x.shows (is_held x)) h (λ u k. record { now = g; is = k; fine = fine }))
      )

  -- steps of a boundary's run

  around_patched : (v : State K) (y : Scope K) → Inner (shape y)
      → BothO c p s t s (λ f. Inner f) (patched app v s ChildrenSide (children_of y.component) (spots_of y.children_side.output) (spots [] (children_of y.component)) y.children_side y)
  around_patched v y h =
      let old : List (Spot K) = spots_of y.children_side.output in
      let new : List (Spot K) = spots [] (boundary_tree c p) in
      let kids : List (Place × ℕ) = kept_children app old new y.children_side.children in
      let z : Scope K = record y { children_side = record { output = Some (boundary_tree c p); numbers = kept_numbers new y.children_side.numbers; children = kids } } in
      let fed : is_fed app (component_in old only_place) (component_in new only_place) ≡ true =
      ap (λ (o : Option (Tree K)). is_fed app (component_in (spots_of o) only_place) (component_in new only_place)) h.1 in
      let kid : child_at kids only_place ≡ Some t = kept_at app old new y.children_side.children only_place fed ∙ h.2 in
      let tree : children_of y.component ≡ boundary_tree c p = ap (λ (d : VComponent K). children_of d) h.0 in
      subst (λ (x : Tree K). BothO c p s t s (λ f. Inner f) (patched app v s ChildrenSide x old (spots [] x) y.children_side y)) (sym tree) (
        record {
          now = shape z;
          is = ap (λ (o : Option (Scope K)). shown o) (at_put_here v.scopes s z s (eq_same s));
          fine = (h.0, refl, kid);
        },
        patch_fit around app s ChildrenSide old new y.children_side.children (spots_else around s ChildrenSide new (λ e f. cc)),
      )

  else_patched : (b : ℕ) (v : State K) (y : Scope K) → WorkO c p s t (patched app v b ChildrenSide (children_of y.component) (spots_of y.children_side.output) (spots [] (children_of y.component)) y.children_side y)
  else_patched b v y =
      let new : List (Spot K) = spots [] (children_of y.component) in
      patch_fit around app b ChildrenSide (spots_of y.children_side.output) new y.children_side.children (spots_else around b ChildrenSide new (λ e f. cc))

  zero_patched : (v : State K) (y : Scope K) → Top (shape y)
      → BothO c p s t 0 (λ f. Top f) (patched app v 0 ChildrenSide (children_of y.component) (spots_of y.children_side.output) (spots [] (children_of y.component)) y.children_side y)
  zero_patched v y h =
      let old : List (Spot K) = spots_of y.children_side.output in
      let new : List (Spot K) = spots [] (children_of y.component) in
      let z : Scope K = record y { children_side = record { output = Some (children_of y.component); numbers = kept_numbers new y.children_side.numbers; children = kept_children app old new y.children_side.children } } in (
        record {
          now = shape z;
          is = ap (λ (o : Option (Scope K)). shown o) (at_put_here v.scopes 0 z 0 (eq_same 0));
          fine = h;
        },
        else_patched 0 v y,
      )

  top_likes : (g : Shown K) → Top g → (v : State K) (f : Shown K) (work : List (Item K)) → shown (at v.scopes 0) ≡ Some f → Like g f → Fit c p s t work → BothO c p s t 0 (λ f. Top f) (Done v work)
  top_likes g h v f work here like fit = (
    record {
      now = f;
      is = here;
      fine = (
        like.component ∙ h.0,
        like.parent ∙ h.1,
        ap (λ (a : Side K). a.output) like.main ∙ h.2,
        ap (λ (a : Side K). child_at a.children only_place) like.main ∙ h.3,
      );
    },
    fit,
  )

  inner_likes : (g : Shown K) → Inner g → (v : State K) (f : Shown K) (work : List (Item K)) → shown (at v.scopes s) ≡ Some f → Like g f → Fit c p s t work → BothO c p s t s (λ f. Inner f) (Done v work)
  inner_likes g h v f work here like fit = (
    record {
      now = f;
      is = here;
      fine = (
        like.component ∙ h.0,
        ap (λ (a : Side K). a.output) like.children ∙ h.1,
        ap (λ (a : Side K). child_at a.children only_place) like.children ∙ h.2,
      );
    },
    fit,
  )

  pub step_of : (Q : Outcome K → Type 0) (w : State K) (b : ℕ) (x : Scope K) (step : RowStep) → at w.scopes b ≡ Some x → Q (row_step app w b x step) → Q (boundary_step app w b step)
  step_of Q w b x step there h = subst (λ (o : Option (Scope K)). Q (elim o as (λ z. Outcome K) [ None ↦ Done w [] | Some y ↦ row_step app w b y step ])) (sym there) h

  pub top_step : (w : State K) (x : Scope K) (step : RowStep) → at w.scopes 0 ≡ Some x → Top (shape x) → SeenO 0 (λ f. Top f) (boundary_step app w 0 step)
  top_step w x step there h =
      both_seen c p s t 0 (λ f. Top f) (boundary_step app w 0 step)
      (step_of (λ o. BothO c p s t 0 (λ f. Top f) o) w 0 x step there
      (row_q app lawful around 0 (shape x) (λ o. BothO c p s t 0 (λ f. Top f) o) (λ v f. tt) (λ v f work here like fit. top_likes (shape x) h v f work here like fit)
      (λ v y e. zero_patched v y (subst (λ (f : Shown K). Top f) (sym e) h)) w x step there refl))

  pub inner_step : (w : State K) (x : Scope K) (step : RowStep) → at w.scopes s ≡ Some x → Inner (shape x) → SeenO s (λ f. Inner f) (boundary_step app w s step)
  inner_step w x step there h =
      both_seen c p s t s (λ f. Inner f) (boundary_step app w s step)
      (step_of (λ o. BothO c p s t s (λ f. Inner f) o) w s x step there
      (row_q app lawful around s (shape x) (λ o. BothO c p s t s (λ f. Inner f) o) (λ v f. tt) (λ v f work here like fit. inner_likes (shape x) h v f work here like fit)
      (λ v y e. around_patched v y (subst (λ (f : Shown K). Inner f) (sym e) h)) w x step there refl))

  pub else_step : (w : State K) (b : ℕ) (x : Scope K) (step : RowStep) → at w.scopes b ≡ Some x → WorkO c p s t (boundary_step app w b step)
  else_step w b x step there =
      step_of (λ o. WorkO c p s t o) w b x step there
      (row_q app lawful around b (shape x) (λ o. WorkO c p s t o) (λ v f. tt) (λ v f work here like fit. fit) (λ v y e. else_patched b v y) w x step there refl)
