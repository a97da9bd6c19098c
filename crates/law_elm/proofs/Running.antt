-- A run of a scope in an application of pages in which nothing fails: each scope is as it has to be, and so is what is made or handed on
-- in the work that it opens.
use Rattle.std.proofs.Common.{ℕ, ◌<◌, Bool, true, false, List, [], ◌≡◌, refl, sym, ap, ◌∙◌, subst, nat_eq}
use Rattle.std.proofs.lemmas.Bool.{eqb-true}
use Rattle.std.specs.Prelude.{Option, Some, None, if◌then◌else◌}
use Rattle.rt_model.specs.Lists.{at, put}
use Rattle.rt_model.specs.Tree.{Types, Tree, placeholder_tree, VComponent, Own, Root, Fragment, ErrorBoundary, SuspenseBoundary, Element, rendered, failed, suspended, Spot, spots}
use Rattle.rt_model.specs.World.{before_render_kind, Application}
use Rattle.rt_model.specs.State.{MainSide, RowStep, Side, Scope, State, Item, Outcome, Done, Cut, onward, is_held}
use Rattle.rt_model.specs.Run.{children_tree, spots_of, kept_numbers, kept_children, patched, has_output, row_of, runs_fallback, row_items, unmarked, hooks_called, after_hooks, call_body, start_agenda, settled_answer, new_output, after_answer, boundary_run, run_as, run}
use Rattle.rt_model.proofs.Maps.{by_test, none_some, eq_same, at_put_here}
use Rattle.rt_model.proofs.Members.{clash}
use Rattle.author_programs.specs.Cells.{Keeping}
use Rattle.author_programs.specs.Pages.{Pages, meaning_of_pages}
use Rattle.law_elm.proofs.Tiers.{Tier, next_tier, MayStep, IsTier, AllOf, Answers, boundary_steps, Works, rows_work, patch_works}
use Rattle.law_elm.proofs.Each.{one_scope}
use Rattle.law_elm.proofs.Rules.{Rules}
use Rattle.law_elm.proofs.Well.{Well, well_put}
use Rattle.law_elm.proofs.Touring.{AnswersKids, FineO, then_o, same_fine, hooks_fine, after_fine, settled_fine, called_by}
use Rattle.law_elm.proofs.Standing.{ShowsKids, kids_kept, Stands, stands_side, Good, But, Running, running_facts}

module _ {K : Types} where
  -- the component of a scope that is there
  abbrev pub IsOf : State K → ℕ → VComponent K → Type 0
  IsOf w b c = (y : Scope K) → at w.scopes b ≡ Some y → y.component ≡ c

  one_tree : (t u : Tree K) → rendered t ≡ rendered u → t ≡ u
  one_tree t u h = cc

  shows_tree : (c : VComponent K) (t : Tree K) → AnswersKids c (rendered t) → ShowsKids c (Some t)
  shows_tree (ErrorBoundary children handler) t h = ap (λ (u : Tree K). Some u) (one_tree t (children_tree children) h)
  shows_tree (Own component props) t h = tt
  shows_tree (Root component props) t h = tt
  shows_tree (Fragment children) t h = tt
  shows_tree (SuspenseBoundary children fallback) t h = tt

  shows_any : (c : VComponent K) (origin task : ℕ) (o : Option (Tree K)) → AnswersKids c (suspended origin task) → ShowsKids c o
  shows_any (ErrorBoundary children handler) origin task o h = cc
  shows_any (Own component props) origin task o h = tt
  shows_any (Root component props) origin task o h = tt
  shows_any (Fragment children) origin task o h = tt
  shows_any (SuspenseBoundary children fallback) origin task o h = tt

module _ {K : Types} (k : Keeping K.Value) (a : Pages K) (given : K.Props) (law : Rules k a given) (tiers : ℕ → Tier) (bound : ℕ) where
  abbrev pub All : (ℕ → Scope K → Type 0) → State K → Type 0
  All of w = Well of (λ n o. law.cells (tiers o) n o) bound w

  -- what a run of a scope of a component leaves
  abbrev pub RanO : ℕ → VComponent K → Outcome K → Type 0
  RanO b c (Done v work) = All (λ n x. Good k a given law tiers bound n x) v × Works law.may a.root given tiers bound work × IsOf v b c
  RanO b c (Cut v fault) = Unit {0}

module _ {K : Types} (k : Keeping K.Value) (a : Pages K) (given : K.Props) (law : Rules k a given) (tiers : ℕ → Tier) (bound : ℕ) (b : ℕ) (c : VComponent K) where
  abbrev app : Application K
  app = meaning_of_pages k a

  abbrev R : ℕ → Scope K → Type 0
  R n x = Running k a given law tiers bound b c n x

  abbrev Fine : State K → Type 0
  Fine w = All k a given law tiers bound (λ n x. R n x) w

  abbrev T : Outcome K → Type 0
  T o = RanO k a given law tiers bound b c o

  abbrev Below : List (Spot K) → Type 0
  Below spots = AllOf law.may a.root given (next_tier (tiers b) MainSide) spots

  either_t : (z : Bool) (x y : Outcome K) → T x → T y → T (if z then x else y)
  either_t true x y f g = f
  either_t false x y f g = g

  then_t : (o : Outcome K) (f : State K → Outcome K) → FineO k a given law (running_facts k a given law tiers bound b c) tiers bound o → ((v : State K) → Fine v → T (f v)) → T (onward o f)
  then_t (Done v work) f h g = g v h
  then_t (Cut v fault) f h g = tt

  -- where that one shows what it has to, all do
  all_good : (v : State K) → Fine v → ((y : Scope K) → at v.scopes b ≡ Some y → ShowsKids y.component y.main_side.output) → All k a given law tiers bound (λ n x. Good k a given law tiers bound n x) v
  all_good v h here =
      record {
        rows =
            λ n x there.
            let g : R n x = h.rows n x there in (
              (g.0).0,
              by_test (nat_eq b n) (λ q. here x (ap (λ (m : ℕ). at v.scopes m) (eqb-true b n q) ∙ there)) (λ q. (g.0).1 q),
            );
        cells = h.cells;
        drawn = h.drawn;
      }

  still : (v : State K) → Fine v → IsOf v b c
  still v h = λ y there. (h.rows b y there).1 (eq_same b)

  ended_so : (v : State K) (work : List (Item K)) → Fine v → ((o : Option (Tree K)) → ShowsKids c o) → Works law.may a.root given tiers bound work → T (Done v work)
  ended_so v work h any items = (
    all_good v h (λ y there. subst (λ (d : VComponent K). ShowsKids d y.main_side.output) (sym (still v h y there)) (any y.main_side.output)),
    items,
    still v h,
  )

  patched_at : (v : State K) (tree : Tree K) (y : Scope K) → at v.scopes b ≡ Some y → Fine v → Below (spots [] tree) → ShowsKids c (Some tree)
      → T (patched app v b MainSide tree (spots_of y.main_side.output) (spots [] tree) y.main_side y)
  patched_at v tree y there h safe shows =
      let old : List (Spot K) = spots_of y.main_side.output in
      let new : List (Spot K) = spots [] tree in
      let side : Side K = record { output = Some tree; numbers = kept_numbers new y.main_side.numbers; children = kept_children app old new y.main_side.children } in
      let z : Scope K = record y { main_side = side } in
      let u : State K = record v { scopes = put v.scopes b z } in
      let g : R b y = h.rows b y there in
      let stands : Stands k a given law tiers bound b y = (g.0).0 in
      let now : Stands k a given law tiers bound b z = stands_side k a given law tiers bound b y MainSide side (kids_kept tiers bound app old new (next_tier (tiers b) MainSide) y.main_side.children stands.main) stands in
      let fine : R b z = ((now, λ q. clash (eq_same b) q), λ q. g.1 (eq_same b)) in
      let after : Fine u = well_put (λ n x. R n x) (λ n o. law.cells (tiers o) n o) bound v b z fine h in (
        all_good u after
            (
            λ x here.
            let one : z ≡ x = one_scope z x (sym (at_put_here v.scopes b z b (eq_same b)) ∙ here) in
            subst (λ (s : Scope K). ShowsKids s.component s.main_side.output) one (subst (λ (d : VComponent K). ShowsKids d (Some tree)) (sym (g.1 (eq_same b))) shows)
            ),
        patch_works law.may a.root given tiers bound app b MainSide old tree y.main_side.children stands.low safe,
        still u after,
      )

  starts : (v : State K) (tree : Tree K) → Fine v → Below (spots [] tree) → ShowsKids c (Some tree) → T (start_agenda app v b MainSide tree)
  starts v tree h safe shows = on (at v.scopes b) refl
    where
      on : (o : Option (Scope K)) → at v.scopes b ≡ o
          → T (elim o as (λ z. Outcome K) [
            | None ↦ Done v []
            | Some x ↦ patched app v b MainSide tree (spots_of x.main_side.output) (spots [] tree) x.main_side x
          ])
      on None e = (all_good v h (λ y there. none_some e there), tt, still v h)
      on (Some y) e = patched_at v tree y e h safe shows

  outputs : (v : State K) (answer : Element K) → Answers law.may a.root given (tiers b) answer → AnswersKids c answer → Fine v → T (new_output app v b answer)
  outputs v (rendered tree) safe kids h = starts v tree h safe (shows_tree c tree kids)
  outputs v (failed e) safe kids h = absurd safe
  outputs v (suspended origin t) safe kids h =
      either_t (has_output v b) (Done v []) (start_agenda app v b MainSide placeholder_tree)
      (ended_so v [] h (λ o. shows_any c origin t o kids) tt)
      (starts v placeholder_tree h tt (shows_any c origin t (Some placeholder_tree) kids))

  answered : (v : State K) (answer : Element K) → Answers law.may a.root given (tiers b) answer → AnswersKids c answer → Fine v → T (after_answer app v b answer)
  answered v answer safe kids h =
      then_t (onward (settled_answer app v b answer) (λ u. after_hooks app u b)) (λ u. new_output app u b answer)
      (
      then_o k a given law (running_facts k a given law tiers bound b c) tiers bound (settled_answer app v b answer) (λ u. after_hooks app u b)
      (settled_fine k a given law (running_facts k a given law tiers bound b c) tiers bound v b (tiers b) answer safe h)
      (λ u g. after_fine k a given law (running_facts k a given law tiers bound b c) tiers bound u b g)
      )
      (λ u g. outputs u answer safe kids g)

  called : (w : State K) → IsTier law.may a.root given (tiers b) c → Fine w → T (call_body app w b c (λ v answer. after_answer app v b answer))
  called w is h =
      called_by k a given law (running_facts k a given law tiers bound b c) tiers bound (λ o. T o) (λ v f. tt) w b c (λ v answer. after_answer app v b answer) is h
      (λ v answer sound kids g. answered v answer sound kids g)

  turned : (w : State K) (steps : List RowStep) → MayStep (tiers b) → b < bound → ((o : Option (Tree K)) → ShowsKids c o) → Fine w → T (boundary_run app w b steps)
  turned w steps may low any h =
      let items : Works law.may a.root given tiers bound (row_items b steps) = rows_work K law.may a.root given tiers bound b steps may low in
      either_t (runs_fallback steps) (Done w (row_items b steps)) (onward (after_hooks app w b) (λ v. Done v (row_items b steps))) (ended_so w (row_items b steps) h any items)
      (
      then_t (after_hooks app w b) (λ v. Done v (row_items b steps)) (after_fine k a given law (running_facts k a given law tiers bound b c) tiers bound w b h)
      (λ v g. ended_so v (row_items b steps) g any items)
      )

  ran_as : (w : State K) (x : Scope K) (d : VComponent K) → c ≡ d → IsTier law.may a.root given (tiers b) c → b < bound → Fine w → T (run_as app w b x d)
  ran_as w x (SuspenseBoundary children fallback) same is low h =
      let may : MayStep (tiers b) = boundary_steps law.may a.root given (tiers b) children fallback (subst (λ (d : VComponent K). IsTier law.may a.root given (tiers b) d) same is) in
      turned w (row_of x.shows (is_held x)) may low (λ o. subst (λ (d : VComponent K). ShowsKids d o) (sym same) tt) h
  ran_as w x (Own component props) same is low h = subst (λ (d : VComponent K). T (call_body app w b d (λ v answer. after_answer app v b answer))) same (called w is h)
  ran_as w x (Root component props) same is low h = subst (λ (d : VComponent K). T (call_body app w b d (λ v answer. after_answer app v b answer))) same (called w is h)
  ran_as w x (Fragment children) same is low h = subst (λ (d : VComponent K). T (call_body app w b d (λ v answer. after_answer app v b answer))) same (called w is h)
  ran_as w x (ErrorBoundary children handler) same is low h = subst (λ (d : VComponent K). T (call_body app w b d (λ v answer. after_answer app v b answer))) same (called w is h)

  ran_from : (w : State K) (x : Scope K) → x.component ≡ c → Stands k a given law tiers bound b x → Fine w
      → T (onward (hooks_called app before_render_kind (unmarked w b) b x.hooks) (λ v. run_as app v b x x.component))
  ran_from w x same stands h =
      let facts = running_facts k a given law tiers bound b c in
      let is : IsTier law.may a.root given (tiers b) c = subst (λ (d : VComponent K). IsTier law.may a.root given (tiers b) d) same stands.is in
      then_t (hooks_called app before_render_kind (unmarked w b) b x.hooks) (λ v. run_as app v b x x.component)
      (hooks_fine k a given law facts tiers bound before_render_kind b x.hooks (unmarked w b) (same_fine k a given law facts tiers bound w (unmarked w b) refl refl refl h))
      (λ v g. ran_as v x x.component (sym same) is stands.low g)

module _ {K : Types} (k : Keeping K.Value) (a : Pages K) (given : K.Props) (law : Rules k a given) (tiers : ℕ → Tier) (bound : ℕ) where
  -- a run, where all but its own scope are as they have to be
  pub run_safe : (w : State K) (b : ℕ) (c : VComponent K) → All k a given law tiers bound (λ n x. But k a given law tiers bound b n x) w → IsOf w b c
      → RanO k a given law tiers bound b c (run (meaning_of_pages k a) w b)
  run_safe w b c h is = on (at w.scopes b) refl
    where
      on : (o : Option (Scope K)) → at w.scopes b ≡ o
          → RanO k a given law tiers bound b c (elim o as (λ z. Outcome K) [
            | None ↦ Done w []
            | Some x ↦
                onward (hooks_called (meaning_of_pages k a) before_render_kind (unmarked w b) b x.hooks) (λ v. run_as (meaning_of_pages k a) v b x x.component)
          ])
      on None e = (
        record {
          rows =
              λ n x there.
              let g : But k a given law tiers bound b n x = h.rows n x there in (
                g.0,
                by_test (nat_eq b n) (λ q. none_some e (ap (λ (m : ℕ). at w.scopes m) (eqb-true b n q) ∙ there)) (λ q. g.1 q),
              );
          cells = h.cells;
          drawn = h.drawn;
        },
        tt,
        is,
      )
      on (Some x) e =
          ran_from k a given law tiers bound b c w x (is x e) (h.rows b x e).0
          (record {
            rows = λ n y there. (h.rows n y there, λ q. is y (ap (λ (m : ℕ). at w.scopes m) (eqb-true b n q) ∙ there));
            cells = h.cells;
            drawn = h.drawn;
          })
