-- What one run of a page's scope leaves: its last call was given the hooks that the scope has.
use Rattle.std.proofs.Common.{ℕ, ◌+◌, Bool, true, false, List, [], ◌∷◌, ◌≡◌, inr, refl, sym, ap, ◌∙◌, subst}
use Rattle.std.specs.Prelude.{Option, Some, None, if◌then◌else◌, length, map}
use Rattle.rt_model.specs.Lists.{at, put}
use Rattle.rt_model.specs.Tree.{Types, VComponent, Own, Tree, Element, rendered, spots}
use Rattle.rt_model.specs.World.{Renders, at_end, before_render_kind, after_render_kind, CallFault, Hook, HookValue, HookEffect, Command, World, Meaning, Application}
use Rattle.rt_model.specs.State.{MainSide, Scope, LastCall, State, Outcome, Done, Cut, IdsExhausted, BadNode, onward, side_of, change, hooks_of, renders_of, world_of}
use Rattle.rt_model.specs.Commands.{commands}
use Rattle.rt_model.specs.Replay.{with_props}
use Rattle.rt_model.specs.Run.{with_next, called_once, answer_fits, output_of, kept_call, is_kind, fault_of, raised, unmarked, spots_of, body_of, hook_called, hooks_called, after_hooks, call_body, patched, start_agenda, after_answer, run_as, run}
use Rattle.rt_model.proofs.Maps.{eq_same, at_put_here}
use Rattle.rt_model.proofs.Tour.{AllFresh}
use Rattle.law_behavior.specs.Deeds.{Deed, effect_deeds, run_deeds}
use Rattle.law_behavior.proofs.Frames.{Free, permits, Frame, Called}
use Rattle.law_behavior.proofs.Enduring.{Enduring, finely, kept_so}
use Rattle.law_behavior.proofs.Calling.{body_draws}
use Rattle.law_behavior.proofs.Commanded.{AllAllowed}
use Rattle.law_behavior.proofs.Lived.{AllGood, Ends, Leaves, changes, called, acted_on, run_on}
use Rattle.law_behavior.proofs.Steadfast.{Of, Other, Bears, from_zero, fresh_anyway, draw_anyway, of_again, of_change, of_endures, all_allowed}
use Rattle.author_programs.specs.Cells.{Keeping}
use Rattle.author_programs.specs.Pages.{Pages, meaning_of_pages}
use Rattle.author_programs.specs.Shows.{KeepAll, present}
use Rattle.author_programs.proofs.Shows.{shows-present-values}
use Rattle.law_reduce.proofs.Hooked.{Keeps, Given, Both, kept_longer, changes_calls, one_called, both_frame, both_called}

-- a fact that a frame carries, through hooks and what follows an answer
module _ {K : Types} (app : Application K) (P : State K → Type 0) (feedable removable : ℕ → Type 0) (law : Frame app P P 0 (permits Free Free feedable removable)) (bodies : Called app P 0) where
  pub freely : (w : State K) (r : ℕ) (polled : Option ℕ) (cs : List (Command K)) → AllFresh app 0 cs → Unit {0} → AllAllowed app P P 0 (permits Free Free feedable removable) law w r polled cs
  freely w r polled cs f g = all_allowed app P P 0 feedable removable law w r polled cs f

  abbrev Goods : List (Deed K) → Type 0
  Goods ds = AllGood app P P 0 (permits Free Free feedable removable) law (λ t. tt) bodies (λ w r polled cs. Unit {0}) (λ w r polled cs f g. freely w r polled cs f g) (draw_anyway app) ds

  all_good : (ds : List (Deed K)) → Goods ds
  all_good [] = tt
  all_good (d ∷ ds) = (tt, all_good ds)

  abbrev pub End : Outcome K → Type 0
  End o = Ends app P P 0 (permits Free Free feedable removable) law (λ t. tt) bodies (λ w r polled cs. Unit {0}) (λ w r polled cs f g. freely w r polled cs f g) (draw_anyway app) o

  -- what a run leaves
  abbrev pub Left : Outcome K → Type 0
  Left o = Leaves app P P 0 (permits Free Free feedable removable) law (λ t. tt) bodies (λ w r polled cs. Unit {0}) (λ w r polled cs f g. freely w r polled cs f g) (draw_anyway app) o

  pub run_ends : (w : State K) (s : ℕ) → P w → Left (run app w s)
  run_ends w s p =
      run_on app P P 0 (permits Free Free feedable removable) law (λ t. tt) bodies (λ v r polled cs. Unit {0}) (λ v r polled cs f g. freely v r polled cs f g) (draw_anyway app)
      w s (all_good (run_deeds app w s)) p

  either_end : (b : Bool) (x y : Outcome K) → End x → End y → End (if b then x else y)
  either_end true x y f g = f
  either_end false x y f g = g

  then_end : (o : Outcome K) (f : State K → Outcome K) → End o → ((v : State K) → P v → End (f v)) → End (onward o f)
  then_end (Done v work) f h g = g v h
  then_end (Cut v fault) f h g = h

  hook_ends : (w : State K) (s : ℕ) (h : Hook K) → P w → End (hook_called app w s h)
  hook_ends w s (HookValue kind v) p = p
  hook_ends w s (HookEffect kind e) p =
      acted_on app P P 0 (permits Free Free feedable removable) law (λ t. tt) bodies (λ v r polled cs. Unit {0}) (λ v r polled cs f g. freely v r polled cs f g) (draw_anyway app)
      w s e true (all_good (effect_deeds app w s e true)) p

  pub hooks_end : (kind s : ℕ) (hs : List (Hook K)) (w : State K) → P w → End (hooks_called app kind w s hs)
  hooks_end kind s [] w p = p
  hooks_end kind s (h ∷ hs) w p =
      either_end (is_kind kind h) (onward (hook_called app w s h) (λ v. hooks_called app kind v s hs)) (hooks_called app kind w s hs)
      (then_end (hook_called app w s h) (λ v. hooks_called app kind v s hs) (hook_ends w s h p) (λ v q. hooks_end kind s hs v q))
      (hooks_end kind s hs w p)

  pub commands_end : (w : State K) (s : ℕ) (cs : List (Command K)) → P w → P (commands app w s None cs)
  commands_end w s cs p =
      called app P P 0 (permits Free Free feedable removable) law (λ t. tt) bodies (λ v r polled ds. Unit {0}) (λ v r polled ds f g. freely v r polled ds f g) (draw_anyway app)
      w s None cs (fresh_anyway app cs) tt p

  raised_ends : (w : State K) (s : ℕ) → P w → End (raised w s)
  raised_ends w s p =
      either_end (at_end (renders_of w s)) (Cut w (IdsExhausted Renders)) (Done (change w s (λ x. record x { renders = x.renders + 1 })) []) p
      (
      changes app P P 0 (permits Free Free feedable removable) law (λ t. tt) bodies (λ v r polled cs. Unit {0}) (λ v r polled cs f g. freely v r polled cs f g) (draw_anyway app)
      w s (λ x. record x { renders = x.renders + 1 }) (λ x. refl) p
      )

  agenda_at : (w : State K) (s : ℕ) (tree : Tree K) (o : Option (Scope K)) → at w.scopes s ≡ o → P w
      → End (elim o as (λ z. Outcome K) [
        | None ↦ Done w []
        | Some x ↦ patched app w s MainSide tree (spots_of (side_of x MainSide).output) (spots [] tree) (side_of x MainSide) x
      ])
  agenda_at w s tree None e p = p
  agenda_at w s tree (Some x) e p = law.patches w s MainSide tree x e p

  -- a tree that was answered
  pub answer_ends : (w : State K) (s : ℕ) (tree : Tree K) → P w → End (after_answer app w s (rendered tree))
  answer_ends w s tree p =
      then_end (onward (raised w s) (λ v. after_hooks app v s)) (λ v. start_agenda app v s MainSide tree)
      (then_end (raised w s) (λ v. after_hooks app v s) (raised_ends w s p) (λ v q. hooks_end after_render_kind s (hooks_of v s) v q))
      (λ v q. agenda_at v s tree (at v.scopes s) refl q)

module _ {K : Types} (k : Keeping K.Value) (a : Pages K) (s : ℕ) (own : List ℕ) (c : K.Component) where
  abbrev app : Application K
  app = meaning_of_pages k a

  -- the scope is that page's, whatever its props, and its hooks keep the cells

  abbrev pub IsPage : Scope K → Type 0
  IsPage x = KeepAll k x.hooks 0 own × (q : K.Props) × (x.component ≡ Own c q)

  abbrev pub Page_is : State K → Type 0
  Page_is w = Of s IsPage w

  page_bears : Bears {K = K} s IsPage Free Free (λ t. Other s t)
  page_bears =
      record {
        same = λ x y same q. (subst (λ (hs : List (Hook K)). KeepAll k hs 0 own) (sym (same.but).hooks) q.0, q.1, (same.but).component ∙ q.2);
        hooks = λ x h q. (kept_longer k s own None [] x.hooks h 0 own q.0, q.1, q.2);
        joins = λ x t origin q. q;
        throws = λ x e none q. q;
        clears = λ x may q. q;
        feeds = λ x d may q. let absurdity : true ≡ false = sym (eq_same s) ∙ may in cc;
        ends = λ x t may q. q;
      }

  page_endures : Enduring {K = K} (λ w. Page_is w) 0 Free Free (λ t. Other s t) (λ t. Other s t)
  page_endures = of_endures s IsPage Free Free (λ t. Other s t) page_bears

  pub page_frame : Frame app (λ w. Page_is w) (λ w. Page_is w) 0 (permits Free Free (λ t. Other s t) (λ t. Other s t))
  page_frame = finely (λ w. Page_is w) 0 Free Free (λ t. Other s t) (λ t. Other s t) page_endures app

  pub page_called : Called app (λ w. Page_is w) 0
  page_called =
      kept_so (λ w. Page_is w) 0 Free Free (λ t. Other s t) (λ t. Other s t) page_endures app
      (of_again s IsPage (λ x y same q. (subst (λ (hs : List (Hook K)). KeepAll k hs 0 own) (sym same.hooks) q.0, q.1, same.component ∙ q.2)))

  -- its last call was given such hooks
  abbrev pub Told : State K → Type 0
  Told w = Both k s own None [] w

  -- where a change came to its end
  abbrev pub DoneSo : Outcome K → Type 0
  DoneSo (Done v work) = Told v
  DoneSo (Cut v fault) = Unit {0}

  abbrev Ended : Outcome K → Type 0
  Ended o = End app (λ w. Told w) Free (λ t. Other s t) (both_frame k s own None [] app) (both_called k s own None [] app) o

  done_so : (o : Outcome K) → Ended o → DoneSo o
  done_so (Done v work) h = h
  done_so (Cut v fault) h = tt

  -- the call itself
  called_anew : (w : State K) (q : K.Props) → Page_is w → Told (kept_call (called_once w) s (world_of w s None true) (body_of app (Own c q) (world_of w s None true)))
  called_anew w q h = ((one_called k s own None [] app).bodies w s (Own c q) (body_draws app 0 (draw_anyway app) (Own c q) (world_of w s None true) (from_zero w.next.tasks)).1 kept, given)
    where
      kept : Of s (Keeps k s own None []) w
      kept = record { row = h.row; there = h.there; holds = (h.holds).0 }

      given : Given k s own None [] (kept_call (called_once w) s (world_of w s None true) (body_of app (Own c q) (world_of w s None true)))
      given last e =
          let world : World K = world_of w s None true in
          let m : Meaning K (Element K) = body_of app (Own c q) world in
          let u : State K = called_once w in
          let n : State K = with_next u m.next in
          let call : LastCall K = record { given = world; aside = m.aside; answer = m.answer; before = output_of u s } in
          let same : (change n s (λ x. record x { reads = m.reads })).last_calls ≡ w.last_calls = changes_calls n s (λ x. record x { reads = m.reads }) (at n.scopes s) in
          let there : at (put w.last_calls s call) s ≡ Some last = ap (λ (es : List (ℕ × LastCall K)). at (put es s call) s) (sym same) ∙ e in
          let is : Some call ≡ Some last = sym (at_put_here w.last_calls s call s (eq_same s)) ∙ there in
          let this : call ≡ last = cc in
          let hooks : hooks_of w s ≡ (h.row).hooks =
          ap (λ (o : Option (Scope K)). elim o as (λ z. List (Hook K)) [ None ↦ [] | Some x ↦ x.hooks ]) h.there in
          inr (subst (λ (l : LastCall K). KeepAll k l.given.given.hooks 0 own) this (subst (λ (hs : List (Hook K)). KeepAll k hs 0 own) (sym hooks) (h.holds).0))

  module _ (same : (q : K.Props) → length (a.page c q).cells ≡ length own) where
    -- the body's call, and what follows it
    body_gives : (w : State K) (q : K.Props) → Page_is w → DoneSo (call_body app w s (Own c q) (λ v answer. after_answer app v s answer))
    body_gives w q h = by_fault m.fault
      where
        world : World K
        world = world_of w s None true

        m : Meaning K (Element K)
        m = body_of app (Own c q) world

        u : State K
        u = commands app (kept_call (called_once w) s world m) s None m.commands

        hooks : hooks_of w s ≡ (h.row).hooks
        hooks = ap (λ (o : Option (Scope K)). elim o as (λ z. List (Hook K)) [ None ↦ [] | Some x ↦ x.hooks ]) h.there

        kept : KeepAll k (hooks_of w s) 0 own
        kept = subst (λ (hs : List (Hook K)). KeepAll k hs 0 own) (sym hooks) (h.holds).0

        tree : Tree K
        tree = (a.page c q).shows world.given.scope own (map (present world) ((a.page c q).reads own))

        answer_is : m.answer ≡ rendered tree
        answer_is = shows-present-values K k (a.page c q) world own kept (same q)

        after : DoneSo (after_answer app u s m.answer)
        after =
            subst (λ (e : Element K). DoneSo (after_answer app u s e)) (sym answer_is)
            (done_so (after_answer app u s (rendered tree))
            (answer_ends app (λ v. Told v) Free (λ t. Other s t) (both_frame k s own None [] app) (both_called k s own None [] app) u s tree
            (commands_end app (λ v. Told v) Free (λ t. Other s t) (both_frame k s own None [] app) (both_called k s own None [] app) (kept_call (called_once w) s world m) s m.commands (called_anew w q h))))

        by_fit : (b : Bool) → DoneSo (if b then after_answer app u s m.answer else Cut (kept_call (called_once w) s world m) (BadNode s))
        by_fit true = after
        by_fit false = tt

        by_fault : (o : Option CallFault)
            → DoneSo (elim o as (λ z. Outcome K) [
              | Some f ↦ Cut (with_next (called_once w) m.next) (fault_of f)
              | None ↦ if answer_fits m.answer then after_answer app u s m.answer else Cut (kept_call (called_once w) s world m) (BadNode s)
            ])
        by_fault (Some f) = tt
        by_fault None = by_fit (answer_fits m.answer)

    -- a run
    pub run_gives : (w : State K) → Page_is w → DoneSo (run app w s)
    run_gives w h =
        subst (λ (o : Outcome K). DoneSo o)
        (sym (ap (λ (z : Option (Scope K)). elim z as (λ y. Outcome K) [
          | None ↦ Done w []
          | Some x ↦ onward (hooks_called app before_render_kind (unmarked w s) s x.hooks) (λ v. run_as app v s x x.component)
        ]) h.there))
        (on (hooks_called app before_render_kind (unmarked w s) s (h.row).hooks)
        (hooks_end app (λ v. Page_is v) (λ t. Other s t) (λ t. Other s t) page_frame page_called before_render_kind s (h.row).hooks (unmarked w s) (page_frame.unmarks w s h)))
      where
        as_page : (v : State K) → Page_is v → DoneSo (run_as app v s h.row (h.row).component)
        as_page v g = subst (λ (d : VComponent K). DoneSo (run_as app v s h.row d)) (sym (h.holds).2) (body_gives v (h.holds).1 g)

        on : (o : Outcome K) → End app (λ v. Page_is v) (λ t. Other s t) (λ t. Other s t) page_frame page_called o → DoneSo (onward o (λ v. run_as app v s h.row (h.row).component))
        on (Done v work) q = as_page v q
        on (Cut v fault) q = tt

  -- it stays that page's through a run, in the state that it leads to, and in the one at which a fault cut it
  abbrev pub StillSo : Outcome K → Type 0
  StillSo (Done v work) = Page_is v
  StillSo (Cut v fault) = Page_is v

  abbrev RunLeft : Outcome K → Type 0
  RunLeft o = Left app (λ w. Page_is w) (λ t. Other s t) (λ t. Other s t) page_frame page_called o

  still_so : (o : Outcome K) → RunLeft o → StillSo o
  still_so (Done v work) h = h
  still_so (Cut v fault) h = h

  pub run_leaves : (w : State K) → Page_is w → StillSo (run app w s)
  run_leaves w h = still_so (run app w s) (run_ends app (λ v. Page_is v) (λ t. Other s t) (λ t. Other s t) page_frame page_called w s h)

  -- and where it is handed another component of the page
  pub given_page : (w : State K) (t : ℕ) (d : VComponent K) (q : K.Props) → d ≡ Own c q → Page_is w → Page_is (with_props app w t d)
  given_page w t d q is h = of_change s IsPage w t (λ x. record x { component = d }) (λ x e g. (g.0, q, is)) h
