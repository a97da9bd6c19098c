-- The calls of a move number the cells and contexts that they make from the next ones on, and no counter falls.
use Rattle.std.proofs.Common.{ℕ, ◌+◌, ◌≤◌, Bool, true, false, List, [], ◌∷◌, ◌++◌, ◌≡◌, refl, sym, subst, arith}
use Rattle.std.specs.Prelude.{Option, Some, None, if◌then◌else◌, flat_map}
use Rattle.std.specs.List.{AllByRecursion}
use Rattle.rt_model.specs.Lists.{at}
use Rattle.rt_model.specs.Laws.{CountUp, IsNumbered, IsLawful, new_cell, new_context}
use Rattle.rt_model.specs.Tree.{Types, Place, Kind, VComponent, Own, Root, Fragment, ErrorBoundary, SuspenseBoundary, Element, rendered, failed, suspended}
use Rattle.rt_model.specs.World.{Elements, at_end, before_render_kind, after_render_kind, CallFault, Firsts, Event, Hook, HookValue, HookEffect, Command, NewCell, NewContext, World, Meaning, Nothing, Application}
use Rattle.rt_model.specs.State.{SideName, IdsExhausted, RowStep, PatchChildren, MadeChildren, RunFallback, ShowFallback, ShowChildren, DropFallback, Resolve, Scope, TaskRow, State, Item, Draw, Row, Feed, Make, Drop, Outcome, Done, Cut, is_live, change, is_held, hooks_of, effects_of, world_of}
use Rattle.rt_model.specs.Commands.{unqueued, commands}
use Rattle.rt_model.specs.Next.{at_rest}
use Rattle.rt_model.specs.Run.{with_next, called_once, called_where, is_own, answer_fits, kept_call, is_kind, unmarked, row_of, runs_fallback, body_of, acted, hook_called, hooks_called, settled_answer}
use Rattle.rt_model.specs.Boundary.{counts_render, counted_render}
use Rattle.rt_model.specs.Removal.{clean_ups, stopped}
use Rattle.rt_model.specs.Heard.{Listener}
use Rattle.rt_model.specs.Replay.{Entry, Build, Taken, Heard, Rerun, Poll, Effects, Made, Fed, Kept, Removed, Machine, waiting, draw_number, numbered, fed_child, keeps, with_new_scope, with_props, outcome_of, mounted_state, ended_by, poll_meant}
use Rattle.rt_model.specs.Causes.{Limits}
use Rattle.rt_model.specs.Lasting.{Rises}
use Rattle.rt_model.proofs.RunFrames.{numbered_rises, later_refl, LaterO, change_later, called_after, body_numbered, kept_same, acted_later, hooks_later, settled_later, counted_later, step_later}
use Rattle.rt_model.proofs.StepFrames.{Follows, follows_later, stopped_later}
use Rattle.rt_model.proofs.MachineFrames.{ended_later, numbered_later, mounted_later, rest_later, with_props_later, change_follows}
use Rattle.law_moves.specs.Moves.{Move, Silent, Closed, Logged, is_silent, Moves}
use Rattle.law_behavior.specs.Deeds.{Deed, deeds_on, deed_of, effect_deeds, hook_deeds, hooks_deeds, after_deeds, answered_deeds, body_deeds, failed_deeds, answer_deeds, run_as_deeds, run_deeds, callback_deeds, row_deeds, clean_deeds, removed_deeds, batch_deeds, poll_deeds, heard_deeds, first_deeds, item_deeds, work_deeds, entry_deeds, move_deeds}

-- next numbers from two bounds on
abbrev pub Above : ℕ → ℕ → Firsts → Type 0
Above cells contexts f = (cells ≤ f.cells) × (contexts ≤ f.contexts)

pub above_on : (cells contexts : ℕ) (f g : Firsts) → Rises f g → Above cells contexts f → Above cells contexts g
above_on cells contexts f g r a = (omega (arith, r.cells, a.0), omega (arith, r.contexts, a.1))

module _ {K : Types} (cells contexts : ℕ) where
  -- what a command makes has a number from its bound on
  abbrev pub NewFrom : Command K → Type 0
  NewFrom (NewCell n v) = cells ≤ n
  NewFrom (NewContext n target) = contexts ≤ n
  NewFrom _ = Unit {0}

  abbrev pub AllNew : List (Command K) → Type 0
  AllNew cs = AllByRecursion (λ (c : Command K). NewFrom c) cs

  abbrev pub AllOf : List (Deed K) → Type 0
  AllOf ds = AllByRecursion (λ (d : Deed K). AllNew d.wants) ds

  new_both : (cs ds : List (Command K)) → AllNew cs → AllNew ds → AllNew (cs ++ ds)
  new_both [] ds f g = g
  new_both (c ∷ cs) ds f g = (f.0, new_both cs ds f.1 g)

  all_both : (xs ys : List (Deed K)) → AllOf xs → AllOf ys → AllOf (xs ++ ys)
  all_both [] ys f g = g
  all_both (x ∷ xs) ys f g = (f.0, all_both xs ys f.1 g)

  counted_new : (a b c d : ℕ) (cs : List (Command K)) → cells ≤ a → contexts ≤ c → CountUp a (flat_map new_cell cs) b → CountUp c (flat_map new_context cs) d → AllNew cs
  counted_new a b c d [] l k g h = tt
  counted_new a b c d (NewCell n v ∷ cs) l k g h =
      let here : cells ≤ n = omega (arith, l, g.0) in
      let more : cells ≤ a + 1 = omega (arith, l) in
      (here, counted_new (a + 1) b c d cs more k g.1 h)
  counted_new a b c d (NewContext n target ∷ cs) l k g h =
      let here : contexts ≤ n = omega (arith, k, h.0) in
      let more : contexts ≤ c + 1 = omega (arith, k) in
      (here, counted_new a b (c + 1) d cs l more g h.1)
  counted_new a b c d (x ∷ cs) l k g h = (tt, counted_new a b c d cs l k g h)

  -- a call's are
  pub numbered_new : (f : Firsts) (cs : List (Command K)) (g : Firsts) → IsNumbered f cs g → Above cells contexts f → AllNew cs
  numbered_new f cs g n a = counted_new f.cells g.cells f.contexts g.contexts cs a.0 a.1 n.cells n.contexts

  module _ (app : Application K) (lawful : IsLawful K app) where
    then_new : (w : State K) (o : Outcome K) (g : State K → List (Deed K)) → LaterO w o → Above cells contexts w.next
        → ((v : State K) → Above cells contexts v.next → AllOf (g v))
        → AllOf (deeds_on o g)
    then_new w (Done v work) g l a go = go v (above_on cells contexts w.next v.next l.rises a)
    then_new w (Cut v fault) g l a go = tt

    deed_new : {A : Type 0} (w : State K) (s : ℕ) (polled : Option ℕ) (m : Meaning K A) → AllNew m.commands → AllOf (deed_of w s polled m)
    deed_new w s polled m h = by m.fault
      where
        by : (o : Option CallFault)
            → AllOf (elim o as (λ z. List (Deed K)) [ None ↦ record { state = w; scope = s; polled = polled; wants = m.commands } ∷ [] | Some f ↦ [] ])
        by None = (h, tt)
        by (Some f) = tt

    effect_new : (w : State K) (s : ℕ) (e : K.Effect) (rendering : Bool) → Above cells contexts w.next → AllOf (effect_deeds app w s e rendering)
    effect_new w s e rendering a =
        let m : Meaning K Nothing = app.effect e (world_of w s None rendering) in
        deed_new (with_next (called_once w) m.next) s None m
        (numbered_new w.next m.commands m.next (lawful.effects_number e (world_of w s None rendering)) a)

    hook_new : (w : State K) (s : ℕ) (h : Hook K) → Above cells contexts w.next → AllOf (hook_deeds app w s h)
    hook_new w s (HookValue k v) a = tt
    hook_new w s (HookEffect k e) a = effect_new w s e true a

    hook_later : (w : State K) (s : ℕ) (h : Hook K) → LaterO w (hook_called app w s h)
    hook_later w s (HookValue k v) = later_refl w
    hook_later w s (HookEffect k e) = acted_later app lawful w s e true

    hooks_new : (kind : ℕ) (w : State K) (s : ℕ) (hs : List (Hook K)) → Above cells contexts w.next → AllOf (hooks_deeds app kind w s hs)
    hooks_new kind w s [] a = tt
    hooks_new kind w s (h ∷ hs) a = by (is_kind kind h) (λ v c. hooks_new kind v s hs c)
      where
        by : (b : Bool)
            → ((v : State K) → Above cells contexts v.next → AllOf (hooks_deeds app kind v s hs))
            → AllOf (if b then hook_deeds app w s h ++ deeds_on (hook_called app w s h) (λ v. hooks_deeds app kind v s hs) else hooks_deeds app kind w s hs)
        by true go =
            all_both (hook_deeds app w s h) (deeds_on (hook_called app w s h) (λ v. hooks_deeds app kind v s hs)) (hook_new w s h a)
            (then_new w (hook_called app w s h) (λ v. hooks_deeds app kind v s hs) (hook_later w s h) a go)
        by false go = go w a

    after_new : (w : State K) (s : ℕ) → Above cells contexts w.next → AllOf (after_deeds app w s)
    after_new w s a = hooks_new after_render_kind w s (hooks_of w s) a

    answered_new : (w : State K) (s : ℕ) (world : World K) (then_on : State K → Element K → List (Deed K)) (m : Meaning K (Element K))
        → IsNumbered w.next m.commands m.next
        → Above cells contexts w.next
        → ((v : State K) (answer : Element K) → Above cells contexts v.next → AllOf (then_on v answer))
        → AllOf (answered_deeds app w s world then_on m)
    answered_new w s world then_on m n a go = by m.fault
      where
        v : State K
        v = commands app (kept_call w s world m) s None m.commands

        fits : (b : Bool)
            → AllOf (if b then record { state = kept_call w s world m; scope = s; polled = None; wants = m.commands } ∷ then_on v m.answer else [])
        fits true = (
          numbered_new w.next m.commands m.next n a,
          go v m.answer (above_on cells contexts w.next v.next (called_after app lawful w s None m (kept_call w s world m) n (kept_same app lawful w s world m)).rises a),
        )
        fits false = tt

        by : (o : Option CallFault)
            → AllOf (elim o as (λ z. List (Deed K)) [
              | Some f ↦ []
              | None ↦
                  if answer_fits m.answer
                  then record { state = kept_call w s world m; scope = s; polled = None; wants = m.commands } ∷ then_on v m.answer
                  else []
            ])
        by (Some f) = tt
        by None = fits (answer_fits m.answer)

    body_new : (w : State K) (s : ℕ) (c : VComponent K) (then_on : State K → Element K → List (Deed K)) → Above cells contexts w.next
        → ((v : State K) (answer : Element K) → Above cells contexts v.next → AllOf (then_on v answer))
        → AllOf (body_deeds app w s c then_on)
    body_new w s c then_on a go = own (is_own c (world_of w s None true))
      where
        world : World K
        world = world_of w s None true

        own : (b : Bool) → AllOf (answered_deeds app (called_where b w) s world then_on (body_of app c world))
        own true = answered_new (called_once w) s world then_on (body_of app c world) (body_numbered app lawful c world) a go
        own false = answered_new w s world then_on (body_of app c world) (body_numbered app lawful c world) a go

    failed_new : (w : State K) (s : ℕ) (answer : Element K) → AllOf (failed_deeds app w s answer)
    failed_new w s (rendered tree) = tt
    failed_new w s (failed e) = ((tt, tt), tt)
    failed_new w s (suspended origin t) = tt

    answer_new : (w : State K) (s : ℕ) (answer : Element K) → Above cells contexts w.next → AllOf (answer_deeds app w s answer)
    answer_new w s answer a =
        all_both (failed_deeds app w s answer) (deeds_on (settled_answer app w s answer) (λ v. after_deeds app v s)) (failed_new w s answer)
        (then_new w (settled_answer app w s answer) (λ v. after_deeds app v s) (settled_later app lawful w s answer) a (λ v b. after_new v s b))

    run_as_new : (w : State K) (s : ℕ) (x : Scope K) (c : VComponent K) → Above cells contexts w.next → AllOf (run_as_deeds app w s x c)
    run_as_new w s x (SuspenseBoundary children fallback) a = by (runs_fallback (row_of x.shows (is_held x)))
      where
        by : (b : Bool) → AllOf (if b then [] else after_deeds app w s)
        by true = tt
        by false = after_new w s a
    run_as_new w s x (Own component props) a =
        body_new w s (Own component props) (λ v answer. answer_deeds app v s answer) a (λ v answer b. answer_new v s answer b)
    run_as_new w s x (Root component props) a =
        body_new w s (Root component props) (λ v answer. answer_deeds app v s answer) a (λ v answer b. answer_new v s answer b)
    run_as_new w s x (Fragment children) a =
        body_new w s (Fragment children) (λ v answer. answer_deeds app v s answer) a (λ v answer b. answer_new v s answer b)
    run_as_new w s x (ErrorBoundary children handler) a =
        body_new w s (ErrorBoundary children handler) (λ v answer. answer_deeds app v s answer) a (λ v answer b. answer_new v s answer b)

    run_new : (w : State K) (s : ℕ) → Above cells contexts w.next → AllOf (run_deeds app w s)
    run_new w s a = by (at w.scopes s)
      where
        by : (o : Option (Scope K))
            → AllOf (elim o as (λ z. List (Deed K)) [
              | None ↦ []
              | Some x ↦
                  hooks_deeds app before_render_kind (unmarked w s) s x.hooks
                  ++ deeds_on (hooks_called app before_render_kind (unmarked w s) s x.hooks) (λ v. run_as_deeds app v s x x.component)
            ])
        by None = tt
        by (Some x) =
            all_both (hooks_deeds app before_render_kind (unmarked w s) s x.hooks)
            (deeds_on (hooks_called app before_render_kind (unmarked w s) s x.hooks) (λ v. run_as_deeds app v s x x.component))
            (hooks_new before_render_kind (unmarked w s) s x.hooks a)
            (then_new (unmarked w s) (hooks_called app before_render_kind (unmarked w s) s x.hooks) (λ v. run_as_deeds app v s x x.component)
            (hooks_later app lawful before_render_kind (unmarked w s) s x.hooks) a (λ v b. run_as_new v s x x.component b))

    callbacks_new : (w : State K) (es : List (ℕ × K.Effect)) → Above cells contexts w.next → AllOf (callback_deeds app w es)
    callbacks_new w [] a = tt
    callbacks_new w (e ∷ es) a = by (is_live w e.0) (λ v c. callbacks_new v es c)
      where
        by : (b : Bool)
            → ((v : State K) → Above cells contexts v.next → AllOf (callback_deeds app v es))
            → AllOf (if b then effect_deeds app w e.0 e.1 false ++ deeds_on (acted app w e.0 e.1 false) (λ v. callback_deeds app v es) else callback_deeds app w es)
        by true go =
            all_both (effect_deeds app w e.0 e.1 false) (deeds_on (acted app w e.0 e.1 false) (λ v. callback_deeds app v es)) (effect_new w e.0 e.1 false a)
            (then_new w (acted app w e.0 e.1 false) (λ v. callback_deeds app v es) (acted_later app lawful w e.0 e.1 false) a go)
        by false go = go w a

    row_new : (w : State K) (b : ℕ) (x : Scope K) (step : RowStep) → Above cells contexts w.next → AllOf (row_deeds app w b x step)
    row_new w b x RunFallback a =
        body_new w b x.component (λ v answer. deeds_on (counted_render app v b (counts_render x.component answer)) (λ u. after_deeds app u b)) a
        (
        λ v answer c.
        then_new v (counted_render app v b (counts_render x.component answer)) (λ u. after_deeds app u b)
        (counted_later app lawful v b (counts_render x.component answer)) c (λ u d. after_new u b d)
        )
    row_new w b x Resolve a =
        let u : State K = record w { resolved = w.resolved ++ b ∷ [] } in
        let v : State K = change u b (λ y. record y { callbacks = [] }) in
        callbacks_new v x.callbacks (above_on cells contexts u.next v.next (change_later u b (λ y. record y { callbacks = [] }) (λ y. refl)).rises a)
    row_new w b x PatchChildren a = tt
    row_new w b x MadeChildren a = tt
    row_new w b x ShowFallback a = tt
    row_new w b x ShowChildren a = tt
    row_new w b x DropFallback a = tt

    clean_new : (s : ℕ) (es : List K.Effect) (w : State K) (waiting_for : List (Command K)) → AllNew waiting_for → Above cells contexts w.next → AllOf (clean_deeds app s es w waiting_for)
    clean_new s [] w waiting_for h a = (h, tt)
    clean_new s (e ∷ es) w waiting_for h a = by m.fault (λ v cs f g. clean_new s es v cs f g)
      where
        m : Meaning K Nothing
        m = app.effect e (world_of w s None true)

        n : IsNumbered w.next m.commands m.next
        n = lawful.effects_number e (world_of w s None true)

        by : (o : Option CallFault)
            → ((v : State K) (cs : List (Command K)) → AllNew cs → Above cells contexts v.next → AllOf (clean_deeds app s es v cs))
            → AllOf (elim o as (λ z. List (Deed K)) [ None ↦ clean_deeds app s es (with_next (called_once w) m.next) (waiting_for ++ m.commands) | Some f ↦ [] ])
        by None go =
            go (with_next (called_once w) m.next) (waiting_for ++ m.commands)
            (new_both waiting_for m.commands h (numbered_new w.next m.commands m.next n a))
            (above_on cells contexts w.next m.next (numbered_rises w.next m.commands m.next n) a)
        by (Some f) go = tt

    removed_new : (w : State K) (s : ℕ) → Above cells contexts w.next → AllOf (removed_deeds app w s)
    removed_new w s a =
        let v : State K = stopped w s in
        clean_new s (clean_ups (hooks_of v s) []) v [] tt (above_on cells contexts w.next v.next (stopped_later w s).rises a)

    batch_new : (w : State K) (s : ℕ) (es : List K.Effect) → Above cells contexts w.next → AllOf (batch_deeds app w s es)
    batch_new w s [] a = tt
    batch_new w s (e ∷ es) a =
        all_both (effect_deeds app w s e false) (deeds_on (acted app w s e false) (λ v. batch_deeds app v s es)) (effect_new w s e false a)
        (then_new w (acted app w s e false) (λ v. batch_deeds app v s es) (acted_later app lawful w s e false) a (λ v b. batch_new v s es b))

    pub poll_new : (w : State K) (t : ℕ) (o : Option (TaskRow K)) → Above cells contexts w.next → AllOf (poll_deeds app w t o)
    poll_new w t None a = tt
    poll_new w t (Some x) a =
        deed_new _ x.scope (Some t) (poll_meant app w t x)
        (numbered_new w.next (poll_meant app w t x).commands (poll_meant app w t x).next (lawful.polls_number x.state (world_of w x.scope (Some t) false)) a)

    heard_new : (w : State K) (l : Listener K) (o : Option (Event K)) → Above cells contexts w.next → AllOf (heard_deeds app w l o)
    heard_new w l None a = tt
    heard_new w l (Some event) a =
        let m : Meaning K (Event K) = app.handle l.handler event (world_of w l.origin None false) in
        deed_new (with_next (called_once w) m.next) l.origin None m
        (numbered_new w.next m.commands m.next (lawful.handlers_number l.handler event (world_of w l.origin None false)) a)

    first_new : (m : Machine K) (ls : List (Listener K)) → Above cells contexts m.state.next → AllOf (first_deeds app m ls)
    first_new m [] a = tt
    first_new m (l ∷ ls) a = heard_new m.state l m.event a

    item_new : (w : State K) (item : Item K) → Above cells contexts w.next → AllOf (item_deeds app w item)
    item_new w (Draw s side p k) a = tt
    item_new w (Row b step) a = by (at w.scopes b)
      where
        by : (o : Option (Scope K)) → AllOf (elim o as (λ z. List (Deed K)) [ None ↦ [] | Some x ↦ row_deeds app w b x step ])
        by None = tt
        by (Some x) = row_new w b x step a
    item_new w (Feed s side p c) a = by (fed_child w s side p)
      where
        fed : (t : ℕ) (b : Bool) → AllOf (if b then [] else run_deeds app (with_props app w t c) t)
        fed t true = tt
        fed t false =
            run_new (with_props app w t c) t (above_on cells contexts w.next (with_props app w t c).next (with_props_later app lawful w t c).rises a)

        by : (o : Option ℕ)
            → AllOf (elim o as (λ z. List (Deed K)) [ None ↦ [] | Some t ↦ if keeps app w t c then [] else run_deeds app (with_props app w t c) t ])
        by None = tt
        by (Some t) = fed t (keeps app w t c)
    item_new w (Make s side p c) a = by (at w.scopes s)
      where
        made : (x : Scope K) (b : Bool) → AllOf (if b then [] else run_deeds app (with_new_scope w s side p c x) w.next_scope)
        made x true = tt
        made x false = run_new (with_new_scope w s side p c x) w.next_scope a

        by : (o : Option (Scope K))
            → AllOf (elim o as (λ z. List (Deed K)) [
              | None ↦ []
              | Some x ↦ if at_end w.next_scope then [] else run_deeds app (with_new_scope w s side p c x) w.next_scope
            ])
        by None = tt
        by (Some x) = made x (at_end w.next_scope)
    item_new w (Drop t s side) a = tt

    work_new : (w : State K) (work : List (Item K)) → Above cells contexts w.next → AllOf (work_deeds app w work)
    work_new w [] a = tt
    work_new w (item ∷ rest) a = item_new w item a

    rested_above : (w : State K) → Above cells contexts w.next → Above cells contexts (at_rest w).next
    rested_above w a = above_on cells contexts w.next (at_rest w).next (rest_later w).rises a

    entry_new : (m : Machine K) (e : Entry) → Above cells contexts m.state.next → AllOf (entry_deeds app m e)
    entry_new m Build a = run_new m.state 0 a
    entry_new m (Taken k) a = tt
    entry_new m (Heard s) a = first_new m (waiting m) a
    entry_new m (Rerun s) a = run_new (at_rest m.state) s (rested_above m.state a)
    entry_new m (Poll t) a = poll_new (unqueued (at_rest m.state) t) t (at (at_rest m.state).tasks t) (rested_above m.state a)
    entry_new m (Effects s) a =
        let w : State K = at_rest m.state in
        let v : State K = change w s (λ x. record x { effects = [] }) in
        batch_new v s (effects_of w s) (above_on cells contexts w.next v.next (change_later w s (λ x. record x { effects = [] }) (λ x. refl)).rises (rested_above m.state a))
    entry_new m (Made s) a = work_new m.state m.work a
    entry_new m (Fed s) a = work_new m.state m.work a
    entry_new m (Kept s) a = work_new m.state m.work a
    entry_new m (Removed s) a = removed_new m.state s a

    pub move_new : (m : Machine K) (move : Move) → Above cells contexts m.state.next → AllOf (move_deeds app m move)
    move_new m Silent a = work_new m.state m.work a
    move_new m Closed a = tt
    move_new m (Logged e) a = entry_new m e a

module _ {K : Types} (app : Application K) (lawful : IsLawful K app) where
  drawn_later : (w : State K) (s : ℕ) (side : SideName) (p : Place) (k : Kind) → LaterO w (draw_number w s side p k)
  drawn_later w s side p k = by (at_end w.next.elements)
    where
      by : (b : Bool) → LaterO w (if b then Cut w (IdsExhausted Elements) else Done (numbered w s side p k) [])
      by true = later_refl w
      by false = numbered_later w s side p k

  silent_later : (w : State K) (item : Item K) → is_silent item ≡ true → LaterO w (outcome_of app w item)
  silent_later w (Draw s side p k) h = drawn_later w s side p k
  silent_later w (Row b step) h = step_later app lawful w b step
  silent_later w (Feed s side p c) h = cc
  silent_later w (Make s side p c) h = cc
  silent_later w (Drop t s side) h = cc

  -- what is gone stays gone at a move, and no counter falls
  pub move_follows : (limits : Limits) (m u : Machine K) (move : Move) → Moves app limits m move u → Follows m.state u.state
  move_follows limits m u Silent step =
      subst (λ (x : Machine K). Follows m.state x.state) (sym step.gives)
      (follows_later m.state (ended_by m (Some step.item) step.later (outcome_of app m.state step.item)).state
      (ended_later m.state m (Some step.item) step.later (outcome_of app m.state step.item) (silent_later m.state step.item step.silent)))
  move_follows limits m u Closed step =
      subst (λ (x : Machine K). Follows m.state x.state) (sym step.gives) (follows_later m.state (mounted_state m.state) (mounted_later m.state))
  move_follows limits m u (Logged e) step =
      subst (λ (x : Machine K). Follows m.state x.state) (sym step.gives) (change_follows app lawful m m.work e)

  pub move_rises : (limits : Limits) (m u : Machine K) (move : Move) → Moves app limits m move u → Rises m.state.next u.state.next
  move_rises limits m u move step = (move_follows limits m u move step).rises
