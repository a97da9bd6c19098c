-- What runs, removals, polls, effects and looks leave of marks and wakes.
use Rattle.std.proofs.Common.{ℕ, ◌+◌, Bool, true, false, List, [], ◌∷◌, ◌++◌, ◌≡◌, inl, inr, refl, sym, ap, ◌∙◌, nat_eq}
use Rattle.std.proofs.lemmas.Bool.{eqb-true}
use Rattle.std.specs.Prelude.{Option, Some, None, if◌then◌else◌, is_some}
use Rattle.rt_model.specs.Lists.{at, put, without, drop_number}
use Rattle.rt_model.specs.Tree.{Types, Tree, placeholder_tree, VComponent, Own, Root, Fragment, ErrorBoundary, SuspenseBoundary, Element, rendered, failed, suspended, Place, Kind, spots}
use Rattle.rt_model.specs.World.{Source, Error, Renders, Elements, Scopes, at_end, before_render_kind, after_render_kind, CallFault, Hook, HookValue, HookEffect, Command, World, Meaning, Nothing, TaskStep, pending, ready, Application}
use Rattle.rt_model.specs.State.{SideName, MainSide, ChildrenSide, FallbackSide, Mark, SuspendedTask, IdsExhausted, BadNode, RowStep, PatchChildren, MadeChildren, RunFallback, ShowFallback, ShowChildren, DropFallback, Resolve, Scope, TaskRow, State, Outcome, Done, Cut, onward, empty_side, side_of, with_side, is_live, change, location, is_held, holds, hooks_of, renders_of, world_of, effects_of}
use Rattle.rt_model.specs.Commands.{post, unqueued, end, tell, commands}
use Rattle.rt_model.specs.Next.{look}
use Rattle.rt_model.specs.Run.{fault_of, with_next, called_once, called_where, is_own, answer_fits, kept_call, is_kind, spots_of, raised, joins, suspends_on, unmarked, has_output, row_of, runs_fallback, row_items, body_of, acted, hook_called, hooks_called, after_hooks, call_body, patched, start_agenda, settled_answer, new_output, after_answer, boundary_run, run_as, run}
use Rattle.rt_model.specs.Boundary.{tree_or_placeholder, children_of, counts_render, counted_render, fallback_answered, called_back, row_step, boundary_step}
use Rattle.rt_model.specs.Removal.{tasks_in, cell_sources, cells_in, read_contexts, end_all, tell_all, clean_ups, without_scope, gone, stopped, cleaned_in, removed}
use Rattle.rt_model.specs.Replay.{numbered, draw_number, with_child, with_new_scope, made_in, made, with_props, left_by_poll, polled_to, polled_at, polled, batch_then, effects_run}
use Rattle.rt_model.proofs.Maps.{by_test, eq_same, at_without_here, at_without_none, at_append_none}
use Rattle.rt_model.proofs.Members.{clash}
use Rattle.law_behavior.proofs.Stays.{Stays, stays_refl, stays_then, stays_to, stays_if, quiet, put_stays, change_stays, post_stays, tell_stays, rest_stays, task_put, end_stays, unmarked_stays, unqueued_stays, throw_stays, commands_stay}
use Rattle.law_behavior.proofs.Looking.{StaysO, onward_stays, from_stays, stays_o_to, stays_o_if, next_stays, once_stays, look_stays}

module _ {K : Types} where
  -- answers

  raised_stays : (w : State K) (s : ℕ) → StaysO None None w (raised w s)
  raised_stays w s =
      stays_o_if None None w (Cut w (IdsExhausted Renders)) (Done (change w s (λ x. record x { renders = x.renders + 1 })) []) (at_end (renders_of w s))
      tt (change_stays w s (λ x. record x { renders = x.renders + 1 }))

  joined_stays : (w : State K) (origin t b : ℕ) (o : Option (Scope K)) → Stays None None w (elim o as (λ z. State K) [
    | None ↦ w
    | Some x ↦ if holds x t then w else post (change w b (λ y. record y { holders = y.holders ++ (t, origin) ∷ [] })) (Mark b)
  ])
  joined_stays w origin t b None = stays_refl None None w
  joined_stays w origin t b (Some x) =
      let v : State K = change w b (λ y. record y { holders = y.holders ++ (t, origin) ∷ [] }) in
      stays_if None None w w (post v (Mark b)) (holds x t) (stays_refl None None w)
      (stays_then None None w v (post v (Mark b)) (change_stays w b (λ y. record y { holders = y.holders ++ (t, origin) ∷ [] })) (post_stays v (Mark b)))

  joins_stay : (w : State K) (origin t : ℕ) (o : Option (ℕ × SideName)) → Stays None None w (joins w origin t o)
  joins_stay w origin t None = stays_refl None None w
  joins_stay w origin t (Some (b, MainSide)) = stays_refl None None w
  joins_stay w origin t (Some (b, FallbackSide)) = stays_refl None None w
  joins_stay w origin t (Some (b, ChildrenSide)) = joined_stays w origin t b (at w.scopes b)

  suspends_stay : (w : State K) (s origin t : ℕ) (o : Option (TaskRow K)) → at w.tasks t ≡ o → StaysO None None w (suspends_on w s origin t o)
  suspends_stay w s origin t None e = tt
  suspends_stay w s origin t (Some x) e =
      let row : TaskRow K = record x { kind = SuspendedTask } in
      let v : State K = record w { tasks = put w.tasks t row } in
      stays_then None None w v (joins v origin t (location w s))
      (task_put None w t row (λ p h. ap (λ (o : Option (TaskRow K)). elim o as (λ z. Bool) [ None ↦ false | Some y ↦ y.active ]) e ∙ h))
      (joins_stay v origin t (location w s))

  pub numbered_stays : (w : State K) (s : ℕ) (side : SideName) (p : Place) (k : Kind) → StaysO None None w (draw_number w s side p k)
  numbered_stays w s side p k =
      let v : State K = with_next w (record (w.next) { elements = w.next.elements + 1 }) in
      stays_o_if None None w (Cut w (IdsExhausted Elements)) (Done (numbered w s side p k) []) (at_end w.next.elements)
      tt
      (stays_then None None w v (numbered w s side p k) (next_stays w (record (w.next) { elements = w.next.elements + 1 })) (change_stays v s (λ x. with_side x side (record (side_of x side) { numbers = (side_of x side).numbers ++ (p, k, w.next.elements) ∷ [] }))))

  -- a removal's own scope is gone with its marks

  ends_stay : (ts : List ℕ) (w : State K) → Stays None None w (end_all w ts)
  ends_stay [] w = stays_refl None None w
  ends_stay (t ∷ ts) w = stays_then None None w (end w t) (end_all (end w t) ts) (end_stays w t) (ends_stay ts (end w t))

  tells_stay : (xs : List Source) (w : State K) → Stays None None w (tell_all w xs)
  tells_stay [] w = stays_refl None None w
  tells_stay (x ∷ xs) w = stays_then None None w (tell w x) (tell_all (tell w x) xs) (tell_stays w x) (tells_stay xs (tell w x))

  without_live : (w : State K) (s t : ℕ) → is_live (without_scope w s) t ≡ true → is_live w t ≡ true
  without_live w s t h = on (at w.scopes t) refl
    where
      on : (o : Option (Scope K)) → at w.scopes t ≡ o → is_some (at w.scopes t) ≡ true
      on (Some x) e = ap (λ (o : Option (Scope K)). is_some o) e
      on None e = clash h (ap (λ (o : Option (Scope K)). is_some o) (at_without_none w.scopes s t e))

  gone_stays : (w : State K) (s : ℕ) → Stays None None w (gone w s)
  gone_stays w s =
      let v : State K = without_scope w s in
      let u : State K = tell_all v (cell_sources (cells_in s w.cells)) in
      stays_then None None w v (gone w s) (quiet w v (λ t h. without_live w s t h) refl refl refl refl)
      (stays_then None None v u (gone w s) (tells_stay (cell_sources (cells_in s w.cells)) v) (tells_stay (Error s ∷ read_contexts u s) u))

  gone_dead : (w : State K) (s : ℕ) → is_live (gone w s) s ≡ true → ⊥
  gone_dead w s h =
      let v : State K = without_scope w s in
      let u : State K = tell_all v (cell_sources (cells_in s w.cells)) in
      let before : is_live v s ≡ true = (stays_then None None v u (gone w s) (tells_stay (cell_sources (cells_in s w.cells)) v) (tells_stay (Error s ∷ read_contexts u s) u)).comes s refl h in
      clash before (ap (λ (o : Option (Scope K)). is_some o) (at_without_here w.scopes s s (eq_same s)))

  stopped_stays : (w : State K) (s : ℕ) → Stays (Some s) None w (stopped w s)
  stopped_stays w s =
      let v : State K = end_all w (tasks_in s w.tasks) in
      stays_then (Some s) None w v (stopped w s) (stays_to (Some s) None w v (ends_stay (tasks_in s w.tasks) w))
      (stays_then (Some s) None v (unmarked v s) (stopped w s) (unmarked_stays v s)
      (stays_to (Some s) None (unmarked v s) (stopped w s) (change_stays (unmarked v s) s (λ x. record x { effects = [] }))))

module _ {K : Types} (app : Application K) where
  settled_stays : (w : State K) (s : ℕ) (answer : Element K) → StaysO None None w (settled_answer app w s answer)
  settled_stays w s (rendered tree) = raised_stays w s
  settled_stays w s (failed e) = throw_stays w s e
  settled_stays w s (suspended origin t) = suspends_stay w s origin t (at w.tasks t) refl

  -- effects, hooks and callbacks

  acted_at : (w : State K) (s : ℕ) (m : Meaning K Nothing) (o : Option CallFault)
      → StaysO None None w (elim o as (λ z. Outcome K) [ None ↦ Done (commands app (with_next w m.next) s None m.commands) [] | Some f ↦ Cut (with_next w m.next) (fault_of f) ])
  acted_at w s m None =
      stays_then None None w (with_next w m.next) (commands app (with_next w m.next) s None m.commands) (next_stays w m.next) (commands_stay app (with_next w m.next) s None m.commands)
  acted_at w s m (Some f) = tt

  acted_stays : (w : State K) (s : ℕ) (e : K.Effect) (rendering : Bool) → StaysO None None w (acted app w s e rendering)
  acted_stays w s e rendering =
      let m : Meaning K Nothing = app.effect e (world_of (called_once w) s None rendering) in
      from_stays None None w (called_once w) (acted app w s e rendering) (once_stays w) (acted_at (called_once w) s m m.fault)

  hook_stays : (w : State K) (s : ℕ) (h : Hook K) → StaysO None None w (hook_called app w s h)
  hook_stays w s (HookValue k v) = stays_refl None None w
  hook_stays w s (HookEffect k e) = acted_stays w s e true

  hooks_stay : (kind : ℕ) (s : ℕ) (hs : List (Hook K)) (w : State K) → StaysO None None w (hooks_called app kind w s hs)
  hooks_stay kind s [] w = stays_refl None None w
  hooks_stay kind s (h ∷ hs) w =
      stays_o_if None None w (onward (hook_called app w s h) (λ v. hooks_called app kind v s hs)) (hooks_called app kind w s hs) (is_kind kind h)
      (onward_stays None None w (hook_called app w s h) (λ v. hooks_called app kind v s hs) (hook_stays w s h) (λ v. hooks_stay kind s hs v))
      (hooks_stay kind s hs w)

  after_stays : (w : State K) (s : ℕ) → StaysO None None w (after_hooks app w s)
  after_stays w s = hooks_stay after_render_kind s (hooks_of w s) w

  callbacks_stay : (es : List (ℕ × K.Effect)) (w : State K) → StaysO None None w (called_back app w es)
  callbacks_stay [] w = stays_refl None None w
  callbacks_stay (e ∷ es) w =
      stays_o_if None None w (onward (acted app w e.0 e.1 false) (λ v. called_back app v es)) (called_back app w es) (is_live w e.0)
      (onward_stays None None w (acted app w e.0 e.1 false) (λ v. called_back app v es) (acted_stays w e.0 e.1 false) (λ v. callbacks_stay es v))
      (callbacks_stay es w)

  -- bodies

  kept_stays : (w : State K) (s : ℕ) (world : World K) (m : Meaning K (Element K)) → Stays None None w (kept_call w s world m)
  kept_stays w s world m =
      let v : State K = change (with_next w m.next) s (λ x. record x { reads = m.reads }) in
      stays_then None None w (with_next w m.next) (kept_call w s world m) (next_stays w m.next)
      (stays_then None None (with_next w m.next) v (kept_call w s world m) (change_stays (with_next w m.next) s (λ x. record x { reads = m.reads })) (rest_stays v (kept_call w s world m) refl refl refl refl refl))

  answered_stays : (w : State K) (s : ℕ) (world : World K) (then_on : State K → Element K → Outcome K) (m : Meaning K (Element K))
      → ((v : State K) (answer : Element K) → StaysO None None v (then_on v answer))
      → (o : Option CallFault)
      → StaysO None None w (elim o as (λ z. Outcome K) [
        | Some f ↦ Cut (with_next w m.next) (fault_of f)
        | None ↦
            if answer_fits m.answer
            then then_on (commands app (kept_call w s world m) s None m.commands) m.answer
            else Cut (kept_call w s world m) (BadNode s)
      ])
  answered_stays w s world then_on m each (Some f) = tt
  answered_stays w s world then_on m each None =
      let v : State K = kept_call w s world m in
      let u : State K = commands app v s None m.commands in
      stays_o_if None None w (then_on u m.answer) (Cut v (BadNode s)) (answer_fits m.answer)
      (from_stays None None w u (then_on u m.answer) (stays_then None None w v u (kept_stays w s world m) (commands_stay app v s None m.commands)) (each u m.answer))
      tt

  where_stays : (b : Bool) (w : State K) → Stays None None w (called_where b w)
  where_stays true w = once_stays w
  where_stays false w = stays_refl None None w

  body_stays : (w : State K) (s : ℕ) (c : VComponent K) (then_on : State K → Element K → Outcome K) → ((v : State K) (answer : Element K) → StaysO None None v (then_on v answer)) → StaysO None None w (call_body app w s c then_on)
  body_stays w s c then_on each =
      let world : World K = world_of w s None true in
      let v : State K = called_where (is_own c world) w in
      let m : Meaning K (Element K) = body_of app c world in
      from_stays None None w v (call_body app w s c then_on) (where_stays (is_own c world) w) (answered_stays v s world then_on m each m.fault)

  agenda_stays : (w : State K) (s : ℕ) (side : SideName) (tree : Tree K) → StaysO None None w (start_agenda app w s side tree)
  agenda_stays w s side tree = on (at w.scopes s) refl
    where
      on : (o : Option (Scope K)) → at w.scopes s ≡ o → StaysO None None w (elim o as (λ z. Outcome K) [
        | None ↦ Done w []
        | Some x ↦ patched app w s side tree (spots_of (side_of x side).output) (spots [] tree) (side_of x side) x
      ])
      on None e = stays_refl None None w
      on (Some x) e = put_stays w s x _ e

  output_stays : (w : State K) (s : ℕ) (answer : Element K) → StaysO None None w (new_output app w s answer)
  output_stays w s (rendered tree) = agenda_stays w s MainSide tree
  output_stays w s (failed e) =
      stays_o_if None None w (Done w []) (start_agenda app w s MainSide placeholder_tree) (has_output w s) (stays_refl None None w) (agenda_stays w s MainSide placeholder_tree)
  output_stays w s (suspended origin t) =
      stays_o_if None None w (Done w []) (start_agenda app w s MainSide placeholder_tree) (has_output w s) (stays_refl None None w) (agenda_stays w s MainSide placeholder_tree)

  answer_stays : (w : State K) (s : ℕ) (answer : Element K) → StaysO None None w (after_answer app w s answer)
  answer_stays w s answer =
      onward_stays None None w (onward (settled_answer app w s answer) (λ v. after_hooks app v s)) (λ v. new_output app v s answer)
      (onward_stays None None w (settled_answer app w s answer) (λ v. after_hooks app v s) (settled_stays w s answer) (λ v. after_stays v s))
      (λ v. output_stays v s answer)

  boundary_stays : (w : State K) (b : ℕ) (steps : List RowStep) → StaysO None None w (boundary_run app w b steps)
  boundary_stays w b steps =
      stays_o_if None None w (Done w (row_items b steps)) (onward (after_hooks app w b) (λ v. Done v (row_items b steps))) (runs_fallback steps)
      (stays_refl None None w)
      (onward_stays None None w (after_hooks app w b) (λ v. Done v (row_items b steps)) (after_stays w b) (λ v. stays_refl None None v))

  run_as_stays : (w : State K) (s : ℕ) (x : Scope K) (c : VComponent K) → StaysO None None w (run_as app w s x c)
  run_as_stays w s x (SuspenseBoundary children fallback) = boundary_stays w s (row_of x.shows (is_held x))
  run_as_stays w s x (Own component props) = body_stays w s (Own component props) (λ v answer. after_answer app v s answer) (λ v answer. answer_stays v s answer)
  run_as_stays w s x (Root component props) = body_stays w s (Root component props) (λ v answer. after_answer app v s answer) (λ v answer. answer_stays v s answer)
  run_as_stays w s x (Fragment children) = body_stays w s (Fragment children) (λ v answer. after_answer app v s answer) (λ v answer. answer_stays v s answer)
  run_as_stays w s x (ErrorBoundary children handler) = body_stays w s (ErrorBoundary children handler) (λ v answer. after_answer app v s answer) (λ v answer. answer_stays v s answer)

  pub run_stays : (w : State K) (s : ℕ) → StaysO (Some s) None w (run app w s)
  run_stays w s = on (at w.scopes s)
    where
      on : (o : Option (Scope K)) → StaysO (Some s) None w (elim o as (λ z. Outcome K) [
        | None ↦ Done w []
        | Some x ↦ onward (hooks_called app before_render_kind (unmarked w s) s x.hooks) (λ v. run_as app v s x x.component)
      ])
      on None = stays_refl (Some s) None w
      on (Some x) =
          from_stays (Some s) None w (unmarked w s) (onward (hooks_called app before_render_kind (unmarked w s) s x.hooks) (λ v. run_as app v s x x.component)) (unmarked_stays w s)
          (stays_o_to (Some s) None (unmarked w s) (onward (hooks_called app before_render_kind (unmarked w s) s x.hooks) (λ v. run_as app v s x x.component))
          (onward_stays None None (unmarked w s) (hooks_called app before_render_kind (unmarked w s) s x.hooks) (λ v. run_as app v s x x.component) (hooks_stay before_render_kind s x.hooks (unmarked w s)) (λ v. run_as_stays v s x x.component)))

  counted_stays : (w : State K) (b : ℕ) (test : Bool) → StaysO None None w (counted_render app w b test)
  counted_stays w b true = raised_stays w b
  counted_stays w b false = stays_refl None None w

  fallback_stays : (w : State K) (b : ℕ) (c : VComponent K) (answer : Element K) → StaysO None None w (fallback_answered app w b c answer)
  fallback_stays w b c answer =
      onward_stays None None w (onward (counted_render app w b (counts_render c answer)) (λ v. after_hooks app v b)) (λ v. start_agenda app v b FallbackSide (tree_or_placeholder answer))
      (onward_stays None None w (counted_render app w b (counts_render c answer)) (λ v. after_hooks app v b) (counted_stays w b (counts_render c answer)) (λ v. after_stays v b))
      (λ v. agenda_stays v b FallbackSide (tree_or_placeholder answer))

  row_stays : (w : State K) (b : ℕ) (x : Scope K) (step : RowStep) → StaysO None None w (row_step app w b x step)
  row_stays w b x PatchChildren = agenda_stays w b ChildrenSide (children_of x.component)
  row_stays w b x MadeChildren = stays_refl None None w
  row_stays w b x RunFallback = body_stays w b x.component (λ v answer. fallback_answered app v b x.component answer) (λ v answer. fallback_stays v b x.component answer)
  row_stays w b x ShowFallback =
      let v : State K = record w { resolved = drop_number w.resolved b } in
      stays_then None None w v (change v b (λ y. record y { shows = Some FallbackSide })) (rest_stays w v refl refl refl refl refl) (change_stays v b (λ y. record y { shows = Some FallbackSide }))
  row_stays w b x ShowChildren =
      let v : State K = record w { last_calls = without w.last_calls b } in
      stays_then None None w v (change v b (λ y. record y { shows = Some ChildrenSide; reads = [] })) (rest_stays w v refl refl refl refl refl) (change_stays v b (λ y. record y { shows = Some ChildrenSide; reads = [] }))
  row_stays w b x DropFallback = change_stays w b (λ y. record y { fallback_side = empty_side })
  row_stays w b x Resolve =
      let v : State K = record w { resolved = w.resolved ++ b ∷ [] } in
      let u : State K = change v b (λ y. record y { callbacks = [] }) in
      from_stays None None w u (called_back app u x.callbacks)
      (stays_then None None w v u (rest_stays w v refl refl refl refl refl) (change_stays v b (λ y. record y { callbacks = [] })))
      (callbacks_stay x.callbacks u)

  pub step_stays : (w : State K) (b : ℕ) (step : RowStep) → StaysO None None w (boundary_step app w b step)
  step_stays w b step = on (at w.scopes b)
    where
      on : (o : Option (Scope K)) → StaysO None None w (elim o as (λ z. Outcome K) [ None ↦ Done w [] | Some x ↦ row_step app w b x step ])
      on None = stays_refl None None w
      on (Some x) = row_stays w b x step

  -- scopes that are made and handed on

  pub made_stays : (w : State K) (s : ℕ) (side : SideName) (p : Place) (c : VComponent K) → StaysO (Some w.next_scope) None w (made app w s side p c)
  made_stays w s side p c = on (at w.scopes s) refl
    where
      joined : (x : Scope K) → at w.scopes s ≡ Some x → Stays (Some w.next_scope) None w (with_new_scope w s side p c x)
      joined x e =
          let y : Scope K = with_child side p w.next_scope x in
          let v : State K = record w { scopes = put w.scopes s y } in
          let u : State K = with_new_scope w s side p c x in
          let same : (t : ℕ) → nat_eq w.next_scope t ≡ false → is_live u t ≡ is_live v t =
          λ t q. ap (λ (o : Option (Scope K)). is_some o) (at_append_none v.scopes w.next_scope _ t q) in
          stays_then (Some w.next_scope) None w v u (stays_to (Some w.next_scope) None w v (put_stays w s x y e))
          (record {
            comes = λ t q h. sym (same t q) ∙ h;
            runs = λ t q h live. elim (h (sym (same t q) ∙ live)) [ inl a ↦ inl a | inr a ↦ inr a ];
            polls = λ t q h active. elim (h active) [ inl a ↦ inl a | inr a ↦ inr a ];
          })

      on : (o : Option (Scope K)) → at w.scopes s ≡ o → StaysO (Some w.next_scope) None w (elim o as (λ z. Outcome K) [ None ↦ Done w [] | Some x ↦ made_in app w s side p c x ])
      on None e = stays_refl (Some w.next_scope) None w
      on (Some x) e =
          let u : State K = with_new_scope w s side p c x in
          stays_o_if (Some w.next_scope) None w (Cut w (IdsExhausted Scopes)) (run app u w.next_scope) (at_end w.next_scope) tt
          (from_stays (Some w.next_scope) None w u (run app u w.next_scope) (joined x e) (run_stays u w.next_scope))

  pub fed_stays : (w : State K) (t : ℕ) (c : VComponent K) → StaysO (Some t) None w (run app (with_props app w t c) t)
  fed_stays w t c =
      from_stays (Some t) None w (with_props app w t c) (run app (with_props app w t c) t) (stays_to (Some t) None w (with_props app w t c) (change_stays w t (λ x. record x { component = c }))) (run_stays (with_props app w t c) t)

  pub kept_child_stays : (w : State K) (t : ℕ) (c : VComponent K) → Stays None None w (with_props app w t c)
  kept_child_stays w t c = change_stays w t (λ x. record x { component = c })

  -- removals

  cleaned_stays : (rendering : Bool) (s : ℕ) (es : List K.Effect) (w u : State K) (waiting : List (Command K)) → Stays (Some s) None w u
      → StaysO None None w (cleaned_in app rendering s es u waiting)
  cleaned_stays rendering s [] w u waiting f =
      let v : State K = gone u s in
      let end_state : State K = commands app v s None waiting in
      let all : Stays (Some s) None w end_state =
      stays_then (Some s) None w u end_state f
      (stays_to (Some s) None u end_state (stays_then None None u v end_state (gone_stays u s) (commands_stay app v s None waiting))) in
      let dead : is_live end_state s ≡ true → ⊥ = λ h. gone_dead u s ((commands_stay app v s None waiting).comes s refl h) in
      record {
        comes = λ t p h. by_test (nat_eq s t) (λ q. absurd (dead (ap (λ (n : ℕ). is_live end_state n) (eqb-true s t q) ∙ h))) (λ q. all.comes t q h);
        runs = λ t p h live. by_test (nat_eq s t) (λ q. absurd (dead (ap (λ (n : ℕ). is_live end_state n) (eqb-true s t q) ∙ live))) (λ q. all.runs t q h live);
        polls = λ t p h. all.polls t refl h;
      }
  cleaned_stays rendering s (e ∷ es) w u waiting f =
      let v : State K = called_once u in
      let m : Meaning K Nothing = app.effect e (world_of v s None rendering) in
      on m (cleaned_stays rendering s es w (with_next v m.next) (waiting ++ m.commands)
      (stays_then (Some s) None w u (with_next v m.next) f (stays_to (Some s) None u (with_next v m.next) (stays_then None None u v (with_next v m.next) (once_stays u) (next_stays v m.next)))))
      m.fault
    where
      on : (m : Meaning K Nothing) → StaysO None None w (cleaned_in app rendering s es (with_next (called_once u) m.next) (waiting ++ m.commands)) → (o : Option CallFault)
          → StaysO None None w (elim o as (λ z. Outcome K) [
            | None ↦ cleaned_in app rendering s es (with_next (called_once u) m.next) (waiting ++ m.commands)
            | Some x ↦ Cut (with_next (called_once u) m.next) (fault_of x)
          ])
      on m go None = go
      on m go (Some x) = tt

  pub removed_stays : (w : State K) (s : ℕ) → StaysO None None w (removed app w s)
  removed_stays w s =
      let v : State K = stopped w s in
      cleaned_stays true s (clean_ups (hooks_of v s) []) w v [] (stopped_stays w s)

  -- polls and effects

  poll_left : (w : State K) (t : ℕ) (x : TaskRow K) (m : Meaning K (TaskStep K)) (step : TaskStep K) → Stays None (Some t) w (left_by_poll app w t x m step)
  poll_left w t x m (pending a) =
      let row : TaskRow K = record x { state = a } in
      let v : State K = record w { tasks = put w.tasks t row } in
      stays_then None (Some t) w v (commands app v x.scope (Some t) m.commands)
      (task_put (Some t) w t row (λ p h. clash (eq_same t) p))
      (stays_to None (Some t) v (commands app v x.scope (Some t) m.commands) (commands_stay app v x.scope (Some t) m.commands))
  poll_left w t x m ready =
      let v : State K = commands app w x.scope (Some t) m.commands in
      stays_to None (Some t) w (end v t) (stays_then None None w v (end v t) (commands_stay app w x.scope (Some t) m.commands) (end_stays v t))

  poll_by : (w : State K) (t : ℕ) (x : TaskRow K) (m : Meaning K (TaskStep K)) (o : Option CallFault)
      → StaysO None (Some t) w (elim o as (λ z. Outcome K) [ None ↦ Done (polled_to app (with_next w m.next) t x m m.answer) [] | Some f ↦ Cut (with_next w m.next) (fault_of f) ])
  poll_by w t x m None =
      let v : State K = with_next w m.next in
      let u : State K = left_by_poll app v t x m m.answer in
      stays_then None (Some t) w v (look u) (stays_to None (Some t) w v (next_stays w m.next))
      (stays_then None (Some t) v u (look u) (poll_left v t x m m.answer) (stays_to None (Some t) u (look u) (look_stays u)))
  poll_by w t x m (Some f) = tt

  pub polled_stays : (w : State K) (t : ℕ) → StaysO None (Some t) w (polled app w t)
  polled_stays w t = on (at w.tasks t)
    where
      on : (o : Option (TaskRow K)) → StaysO None (Some t) w (polled_at app (unqueued w t) t o)
      on None = unqueued_stays w t
      on (Some x) =
          let v : State K = unqueued w t in
          let m : Meaning K (TaskStep K) = app.poll x.state (world_of v x.scope (Some t) false) in
          from_stays None (Some t) w (called_once v) (polled_at app v t (Some x))
          (stays_then None (Some t) w v (called_once v) (unqueued_stays w t) (stays_to None (Some t) v (called_once v) (once_stays v)))
          (poll_by (called_once v) t x (app.poll x.state (world_of v x.scope (Some t) false)) m.fault)

  batch_stays : (s : ℕ) (es : List K.Effect) (w : State K) → StaysO None None w (batch_then app (λ v. look v) w s es)
  batch_stays s [] w = look_stays w
  batch_stays s (e ∷ es) w = onward_stays None None w (acted app w s e false) (λ v. batch_then app (λ u. look u) v s es) (acted_stays w s e false) (λ v. batch_stays s es v)

  pub effects_stay : (w : State K) (s : ℕ) → StaysO None None w (effects_run app w s)
  effects_stay w s =
      let v : State K = change w s (λ x. record x { effects = [] }) in
      from_stays None None w v (effects_run app w s) (change_stays w s (λ x. record x { effects = [] })) (batch_stays s (effects_of w s) v)
