-- Between looks no scope becomes seen: what is seen after a change is what was seen before, but for whom a run or a removal takes off.
use Rattle.std.proofs.Common.{ℕ, Bool, true, false, ◌&&◌, not, List, [], ◌∷◌, ◌++◌, ◌≡◌, ◌+◌, refl, sym, subst, ap, ◌∙◌}
use Rattle.std.specs.Prelude.{Option, Some, None, if◌then◌else◌, is_some}
use Rattle.rt_model.specs.Lists.{at, put, without, drop_number}
use Rattle.rt_model.specs.Tree.{Types, Tree, placeholder_tree, CapturedError, VComponent, Own, Root, Fragment, ErrorBoundary, SuspenseBoundary, Element, rendered, failed, suspended, spots}
use Rattle.rt_model.specs.World.{Renders, at_end, Source, Cell, Error, Context, Target, ScopeTarget, TaskTarget, Command, KeepHook, NewCell, Write, DropCell, NewContext, Reset, ReadInto, Spawn, RemoveFuture, Wake, SetActive, QueueEffect, Provide, Update, Throw, ClearErrors, Resolved, Freeze, CallFault, Hook, HookValue, HookEffect, World, Meaning, Nothing, before_render_kind, after_render_kind, Application}
use Rattle.rt_model.specs.State.{SideName, MainSide, ChildrenSide, FallbackSide, Mark, Woken, Posted, ClientOnly, Isomorphic, SuspendedTask, IdsExhausted, BadNode, RowStep, PatchChildren, MadeChildren, RunFallback, ShowFallback, ShowChildren, DropFallback, Resolve, Scope, CellRow, ContextRow, TaskRow, State, Outcome, Done, Cut, onward, is_live, is_held, holds, empty_side, side_of, location, renders_of, changed_scope, change, hooks_of, world_of, error_context, suspense_context}
use Rattle.rt_model.specs.Commands.{drop_posted, holding, released, one_more_source, post, post_target, names_source, readers, tell_contexts, tell, end, written_at, caught_at, thrown_to, cleared_at, activated, spawned, registered, frozen_at, provided_at, command, commands}
use Rattle.rt_model.specs.Run.{fault_of, with_next, called_once, called_where, is_own, answered_with, answer_fits, kept_call, body_of, call_body, unmarked, joins, suspends_on, raised, row_of, runs_fallback, row_items, is_kind, hook_called, hooks_called, after_hooks, acted, spots_of, patched, start_agenda, settled_answer, has_output, new_output, after_answer, boundary_run, run_as, run}
use Rattle.rt_model.specs.Boundary.{tree_or_placeholder, children_of, counts_render, counted_render, fallback_answered, called_back, row_step}
use Rattle.rt_model.specs.Removal.{tasks_in, cell_sources, cells_in, read_contexts, end_all, tell_all, clean_ups, without_scope, gone, stopped, cleaned, removed}

module _ {K : Types} where
  -- the same scopes are seen
  abbrev pub Unlooked : State K → State K → Type 0
  Unlooked w v = v.seen ≡ w.seen

  -- where a change isn't cut these scopes are seen
  abbrev pub Sees : List ℕ → Outcome K → Type 0
  Sees seen (Done v work) = v.seen ≡ seen
  Sees seen (Cut v fault) = Unit {0}

  either : (b : Bool) (w x y : State K) → Unlooked w x → Unlooked w y → Unlooked w (if b then x else y)
  either true w x y f g = f
  either false w x y f g = g

  sees_either : (seen : List ℕ) (b : Bool) (x y : Outcome K) → Sees seen x → Sees seen y → Sees seen (if b then x else y)
  sees_either seen true x y f g = f
  sees_either seen false x y f g = g

  sees_onward : (seen : List ℕ) (o : Outcome K) (f : State K → Outcome K) → Sees seen o → ((v : State K) → v.seen ≡ seen → Sees seen (f v)) → Sees seen (onward o f)
  sees_onward seen (Done v work) f h g = g v h
  sees_onward seen (Cut v fault) f h g = tt

  pub posts : (w : State K) (p : Posted) → Unlooked w (post w p)
  posts w (Mark s) = either (is_live w s) w (record w { posted = w.posted ++ Mark s ∷ [] }) w refl refl
  posts w (Woken t) = either (is_some (at w.tasks t)) w (record w { posted = w.posted ++ Woken t ∷ [] }) w refl refl

  targets : (w : State K) (t : Target) → Unlooked w (post_target w t)
  targets w (ScopeTarget s) = posts w (Mark s)
  targets w (TaskTarget t) = posts w (Woken t)

  context_tells : (i : Source) (es : List (ℕ × ContextRow K)) (w : State K) → Unlooked w (tell_contexts i es w)
  context_tells i [] w = refl
  context_tells i (e ∷ es) w =
      let b : Bool = names_source (e.1).sources i in
      let u : State K = post_target w (e.1).target in
      context_tells i es (if b then u else w) ∙ either b w u w (targets w (e.1).target) refl

  pub tells : (w : State K) (i : Source) → Unlooked w (tell w i)
  tells w i = context_tells i w.contexts (record w { posted = w.posted ++ readers i w.scopes })

  pub all_tell : (w : State K) (xs : List Source) → Unlooked w (tell_all w xs)
  all_tell w [] = refl
  all_tell w (x ∷ xs) = all_tell (tell w x) xs ∙ tells w x

  changed : (w : State K) (s : ℕ) (f : Scope K → Scope K) (o : Option (Scope K)) → Unlooked w (changed_scope w s f o)
  changed w s f None = refl
  changed w s f (Some x) = refl

  pub changes : (w : State K) (s : ℕ) (f : Scope K → Scope K) → Unlooked w (change w s f)
  changes w s f = changed w s f (at w.scopes s)

  change_tells : (w : State K) (s : ℕ) (f : Scope K → Scope K) (i : Source) → Unlooked w (tell (change w s f) i)
  change_tells w s f i = tells (change w s f) i ∙ changes w s f

  pub writes : (w : State K) (n : ℕ) (v : K.Value) (o : Option (CellRow K)) → Unlooked w (written_at w n v o)
  writes w n v None = refl
  writes w n v (Some old) = tells (record w { cells = put w.cells n (record old { value = v }) }) (Cell n)

  catches : (w : State K) (e : CapturedError) (b : ℕ) (o : Option CapturedError) → Unlooked w (caught_at w e b o)
  catches w e b (Some old) = refl
  catches w e b None = change_tells w b (λ x. record x { error = Some e }) (Error b)

  throws_at : (w : State K) (e : CapturedError) (b : ℕ) (o : Option (Scope K)) → Unlooked w (elim o as (λ z. State K) [ None ↦ w | Some x ↦ caught_at w e b x.error ])
  throws_at w e b None = refl
  throws_at w e b (Some x) = catches w e b x.error

  throws : (w : State K) (e : CapturedError) (o : Option ℕ) → Unlooked w (thrown_to w e o)
  throws w e None = refl
  throws w e (Some b) = throws_at w e b (at w.scopes b)

  clears : (w : State K) (o : Option ℕ) → Unlooked w (cleared_at w o)
  clears w None = refl
  clears w (Some b) = change_tells w b (λ x. record x { error = None }) (Error b)

  pub ends : (w : State K) (t : ℕ) → Unlooked w (end w t)
  ends w t =
      either (is_some (at w.tasks t)) w
      (record w { tasks = without w.tasks t; posted = drop_posted w.posted (Woken t) ++ holding w.scopes t; queued = drop_number w.queued t; scopes = released w.scopes t }) w refl refl

  activates : (w : State K) (t : ℕ) (active : Bool) (o : Option (TaskRow K)) → Unlooked w (activated w t active o)
  activates w t active None = refl
  activates w t active (Some x) =
      let v : State K = record w { tasks = put w.tasks t (record x { active = active }) } in
      either (active && not x.active) w (post v (Woken t)) v (posts v (Woken t)) refl

  spawns : (w : State K) (polled : Option ℕ) (scope t : ℕ) (a : K.TaskState) (isomorphic : Bool) → Unlooked w (spawned w polled scope t a isomorphic)
  spawns w polled scope t a isomorphic =
      let v : State K = record w { tasks = w.tasks ++ (t, record { scope = scope; parent = polled; state = a; active = true; kind = if isomorphic then Isomorphic else ClientOnly }) ∷ [] } in
      either (is_live w scope) w (post v (Woken t)) w (posts v (Woken t)) refl

  contexts_change : (w : State K) (n : ℕ) (f : ContextRow K → ContextRow K) (o : Option (ContextRow K)) → Unlooked w (elim o as (λ z. State K) [ None ↦ w | Some x ↦ record w { contexts = put w.contexts n (f x) } ])
  contexts_change w n f None = refl
  contexts_change w n f (Some x) = refl

  registers : (w : State K) (s : ℕ) (e : K.Effect) (o : Option ℕ) → Unlooked w (registered w s e o)
  registers w s e None = refl
  registers w s e (Some b) = changes w b (λ x. record x { callbacks = x.callbacks ++ (s, e) ∷ [] })

  freezes : (w : State K) (o : Option ℕ) → Unlooked w (frozen_at w o)
  freezes w None = refl
  freezes w (Some b) = changes w b (λ x. record x { frozen = true })

  all_end : (w : State K) (ts : List ℕ) → Unlooked w (end_all w ts)
  all_end w [] = refl
  all_end w (t ∷ ts) = all_end (end w t) ts ∙ ends w t

  goes : (w : State K) (s : ℕ) → Unlooked w (gone w s)
  goes w s =
      let u : State K = without_scope w s in
      let v : State K = tell_all u (cell_sources (cells_in s w.cells)) in
      all_tell v (Error s ∷ read_contexts v s) ∙ all_tell u (cell_sources (cells_in s w.cells))

  stops : (w : State K) (s : ℕ) → (stopped w s).seen ≡ drop_number w.seen s
  stops w s =
      let u : State K = end_all w (tasks_in s w.tasks) in
      changes (unmarked u s) s (λ x. record x { effects = [] }) ∙ ap (λ (xs : List ℕ). drop_number xs s) (all_end w (tasks_in s w.tasks))

  held : (w : State K) (origin t b : ℕ) (o : Option (Scope K)) → Unlooked w (elim o as (λ z. State K) [
    | None ↦ w
    | Some x ↦ if holds x t then w else post (change w b (λ y. record y { holders = y.holders ++ (t, origin) ∷ [] })) (Mark b)
  ])
  held w origin t b None = refl
  held w origin t b (Some x) =
      let u : State K = change w b (λ y. record y { holders = y.holders ++ (t, origin) ∷ [] }) in
      either (holds x t) w w (post u (Mark b)) refl (posts u (Mark b) ∙ changes w b (λ y. record y { holders = y.holders ++ (t, origin) ∷ [] }))

  joins_on : (w : State K) (origin t : ℕ) (o : Option (ℕ × SideName)) → Unlooked w (joins w origin t o)
  joins_on w origin t None = refl
  joins_on w origin t (Some (b, MainSide)) = refl
  joins_on w origin t (Some (b, FallbackSide)) = refl
  joins_on w origin t (Some (b, ChildrenSide)) = held w origin t b (at w.scopes b)

  suspends : (w : State K) (s origin t : ℕ) (o : Option (TaskRow K)) → Sees w.seen (suspends_on w s origin t o)
  suspends w s origin t None = tt
  suspends w s origin t (Some x) = joins_on (record w { tasks = put w.tasks t (record x { kind = SuspendedTask }) }) origin t (location w s)

  raises : (w : State K) (s : ℕ) → Sees w.seen (raised w s)
  raises w s =
      sees_either w.seen (at_end (renders_of w s)) (Cut w (IdsExhausted Renders)) (Done (change w s (λ x. record x { renders = x.renders + 1 })) [])
      tt (changes w s (λ x. record x { renders = x.renders + 1 }))

module _ {K : Types} (app : Application K) where
  provides : (w : State K) (s k : ℕ) (v : K.Value) (o : Option K.Value) → Unlooked w (provided_at app w s k v o)
  provides w s k v None = change_tells w s (λ x. record x { contexts = put x.contexts k v }) (Context k s)
  provides w s k v (Some old) =
      let u : State K = change w s (λ x. record x { contexts = put x.contexts k v }) in
      either (app.same_value old v) w u (tell u (Context k s)) (changes w s (λ x. record x { contexts = put x.contexts k v })) (change_tells w s (λ x. record x { contexts = put x.contexts k v }) (Context k s))

  provides_at : (w : State K) (s k : ℕ) (v : K.Value) (o : Option (Scope K)) → Unlooked w (elim o as (λ z. State K) [ None ↦ w | Some x ↦ provided_at app w s k v (at x.contexts k) ])
  provides_at w s k v None = refl
  provides_at w s k v (Some x) = provides w s k v (at x.contexts k)

  one_command : (w : State K) (s : ℕ) (polled : Option ℕ) (c : Command K) → Unlooked w (command app w s polled c)
  one_command w s polled (KeepHook h) = changes w s (λ x. record x { hooks = x.hooks ++ h ∷ [] })
  one_command w s polled (NewCell n v) = either (is_live w s) w (record w { cells = w.cells ++ (n, record { owner = s; value = v }) ∷ [] }) w refl refl
  one_command w s polled (Write n v) = writes w n v (at w.cells n)
  one_command w s polled (DropCell n) =
      let u : State K = record w { cells = without w.cells n } in
      either (is_some (at w.cells n)) w (tell u (Cell n)) w (tells u (Cell n)) refl
  one_command w s polled (NewContext n target) = either (is_live w s) w (record w { contexts = w.contexts ++ (n, record { scope = s; target = target; sources = [] }) ∷ [] }) w refl refl
  one_command w s polled (Reset n) = contexts_change w n (λ x. record x { sources = [] }) (at w.contexts n)
  one_command w s polled (ReadInto n source) = contexts_change w n (λ x. record x { sources = one_more_source x.sources source }) (at w.contexts n)
  one_command w s polled (Spawn t a forever isomorphic) = spawns w polled (if forever then 0 else s) t a isomorphic
  one_command w s polled (RemoveFuture t) = ends w t
  one_command w s polled (Wake t) = posts w (Woken t)
  one_command w s polled (SetActive t active) = activates w t active (at w.tasks t)
  one_command w s polled (QueueEffect e) = changes w s (λ x. record x { effects = x.effects ++ e ∷ [] })
  one_command w s polled (Provide root k v) = provides_at w (if root then 0 else s) k v (at w.scopes (if root then 0 else s))
  one_command w s polled (Update n) = posts w (Mark n)
  one_command w s polled (Throw e) = throws w e (error_context w s)
  one_command w s polled ClearErrors = clears w (error_context w s)
  one_command w s polled (Resolved e) = registers w s e (suspense_context w s)
  one_command w s polled Freeze = freezes w (suspense_context w s)

  pub all_commands : (w : State K) (s : ℕ) (polled : Option ℕ) (cs : List (Command K)) → Unlooked w (commands app w s polled cs)
  all_commands w s polled [] = refl
  all_commands w s polled (c ∷ cs) = all_commands (command app w s polled c) s polled cs ∙ one_command w s polled c

  acts_by : (w : State K) (s : ℕ) (m : Meaning K Nothing) (o : Option CallFault) → Sees w.seen (elim o as (λ z. Outcome K) [ None ↦ Done (commands app (with_next w m.next) s None m.commands) [] | Some f ↦ Cut (with_next w m.next) (fault_of f) ])
  acts_by w s m None = all_commands (with_next w m.next) s None m.commands
  acts_by w s m (Some f) = tt

  pub acts : (w : State K) (s : ℕ) (e : K.Effect) (rendering : Bool) → Sees w.seen (acted app w s e rendering)
  acts w s e rendering = let u : State K = called_once w in let m : Meaning K Nothing = app.effect e (world_of w s None rendering) in acts_by u s m m.fault

  hook : (seen : List ℕ) (w : State K) (s : ℕ) (h : Hook K) → w.seen ≡ seen → Sees seen (hook_called app w s h)
  hook seen w s (HookValue k v) e = e
  hook seen w s (HookEffect k f) e = subst (λ (xs : List ℕ). Sees xs (acted app w s f true)) e (acts w s f true)

  hooks : (seen : List ℕ) (kind : ℕ) (w : State K) (s : ℕ) (hs : List (Hook K)) → w.seen ≡ seen → Sees seen (hooks_called app kind w s hs)
  hooks seen kind w s [] e = e
  hooks seen kind w s (h ∷ hs) e =
      sees_either seen (is_kind kind h) (onward (hook_called app w s h) (λ v. hooks_called app kind v s hs)) (hooks_called app kind w s hs)
      (sees_onward seen (hook_called app w s h) (λ v. hooks_called app kind v s hs) (hook seen w s h e) (λ v f. hooks seen kind v s hs f))
      (hooks seen kind w s hs e)

  late_hooks : (seen : List ℕ) (w : State K) (s : ℕ) → w.seen ≡ seen → Sees seen (after_hooks app w s)
  late_hooks seen w s e = hooks seen after_render_kind w s (hooks_of w s) e

  agenda_at : (w : State K) (s : ℕ) (a : SideName) (tree : Tree K) (o : Option (Scope K))
      → Sees w.seen (elim o as (λ z. Outcome K) [ None ↦ Done w [] | Some x ↦ patched app w s a tree (spots_of (side_of x a).output) (spots [] tree) (side_of x a) x ])
  agenda_at w s a tree None = refl
  agenda_at w s a tree (Some x) = refl

  as_seen : (seen : List ℕ) (w : State K) (o : Outcome K) → w.seen ≡ seen → Sees w.seen o → Sees seen o
  as_seen seen w o e h = subst (λ (xs : List ℕ). Sees xs o) e h

  agenda : (seen : List ℕ) (w : State K) (s : ℕ) (a : SideName) (tree : Tree K) → w.seen ≡ seen → Sees seen (start_agenda app w s a tree)
  agenda seen w s a tree e = as_seen seen w (start_agenda app w s a tree) e (agenda_at w s a tree (at w.scopes s))

  settles : (w : State K) (s : ℕ) (answer : Element K) → Sees w.seen (settled_answer app w s answer)
  settles w s (rendered tree) = raises w s
  settles w s (failed e) = throws w e (error_context w s)
  settles w s (suspended origin t) = suspends w s origin t (at w.tasks t)

  outputs : (seen : List ℕ) (w : State K) (s : ℕ) (answer : Element K) → w.seen ≡ seen → Sees seen (new_output app w s answer)
  outputs seen w s (rendered tree) e = agenda seen w s MainSide tree e
  outputs seen w s (failed f) e = sees_either seen (has_output w s) (Done w []) (start_agenda app w s MainSide placeholder_tree) e (agenda seen w s MainSide placeholder_tree e)
  outputs seen w s (suspended origin t) e = sees_either seen (has_output w s) (Done w []) (start_agenda app w s MainSide placeholder_tree) e (agenda seen w s MainSide placeholder_tree e)

  answers : (seen : List ℕ) (w : State K) (s : ℕ) (answer : Element K) → w.seen ≡ seen → Sees seen (after_answer app w s answer)
  answers seen w s answer e =
      let first : Outcome K = onward (settled_answer app w s answer) (λ v. after_hooks app v s) in
      sees_onward seen first (λ v. new_output app v s answer)
      (sees_onward seen (settled_answer app w s answer) (λ v. after_hooks app v s) (as_seen seen w (settled_answer app w s answer) e (settles w s answer)) (λ v f. late_hooks seen v s f))
      (λ v f. outputs seen v s answer f)

  calls_fit : (seen : List ℕ) (w : State K) (s : ℕ) (world : World K) (then_on : State K → Element K → Outcome K) (m : Meaning K (Element K)) (b : Bool) → w.seen ≡ seen
      → ((v : State K) (a : Element K) → v.seen ≡ seen → Sees seen (then_on v a))
      → Sees seen (if b then then_on (commands app (kept_call w s world m) s None m.commands) m.answer else Cut (kept_call w s world m) (BadNode s))
  calls_fit seen w s world then_on m true e h =
      let u : State K = kept_call w s world m in
      h (commands app u s None m.commands) m.answer (all_commands u s None m.commands ∙ changes (with_next w m.next) s (λ x. record x { reads = m.reads }) ∙ e)
  calls_fit seen w s world then_on m false e h = tt

  calls_at : (seen : List ℕ) (w : State K) (s : ℕ) (world : World K) (then_on : State K → Element K → Outcome K) (m : Meaning K (Element K)) (o : Option CallFault) → w.seen ≡ seen
      → ((v : State K) (a : Element K) → v.seen ≡ seen → Sees seen (then_on v a))
      → Sees seen (elim o as (λ z. Outcome K) [
        | Some f ↦ Cut (with_next w m.next) (fault_of f)
        | None ↦ if answer_fits m.answer then then_on (commands app (kept_call w s world m) s None m.commands) m.answer else Cut (kept_call w s world m) (BadNode s)
      ])
  calls_at seen w s world then_on m (Some f) e h = tt
  calls_at seen w s world then_on m None e h = calls_fit seen w s world then_on m (answer_fits m.answer) e h

  calls_own : (seen : List ℕ) (w : State K) (s : ℕ) (world : World K) (then_on : State K → Element K → Outcome K) (m : Meaning K (Element K)) (own : Bool) → w.seen ≡ seen
      → ((v : State K) (a : Element K) → v.seen ≡ seen → Sees seen (then_on v a))
      → Sees seen (answered_with app (called_where own w) s world then_on m)
  calls_own seen w s world then_on m true e h = calls_at seen (called_once w) s world then_on m m.fault e h
  calls_own seen w s world then_on m false e h = calls_at seen w s world then_on m m.fault e h

  calls : (seen : List ℕ) (w : State K) (s : ℕ) (c : VComponent K) (then_on : State K → Element K → Outcome K) → w.seen ≡ seen
      → ((v : State K) (a : Element K) → v.seen ≡ seen → Sees seen (then_on v a))
      → Sees seen (call_body app w s c then_on)
  calls seen w s c then_on e h =
      let world : World K = world_of w s None true in
      calls_own seen w s world then_on (body_of app c world) (is_own c world) e h

  rows : (seen : List ℕ) (w : State K) (b : ℕ) (steps : List RowStep) → w.seen ≡ seen → Sees seen (boundary_run app w b steps)
  rows seen w b steps e =
      sees_either seen (runs_fallback steps) (Done w (row_items b steps)) (onward (after_hooks app w b) (λ v. Done v (row_items b steps))) e
      (sees_onward seen (after_hooks app w b) (λ v. Done v (row_items b steps)) (late_hooks seen w b e) (λ v f. f))

  runs_as : (seen : List ℕ) (w : State K) (s : ℕ) (x : Scope K) (c : VComponent K) → w.seen ≡ seen → Sees seen (run_as app w s x c)
  runs_as seen w s x (SuspenseBoundary children fallback) e = rows seen w s (row_of x.shows (is_held x)) e
  runs_as seen w s x (Own component props) e = calls seen w s (Own component props) (λ v a. after_answer app v s a) e (λ v a f. answers seen v s a f)
  runs_as seen w s x (Root component props) e = calls seen w s (Root component props) (λ v a. after_answer app v s a) e (λ v a f. answers seen v s a f)
  runs_as seen w s x (Fragment children) e = calls seen w s (Fragment children) (λ v a. after_answer app v s a) e (λ v a f. answers seen v s a f)
  runs_as seen w s x (ErrorBoundary children handler) e = calls seen w s (ErrorBoundary children handler) (λ v a. after_answer app v s a) e (λ v a f. answers seen v s a f)

  -- a run takes its scope off
  pub run_sees : (w : State K) (s : ℕ) (x : Scope K) → at w.scopes s ≡ Some x → Sees (drop_number w.seen s) (run app w s)
  run_sees w s x found =
      let seen : List ℕ = drop_number w.seen s in
      let o : Outcome K = hooks_called app before_render_kind (unmarked w s) s x.hooks in
      subst (λ (z : Option (Scope K)). Sees seen (elim z as (λ i. Outcome K) [
        | None ↦ Done w []
        | Some y ↦ onward (hooks_called app before_render_kind (unmarked w s) s y.hooks) (λ v. run_as app v s y y.component)
      ])) (sym found)
      (sees_onward seen o (λ v. run_as app v s x x.component) (hooks seen before_render_kind (unmarked w s) s x.hooks refl) (λ v f. runs_as seen v s x x.component f))

  counts : (w : State K) (b : ℕ) (c : Bool) → Sees w.seen (counted_render app w b c)
  counts w b true = raises w b
  counts w b false = refl

  fallback : (seen : List ℕ) (w : State K) (b : ℕ) (c : VComponent K) (a : Element K) → w.seen ≡ seen → Sees seen (fallback_answered app w b c a)
  fallback seen w b c a e =
      let first : Outcome K = onward (counted_render app w b (counts_render c a)) (λ v. after_hooks app v b) in
      sees_onward seen first (λ v. start_agenda app v b FallbackSide (tree_or_placeholder a))
      (sees_onward seen (counted_render app w b (counts_render c a)) (λ v. after_hooks app v b) (as_seen seen w (counted_render app w b (counts_render c a)) e (counts w b (counts_render c a))) (λ v f. late_hooks seen v b f))
      (λ v f. agenda seen v b FallbackSide (tree_or_placeholder a) f)

  callbacks : (seen : List ℕ) (w : State K) (es : List (ℕ × K.Effect)) → w.seen ≡ seen → Sees seen (called_back app w es)
  callbacks seen w [] e = e
  callbacks seen w (f ∷ es) e =
      let o : Outcome K = acted app w f.0 f.1 false in
      sees_either seen (is_live w f.0) (onward o (λ v. called_back app v es)) (called_back app w es)
      (sees_onward seen o (λ v. called_back app v es) (as_seen seen w o e (acts w f.0 f.1 false)) (λ v g. callbacks seen v es g))
      (callbacks seen w es e)

  -- a step of a boundary's run leaves who is seen
  pub row_sees : (w : State K) (b : ℕ) (x : Scope K) (step : RowStep) → Sees w.seen (row_step app w b x step)
  row_sees w b x PatchChildren = agenda w.seen w b ChildrenSide (children_of x.component) refl
  row_sees w b x MadeChildren = refl
  row_sees w b x RunFallback = calls w.seen w b x.component (λ v a. fallback_answered app v b x.component a) refl (λ v a e. fallback w.seen v b x.component a e)
  row_sees w b x ShowFallback = changes (record w { resolved = drop_number w.resolved b }) b (λ y. record y { shows = Some FallbackSide })
  row_sees w b x ShowChildren = changes (record w { last_calls = without w.last_calls b }) b (λ y. record y { shows = Some ChildrenSide; reads = [] })
  row_sees w b x DropFallback = changes w b (λ y. record y { fallback_side = empty_side })
  row_sees w b x Resolve =
      let u : State K = record w { resolved = w.resolved ++ b ∷ [] } in
      callbacks w.seen (change u b (λ y. record y { callbacks = [] })) x.callbacks (changes u b (λ y. record y { callbacks = [] }))

  cleans_at : (seen : List ℕ) (s : ℕ) (es : List K.Effect) (w : State K) (waiting : List (Command K)) (m : Meaning K Nothing) (o : Option CallFault)
      → Sees seen (cleaned app s es (with_next w m.next) (waiting ++ m.commands))
      → Sees seen (elim o as (λ z. Outcome K) [ None ↦ cleaned app s es (with_next w m.next) (waiting ++ m.commands) | Some f ↦ Cut (with_next w m.next) (fault_of f) ])
  cleans_at seen s es w waiting m None h = h
  cleans_at seen s es w waiting m (Some f) h = tt

  cleans : (seen : List ℕ) (s : ℕ) (es : List K.Effect) (w : State K) (waiting : List (Command K)) → w.seen ≡ seen → Sees seen (cleaned app s es w waiting)
  cleans seen s [] w waiting e = all_commands (gone w s) s None waiting ∙ goes w s ∙ e
  cleans seen s (f ∷ es) w waiting e =
      let u : State K = called_once w in
      let m : Meaning K Nothing = app.effect f (world_of w s None true) in
      cleans_at seen s es u waiting m m.fault (cleans seen s es (with_next u m.next) (waiting ++ m.commands) e)

  -- a removal takes its scope off
  pub removed_sees : (w : State K) (s : ℕ) → Sees (drop_number w.seen s) (removed app w s)
  removed_sees w s = let v : State K = stopped w s in cleans (drop_number w.seen s) s (clean_ups (hooks_of v s) []) v [] (stops w s)
