-- Commands let no scope be seen, so a scope that is gone isn't.
use Rattle.std.proofs.Common.{ℕ, Bool, true, false, ◌&&◌, not, List, [], ◌∷◌, ◌++◌, ◌≡◌, refl, ap, ◌∙◌}
use Rattle.std.specs.Prelude.{Option, Some, None, if◌then◌else◌, is_some}
use Rattle.rt_model.specs.Lists.{at, put, without, has, drop_number}
use Rattle.rt_model.specs.Tree.{Types, CapturedError}
use Rattle.rt_model.specs.World.{Source, Cell, Error, Context, Target, ScopeTarget, TaskTarget, Command, KeepHook, NewCell, Write, DropCell, NewContext, Reset, ReadInto, Spawn, RemoveFuture, Wake, SetActive, QueueEffect, Provide, Update, Throw, ClearErrors, Resolved, Freeze, CallFault, Meaning, Nothing, Application}
use Rattle.rt_model.specs.State.{Mark, Woken, Posted, ClientOnly, Isomorphic, Scope, CellRow, ContextRow, TaskRow, State, Outcome, Cut, is_live, changed_scope, change, hooks_of, world_of, error_context, suspense_context}
use Rattle.rt_model.specs.Commands.{drop_posted, holding, released, one_more_source, post, post_target, names_source, readers, tell_contexts, tell, end, written_at, caught_at, thrown_to, cleared_at, activated, spawned, registered, frozen_at, provided_at, command, commands}
use Rattle.rt_model.specs.Run.{fault_of, with_next, called_once, unmarked}
use Rattle.rt_model.specs.Removal.{tasks_in, cell_sources, cells_in, read_contexts, end_all, tell_all, clean_ups, without_scope, gone, stopped, cleaned, removed}
use Rattle.rt_model.proofs.Members.{number_gone}
use Rattle.law_moves.proofs.Alone.{Then}

module _ {K : Types} where
  seen_if : (b : Bool) (x y w : State K) → x.seen ≡ w.seen → y.seen ≡ w.seen → (if b then x else y).seen ≡ w.seen
  seen_if true x y w f g = f
  seen_if false x y w f g = g

  post_seen : (w : State K) (p : Posted) → (post w p).seen ≡ w.seen
  post_seen w (Mark s) = seen_if (is_live w s) (record w { posted = w.posted ++ Mark s ∷ [] }) w w refl refl
  post_seen w (Woken t) = seen_if (is_some (at w.tasks t)) (record w { posted = w.posted ++ Woken t ∷ [] }) w w refl refl

  target_seen : (w : State K) (t : Target) → (post_target w t).seen ≡ w.seen
  target_seen w (ScopeTarget s) = post_seen w (Mark s)
  target_seen w (TaskTarget t) = post_seen w (Woken t)

  contexts_seen : (i : Source) (es : List (ℕ × ContextRow K)) (w : State K) → (tell_contexts i es w).seen ≡ w.seen
  contexts_seen i [] w = refl
  contexts_seen i (e ∷ es) w =
      contexts_seen i es (if names_source (e.1).sources i then post_target w (e.1).target else w)
      ∙ seen_if (names_source (e.1).sources i) (post_target w (e.1).target) w w (target_seen w (e.1).target) refl

  tell_seen : (w : State K) (i : Source) → (tell w i).seen ≡ w.seen
  tell_seen w i = contexts_seen i w.contexts (record w { posted = w.posted ++ readers i w.scopes })

  all_seen : (w : State K) (xs : List Source) → (tell_all w xs).seen ≡ w.seen
  all_seen w [] = refl
  all_seen w (x ∷ xs) = all_seen (tell w x) xs ∙ tell_seen w x

  changed_seen : (w : State K) (s : ℕ) (f : Scope K → Scope K) (o : Option (Scope K)) → (changed_scope w s f o).seen ≡ w.seen
  changed_seen w s f None = refl
  changed_seen w s f (Some x) = refl

  change_seen : (w : State K) (s : ℕ) (f : Scope K → Scope K) → (change w s f).seen ≡ w.seen
  change_seen w s f = changed_seen w s f (at w.scopes s)

  written_seen : (w : State K) (n : ℕ) (v : K.Value) (o : Option (CellRow K)) → (written_at w n v o).seen ≡ w.seen
  written_seen w n v None = refl
  written_seen w n v (Some old) = tell_seen (record w { cells = put w.cells n (record old { value = v }) }) (Cell n)

  caught_seen : (w : State K) (e : CapturedError) (b : ℕ) (o : Option CapturedError) → (caught_at w e b o).seen ≡ w.seen
  caught_seen w e b (Some old) = refl
  caught_seen w e b None = tell_seen (change w b (λ x. record x { error = Some e })) (Error b) ∙ change_seen w b (λ x. record x { error = Some e })

  thrown_at_seen : (w : State K) (e : CapturedError) (b : ℕ) (o : Option (Scope K)) → (elim o as (λ z. State K) [ None ↦ w | Some x ↦ caught_at w e b x.error ]).seen ≡ w.seen
  thrown_at_seen w e b None = refl
  thrown_at_seen w e b (Some x) = caught_seen w e b x.error

  thrown_seen : (w : State K) (e : CapturedError) (o : Option ℕ) → (thrown_to w e o).seen ≡ w.seen
  thrown_seen w e None = refl
  thrown_seen w e (Some b) = thrown_at_seen w e b (at w.scopes b)

  cleared_seen : (w : State K) (o : Option ℕ) → (cleared_at w o).seen ≡ w.seen
  cleared_seen w None = refl
  cleared_seen w (Some b) = tell_seen (change w b (λ x. record x { error = None })) (Error b) ∙ change_seen w b (λ x. record x { error = None })

  end_seen : (w : State K) (t : ℕ) → (end w t).seen ≡ w.seen
  end_seen w t = ended (is_some (at w.tasks t))
    where
      ended : (b : Bool) → (if b then record w { tasks = without w.tasks t; posted = drop_posted w.posted (Woken t) ++ holding w.scopes t; queued = drop_number w.queued t; scopes = released w.scopes t } else w).seen ≡ w.seen
      ended true = refl
      ended false = refl

  activated_seen : (w : State K) (t : ℕ) (active : Bool) (o : Option (TaskRow K)) → (activated w t active o).seen ≡ w.seen
  activated_seen w t active None = refl
  activated_seen w t active (Some x) =
      let v : State K = record w { tasks = put w.tasks t (record x { active = active }) } in
      seen_if (active && not x.active) (post v (Woken t)) v w (post_seen v (Woken t)) refl

  spawned_seen : (w : State K) (polled : Option ℕ) (scope t : ℕ) (a : K.TaskState) (isomorphic : Bool) → (spawned w polled scope t a isomorphic).seen ≡ w.seen
  spawned_seen w polled scope t a isomorphic =
      let v : State K = record w { tasks = w.tasks ++ (t, record { scope = scope; parent = polled; state = a; active = true; kind = if isomorphic then Isomorphic else ClientOnly }) ∷ [] } in
      seen_if (is_live w scope) (post v (Woken t)) w w (post_seen v (Woken t)) refl

  context_seen : (w : State K) (n : ℕ) (f : ContextRow K → ContextRow K) (o : Option (ContextRow K)) → (elim o as (λ z. State K) [ None ↦ w | Some x ↦ record w { contexts = put w.contexts n (f x) } ]).seen ≡ w.seen
  context_seen w n f None = refl
  context_seen w n f (Some x) = refl

  registered_seen : (w : State K) (s : ℕ) (e : K.Effect) (o : Option ℕ) → (registered w s e o).seen ≡ w.seen
  registered_seen w s e None = refl
  registered_seen w s e (Some b) = change_seen w b (λ x. record x { callbacks = x.callbacks ++ (s, e) ∷ [] })

  frozen_seen : (w : State K) (o : Option ℕ) → (frozen_at w o).seen ≡ w.seen
  frozen_seen w None = refl
  frozen_seen w (Some b) = change_seen w b (λ x. record x { frozen = true })

  ends_seen : (w : State K) (ts : List ℕ) → (end_all w ts).seen ≡ w.seen
  ends_seen w [] = refl
  ends_seen w (t ∷ ts) = ends_seen (end w t) ts ∙ end_seen w t

  gone_seen : (w : State K) (s : ℕ) → (gone w s).seen ≡ w.seen
  gone_seen w s =
      let v : State K = tell_all (without_scope w s) (cell_sources (cells_in s w.cells)) in
      all_seen v (Error s ∷ read_contexts v s) ∙ all_seen (without_scope w s) (cell_sources (cells_in s w.cells))

  stopped_unseen : (w : State K) (s : ℕ) → has (stopped w s).seen s ≡ false
  stopped_unseen w s =
      let u : State K = end_all w (tasks_in s w.tasks) in
      ap (λ (xs : List ℕ). has xs s) (change_seen (unmarked u s) s (λ x. record x { effects = [] })) ∙ number_gone u.seen s

module _ {K : Types} (app : Application K) where
  provided_seen : (w : State K) (s k : ℕ) (v : K.Value) (o : Option K.Value) → (provided_at app w s k v o).seen ≡ w.seen
  provided_seen w s k v None = tell_seen (change w s (λ x. record x { contexts = put x.contexts k v })) (Context k s) ∙ change_seen w s (λ x. record x { contexts = put x.contexts k v })
  provided_seen w s k v (Some old) =
      let u : State K = change w s (λ x. record x { contexts = put x.contexts k v }) in
      seen_if (app.same_value old v) u (tell u (Context k s)) w (change_seen w s (λ x. record x { contexts = put x.contexts k v }))
      (tell_seen u (Context k s) ∙ change_seen w s (λ x. record x { contexts = put x.contexts k v }))

  provide_seen : (w : State K) (s k : ℕ) (v : K.Value) (o : Option (Scope K)) → (elim o as (λ z. State K) [ None ↦ w | Some x ↦ provided_at app w s k v (at x.contexts k) ]).seen ≡ w.seen
  provide_seen w s k v None = refl
  provide_seen w s k v (Some x) = provided_seen w s k v (at x.contexts k)

  command_seen : (w : State K) (s : ℕ) (polled : Option ℕ) (c : Command K) → (command app w s polled c).seen ≡ w.seen
  command_seen w s polled (KeepHook h) = change_seen w s (λ x. record x { hooks = x.hooks ++ h ∷ [] })
  command_seen w s polled (NewCell n v) = seen_if (is_live w s) (record w { cells = w.cells ++ (n, record { owner = s; value = v }) ∷ [] }) w w refl refl
  command_seen w s polled (Write n v) = written_seen w n v (at w.cells n)
  command_seen w s polled (DropCell n) = seen_if (is_some (at w.cells n)) (tell (record w { cells = without w.cells n }) (Cell n)) w w (tell_seen (record w { cells = without w.cells n }) (Cell n)) refl
  command_seen w s polled (NewContext n target) = seen_if (is_live w s) (record w { contexts = w.contexts ++ (n, record { scope = s; target = target; sources = [] }) ∷ [] }) w w refl refl
  command_seen w s polled (Reset n) = context_seen w n (λ x. record x { sources = [] }) (at w.contexts n)
  command_seen w s polled (ReadInto n source) = context_seen w n (λ x. record x { sources = one_more_source x.sources source }) (at w.contexts n)
  command_seen w s polled (Spawn t a forever isomorphic) = spawned_seen w polled (if forever then 0 else s) t a isomorphic
  command_seen w s polled (RemoveFuture t) = end_seen w t
  command_seen w s polled (Wake t) = post_seen w (Woken t)
  command_seen w s polled (SetActive t active) = activated_seen w t active (at w.tasks t)
  command_seen w s polled (QueueEffect e) = change_seen w s (λ x. record x { effects = x.effects ++ e ∷ [] })
  command_seen w s polled (Provide root k v) = provide_seen w (if root then 0 else s) k v (at w.scopes (if root then 0 else s))
  command_seen w s polled (Update n) = post_seen w (Mark n)
  command_seen w s polled (Throw e) = thrown_seen w e (error_context w s)
  command_seen w s polled ClearErrors = cleared_seen w (error_context w s)
  command_seen w s polled (Resolved e) = registered_seen w s e (suspense_context w s)
  command_seen w s polled Freeze = frozen_seen w (suspense_context w s)

  commands_seen : (w : State K) (s : ℕ) (polled : Option ℕ) (cs : List (Command K)) → (commands app w s polled cs).seen ≡ w.seen
  commands_seen w s polled [] = refl
  commands_seen w s polled (c ∷ cs) = commands_seen (command app w s polled c) s polled cs ∙ command_seen w s polled c

  -- a scope isn't seen where the removal ends, as it wasn't before the clean-ups
  cleaned_at : (s : ℕ) (es : List K.Effect) (w : State K) (waiting : List (Command K)) (m : Meaning K Nothing) (o : Option CallFault)
      → Then (λ v work. has v.seen s ≡ false) (cleaned app s es (with_next w m.next) (waiting ++ m.commands))
      → Then (λ v work. has v.seen s ≡ false) (elim o as (λ z. Outcome K) [ None ↦ cleaned app s es (with_next w m.next) (waiting ++ m.commands) | Some f ↦ Cut (with_next w m.next) (fault_of f) ])
  cleaned_at s es w waiting m None h = h
  cleaned_at s es w waiting m (Some f) h = tt

  cleaned_unseen : (s : ℕ) (es : List K.Effect) (w : State K) (waiting : List (Command K)) → has w.seen s ≡ false → Then (λ v work. has v.seen s ≡ false) (cleaned app s es w waiting)
  cleaned_unseen s [] w waiting h = ap (λ (xs : List ℕ). has xs s) (commands_seen (gone w s) s None waiting ∙ gone_seen w s) ∙ h
  cleaned_unseen s (e ∷ es) w waiting h =
      let u : State K = called_once w in
      let m : Meaning K Nothing = app.effect e (world_of w s None true) in
      cleaned_at s es u waiting m m.fault (cleaned_unseen s es (with_next u m.next) (waiting ++ m.commands) h)

  pub removed_unseen : (w : State K) (s : ℕ) → Then (λ v work. has v.seen s ≡ false) (removed app w s)
  removed_unseen w s = let v : State K = stopped w s in cleaned_unseen s (clean_ups (hooks_of v s) []) v [] (stopped_unseen w s)
