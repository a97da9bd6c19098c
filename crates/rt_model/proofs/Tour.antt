-- One tour of the commands of a call: what is seen of each scope stays, where it goes by nothing that commands change.
use Rattle.std.proofs.Common.{ℕ, Bool, true, false, List, [], ◌∷◌, ◌++◌, ◌≡◌, ◌≤◌, ◌<◌, ◌&&◌, not, refl, sym, ap, ◌∙◌, nat_eq, arith}
use Rattle.std.specs.Prelude.{Option, Some, None, if◌then◌else◌, is_some}
use Rattle.std.proofs.lemmas.Bool.{eqb-true}
use Rattle.rt_model.specs.Lists.{at, put, without, kept_by}
use Rattle.rt_model.specs.Tree.{Types, CapturedError}
use Rattle.rt_model.specs.World.{Source, Cell, Error, Context, Target, ScopeTarget, TaskTarget, Hook, Command, KeepHook, NewCell, Write, DropCell, NewContext, Reset, ReadInto, Spawn, RemoveFuture, Wake, SetActive, QueueEffect, Provide, Update, Throw, ClearErrors, Resolved, Freeze, Application}
use Rattle.rt_model.specs.State.{Posted, Mark, Woken, ClientOnly, Isomorphic, Scope, CellRow, ContextRow, TaskRow, State, is_live, changed_scope, change, error_context, suspense_context}
use Rattle.rt_model.specs.Commands.{post, post_target, names_source, readers, tell_contexts, tell, released, end, written_at, write_cell, drop_cell_row, caught_at, thrown_to, throw_error, cleared_at, activated, spawned, registered, frozen_at, change_context, provided_at, provide_context, command, commands}
use Rattle.rt_model.proofs.Maps.{by_test, at_here, at_there, at_put_other, at_put_here, at_without_none, at_append_none, at_put_none}

-- what is seen of a scope goes by none of what commands and calls change of it
pub record Steady {K : Types} {A : Type 0} (sees : Option (Scope K) → A) : Type 0 where
  pub hooks : (x : Scope K) (hs : List (Hook K)) → sees (Some (record x { hooks = hs })) ≡ sees (Some x)
  pub error : (x : Scope K) (e : Option CapturedError) → sees (Some (record x { error = e })) ≡ sees (Some x)
  pub contexts : (x : Scope K) (cs : List (ℕ × K.Value)) → sees (Some (record x { contexts = cs })) ≡ sees (Some x)
  pub effects : (x : Scope K) (es : List K.Effect) → sees (Some (record x { effects = es })) ≡ sees (Some x)
  pub callbacks : (x : Scope K) (es : List (ℕ × K.Effect)) → sees (Some (record x { callbacks = es })) ≡ sees (Some x)
  pub frozen : (x : Scope K) (b : Bool) → sees (Some (record x { frozen = b })) ≡ sees (Some x)
  pub holders : (x : Scope K) (hs : List (ℕ × ℕ)) → sees (Some (record x { holders = hs })) ≡ sees (Some x)
  pub renders : (x : Scope K) (n : ℕ) → sees (Some (record x { renders = n })) ≡ sees (Some x)
  pub reads : (x : Scope K) (ss : List Source) → sees (Some (record x { reads = ss })) ≡ sees (Some x)
  pub mounted : (x : Scope K) (b : Bool) → sees (Some (record x { mounted = b })) ≡ sees (Some x)

module _ {K : Types} (app : Application K) where
  -- the task that a command spawns has a number from the bound on
  abbrev pub IsFresh : ℕ → Command K → Type 0
  IsFresh b (Spawn t a forever isomorphic) = b ≤ t
  IsFresh b _ = Unit {0}

  abbrev pub AllFresh : ℕ → List (Command K) → Type 0
  AllFresh b [] = Unit {0}
  AllFresh b (c ∷ cs) = IsFresh b c × AllFresh b cs

  -- from 0 on every task is new
  pub all_fresh : (cs : List (Command K)) → AllFresh 0 cs
  all_fresh [] = tt
  all_fresh (Spawn t a forever isomorphic ∷ cs) = (omega arith, all_fresh cs)
  all_fresh (c ∷ cs) = (tt, all_fresh cs)

module _ {K : Types} {A : Type 0} (sees : Option (Scope K) → A) where
  -- in v each scope is seen as in w, and no task below the bound is there that w hasn't
  pub record Kept (b : ℕ) (w v : State K) : Type 0 where
    pub seen : (s : ℕ) → sees (at v.scopes s) ≡ sees (at w.scopes s)
    pub ended : (t : ℕ) → t < b → at w.tasks t ≡ None → at v.tasks t ≡ None
    pub next : v.next ≡ w.next
    pub next_scope : v.next_scope ≡ w.next_scope

  pub kept_refl : (b : ℕ) (w : State K) → Kept b w w
  kept_refl b w = record { seen = λ s. refl; ended = λ t l e. e; next = refl; next_scope = refl }

  pub kept_trans : (b : ℕ) (u v w : State K) → Kept b u v → Kept b v w → Kept b u w
  kept_trans b u v w p q =
      record {
        seen = λ s. q.seen s ∙ p.seen s;
        ended = λ t l e. q.ended t l (p.ended t l e);
        next = q.next ∙ p.next;
        next_scope = q.next_scope ∙ p.next_scope;
      }

  -- other parts of the state may change
  pub kept_rest : (b : ℕ) (w v : State K) → v.scopes ≡ w.scopes → v.tasks ≡ w.tasks → v.next ≡ w.next → v.next_scope ≡ w.next_scope → Kept b w v
  kept_rest b w v p q r s =
      record {
        seen = λ n. ap (λ (xs : List (ℕ × Scope K)). sees (at xs n)) p;
        ended = λ t l e. ap (λ (xs : List (ℕ × TaskRow K)). at xs t) q ∙ e;
        next = r;
        next_scope = s;
      }

  pub kept_either : (b : ℕ) (w x y : State K) (c : Bool) → Kept b w x → Kept b w y → Kept b w (if c then x else y)
  kept_either b w x y true p q = p
  kept_either b w x y false p q = q

  -- a scope's record may change where what is seen of it stays
  put_sees : (xs : List (ℕ × Scope K)) (s : ℕ) (x y : Scope K) → at xs s ≡ Some x → sees (Some y) ≡ sees (Some x) → (n : ℕ) → sees (at (put xs s y) n) ≡ sees (at xs n)
  put_sees xs s x y h same n =
      by_test (nat_eq s n)
      (
      λ q.
      ap (λ (o : Option (Scope K)). sees o) (at_put_here xs s y n q)
      ∙ same
      ∙ ap (λ (o : Option (Scope K)). sees o) (sym h ∙ ap (λ (k : ℕ). at xs k) (eqb-true s n q))
      )
      (λ q. ap (λ (o : Option (Scope K)). sees o) (at_put_other xs s y n q))

  pub with_put : (b : ℕ) (w : State K) (s : ℕ) (x y : Scope K) → at w.scopes s ≡ Some x → sees (Some y) ≡ sees (Some x) → Kept b w (record w { scopes = put w.scopes s y })
  with_put b w s x y h same = record { seen = put_sees w.scopes s x y h same; ended = λ t l e. e; next = refl; next_scope = refl }

  changed_kept : (b : ℕ) (w : State K) (s : ℕ) (f : Scope K → Scope K) (o : Option (Scope K)) → at w.scopes s ≡ o → ((x : Scope K) → sees (Some (f x)) ≡ sees (Some x)) → Kept b w (changed_scope w s f o)
  changed_kept b w s f None h same = kept_refl b w
  changed_kept b w s f (Some x) h same = with_put b w s x (f x) h (same x)

  pub change_kept : (b : ℕ) (w : State K) (s : ℕ) (f : Scope K → Scope K) → ((x : Scope K) → sees (Some (f x)) ≡ sees (Some x)) → Kept b w (change w s f)
  change_kept b w s f same = changed_kept b w s f (at w.scopes s) refl same

  pub post_kept : (b : ℕ) (w : State K) (p : Posted) → Kept b w (post w p)
  post_kept b w (Mark s) = kept_either b w _ w (is_live w s) (kept_rest b w _ refl refl refl refl) (kept_refl b w)
  post_kept b w (Woken t) = kept_either b w _ w (is_some (at w.tasks t)) (kept_rest b w _ refl refl refl refl) (kept_refl b w)

  target_kept : (b : ℕ) (w : State K) (t : Target) → Kept b w (post_target w t)
  target_kept b w (ScopeTarget s) = post_kept b w (Mark s)
  target_kept b w (TaskTarget t) = post_kept b w (Woken t)

  tell_contexts_kept : (b : ℕ) (x : Source) (es : List (ℕ × ContextRow K)) (w : State K) → Kept b w (tell_contexts x es w)
  tell_contexts_kept b x [] w = kept_refl b w
  tell_contexts_kept b x (e ∷ es) w =
      let v = if names_source (e.1).sources x then post_target w (e.1).target else w in
      kept_trans b w v _ (kept_either b w _ w (names_source (e.1).sources x) (target_kept b w (e.1).target) (kept_refl b w)) (tell_contexts_kept b x es v)

  pub tell_kept : (b : ℕ) (w : State K) (x : Source) → Kept b w (tell w x)
  tell_kept b w x =
      let v = record w { posted = w.posted ++ readers x w.scopes } in
      kept_trans b w v _ (kept_rest b w v refl refl refl refl) (tell_contexts_kept b x w.contexts v)

  -- a change and then its readers are told
  told_after : (b : ℕ) (w v : State K) (x : Source) → Kept b w v → Kept b w (tell v x)
  told_after b w v x h = kept_trans b w v _ h (tell_kept b v x)

  module _ (steady : Steady sees) where
    released_sees : (es : List (ℕ × Scope K)) (t s : ℕ) → sees (at (released es t) s) ≡ sees (at es s)
    released_sees [] t s = refl
    released_sees (e ∷ es) t s =
        by_test (nat_eq e.0 s)
        (
        λ q.
        ap (λ (o : Option (Scope K)). sees o) (at_here e.0 (record (e.1) { holders = kept_by (λ h. not (nat_eq h.0 t)) (e.1).holders }) (released es t) s q)
        ∙ steady.holders (e.1) (kept_by (λ h. not (nat_eq h.0 t)) (e.1).holders)
        ∙ sym (ap (λ (o : Option (Scope K)). sees o) (at_here e.0 e.1 es s q))
        )
        (
        λ q.
        ap (λ (o : Option (Scope K)). sees o) (at_there e.0 (record (e.1) { holders = kept_by (λ h. not (nat_eq h.0 t)) (e.1).holders }) (released es t) s q)
        ∙ released_sees es t s
        ∙ sym (ap (λ (o : Option (Scope K)). sees o) (at_there e.0 e.1 es s q))
        )

    pub end_kept : (b : ℕ) (w : State K) (t : ℕ) → Kept b w (end w t)
    end_kept b w t =
        kept_either b w _ w (is_some (at w.tasks t))
        (record {
          seen = λ s. released_sees w.scopes t s;
          ended = λ u l e. at_without_none w.tasks t u e;
          next = refl;
          next_scope = refl;
        })
        (kept_refl b w)

    written_kept : (b : ℕ) (w : State K) (n : ℕ) (v : K.Value) (o : Option (CellRow K)) → Kept b w (written_at w n v o)
    written_kept b w n v None = kept_refl b w
    written_kept b w n v (Some old) =
        let u : State K = record w { cells = put w.cells n (record old { value = v }) } in
        told_after b w u (Cell n) (kept_rest b w u refl refl refl refl)

    pub write_kept : (b : ℕ) (w : State K) (n : ℕ) (v : K.Value) → Kept b w (write_cell w n v)
    write_kept b w n v = written_kept b w n v (at w.cells n)

    drop_kept : (b : ℕ) (w : State K) (n : ℕ) → Kept b w (drop_cell_row w n)
    drop_kept b w n =
        let u : State K = record w { cells = without w.cells n } in
        kept_either b w (tell u (Cell n)) w (is_some (at w.cells n)) (told_after b w u (Cell n) (kept_rest b w u refl refl refl refl)) (kept_refl b w)

    caught_kept : (b : ℕ) (w : State K) (e : CapturedError) (s : ℕ) (o : Option CapturedError) → Kept b w (caught_at w e s o)
    caught_kept b w e s None = told_after b w (change w s (λ x. record x { error = Some e })) (Error s) (change_kept b w s (λ x. record x { error = Some e }) (λ x. steady.error x (Some e)))
    caught_kept b w e s (Some old) = kept_refl b w

    thrown_at_kept : (b : ℕ) (w : State K) (e : CapturedError) (s : ℕ) (o : Option (Scope K)) → Kept b w (elim o [ None ↦ w | Some x ↦ caught_at w e s x.error ])
    thrown_at_kept b w e s None = kept_refl b w
    thrown_at_kept b w e s (Some x) = caught_kept b w e s x.error

    thrown_kept : (b : ℕ) (w : State K) (e : CapturedError) (o : Option ℕ) → Kept b w (thrown_to w e o)
    thrown_kept b w e None = kept_refl b w
    thrown_kept b w e (Some s) = thrown_at_kept b w e s (at w.scopes s)

    pub throw_kept : (b : ℕ) (w : State K) (s : ℕ) (e : CapturedError) → Kept b w (throw_error w s e)
    throw_kept b w s e = thrown_kept b w e (error_context w s)

    cleared_kept : (b : ℕ) (w : State K) (o : Option ℕ) → Kept b w (cleared_at w o)
    cleared_kept b w None = kept_refl b w
    cleared_kept b w (Some s) = told_after b w (change w s (λ x. record x { error = None })) (Error s) (change_kept b w s (λ x. record x { error = None }) (λ x. steady.error x None))

    -- a task's row may change
    pub task_kept : (b : ℕ) (w : State K) (t : ℕ) (x y : TaskRow K) → at w.tasks t ≡ Some x → Kept b w (record w { tasks = put w.tasks t y })
    task_kept b w t x y h = record { seen = λ s. refl; ended = λ u l e. at_put_none w.tasks t y x u h e; next = refl; next_scope = refl }

    activated_kept : (b : ℕ) (w : State K) (t : ℕ) (active : Bool) (o : Option (TaskRow K)) → at w.tasks t ≡ o → Kept b w (activated w t active o)
    activated_kept b w t active None h = kept_refl b w
    activated_kept b w t active (Some x) h =
        let v = record w { tasks = put w.tasks t (record x { active = active }) } in
        let kept : Kept b w v = task_kept b w t x (record x { active = active }) h in
        kept_either b w (post v (Woken t)) v (active && not x.active) (kept_trans b w v _ kept (post_kept b v (Woken t))) kept

    spawned_kept : (b : ℕ) (w : State K) (polled : Option ℕ) (scope t : ℕ) (a : K.TaskState) (isomorphic : Bool) → b ≤ t → Kept b w (spawned w polled scope t a isomorphic)
    spawned_kept b w polled scope t a isomorphic above =
        let row : TaskRow K = record { scope = scope; parent = polled; state = a; active = true; kind = if isomorphic then Isomorphic else ClientOnly } in
        let v = record w { tasks = w.tasks ++ (t, row) ∷ [] } in
        let other : (u : ℕ) → u < b → nat_eq t u ≡ false = λ u l. grind (arith, above, l) in
        let kept : Kept b w v = record { seen = λ s. refl; ended = λ u l e. at_append_none w.tasks t row u (other u l) ∙ e; next = refl; next_scope = refl } in
        kept_either b w (post v (Woken t)) w (is_live w scope) (kept_trans b w v _ kept (post_kept b v (Woken t))) (kept_refl b w)

    registered_kept : (b : ℕ) (w : State K) (s : ℕ) (e : K.Effect) (o : Option ℕ) → Kept b w (registered w s e o)
    registered_kept b w s e None = kept_refl b w
    registered_kept b w s e (Some c) = change_kept b w c (λ x. record x { callbacks = x.callbacks ++ (s, e) ∷ [] }) (λ x. steady.callbacks x (x.callbacks ++ (s, e) ∷ []))

    frozen_kept : (b : ℕ) (w : State K) (o : Option ℕ) → Kept b w (frozen_at w o)
    frozen_kept b w None = kept_refl b w
    frozen_kept b w (Some c) = change_kept b w c (λ x. record x { frozen = true }) (λ x. steady.frozen x true)

    context_at_kept : (b : ℕ) (w : State K) (n : ℕ) (f : ContextRow K → ContextRow K) (o : Option (ContextRow K)) → Kept b w (elim o [ None ↦ w | Some x ↦ record w { contexts = put w.contexts n (f x) } ])
    context_at_kept b w n f None = kept_refl b w
    context_at_kept b w n f (Some x) = kept_rest b w _ refl refl refl refl

    context_kept : (b : ℕ) (w : State K) (n : ℕ) (f : ContextRow K → ContextRow K) → Kept b w (change_context w n f)
    context_kept b w n f = context_at_kept b w n f (at w.contexts n)

    module _ (app : Application K) where
      provided_kept : (b : ℕ) (w : State K) (s k : ℕ) (v : K.Value) (o : Option K.Value) → Kept b w (provided_at app w s k v o)
      provided_kept b w s k v None = told_after b w (change w s (λ x. record x { contexts = put x.contexts k v })) (Context k s) (change_kept b w s (λ x. record x { contexts = put x.contexts k v }) (λ x. steady.contexts x (put x.contexts k v)))
      provided_kept b w s k v (Some old) =
          kept_either b w _ _ (app.same_value old v)
          (change_kept b w s (λ x. record x { contexts = put x.contexts k v }) (λ x. steady.contexts x (put x.contexts k v)))
          (told_after b w (change w s (λ x. record x { contexts = put x.contexts k v })) (Context k s) (change_kept b w s (λ x. record x { contexts = put x.contexts k v }) (λ x. steady.contexts x (put x.contexts k v))))

      provide_at_kept : (b : ℕ) (w : State K) (s k : ℕ) (v : K.Value) (o : Option (Scope K)) → Kept b w (elim o [ None ↦ w | Some x ↦ provided_at app w s k v (at x.contexts k) ])
      provide_at_kept b w s k v None = kept_refl b w
      provide_at_kept b w s k v (Some x) = provided_kept b w s k v (at x.contexts k)

      provide_kept : (b : ℕ) (w : State K) (s k : ℕ) (v : K.Value) → Kept b w (provide_context app w s k v)
      provide_kept b w s k v = provide_at_kept b w s k v (at w.scopes s)

      command_kept : (b : ℕ) (w : State K) (s : ℕ) (polled : Option ℕ) (c : Command K) → IsFresh app b c → Kept b w (command app w s polled c)
      command_kept b w s polled (KeepHook h) f = change_kept b w s (λ x. record x { hooks = x.hooks ++ h ∷ [] }) (λ x. steady.hooks x (x.hooks ++ h ∷ []))
      command_kept b w s polled (NewCell n v) f = kept_either b w _ w (is_live w s) (kept_rest b w _ refl refl refl refl) (kept_refl b w)
      command_kept b w s polled (Write n v) f = write_kept b w n v
      command_kept b w s polled (DropCell n) f = drop_kept b w n
      command_kept b w s polled (NewContext n t) f = kept_either b w _ w (is_live w s) (kept_rest b w _ refl refl refl refl) (kept_refl b w)
      command_kept b w s polled (Reset n) f = context_kept b w n (λ x. record x { sources = [] })
      command_kept b w s polled (ReadInto n source) f = context_kept b w n _
      command_kept b w s polled (Spawn t a forever isomorphic) f = spawned_kept b w polled (if forever then 0 else s) t a isomorphic f
      command_kept b w s polled (RemoveFuture t) f = end_kept b w t
      command_kept b w s polled (Wake t) f = post_kept b w (Woken t)
      command_kept b w s polled (SetActive t active) f = activated_kept b w t active (at w.tasks t) refl
      command_kept b w s polled (QueueEffect e) f = change_kept b w s (λ x. record x { effects = x.effects ++ e ∷ [] }) (λ x. steady.effects x (x.effects ++ e ∷ []))
      command_kept b w s polled (Provide root k v) f = provide_kept b w (if root then 0 else s) k v
      command_kept b w s polled (Update n) f = post_kept b w (Mark n)
      command_kept b w s polled (Throw e) f = throw_kept b w s e
      command_kept b w s polled ClearErrors f = cleared_kept b w (error_context w s)
      command_kept b w s polled (Resolved e) f = registered_kept b w s e (suspense_context w s)
      command_kept b w s polled Freeze f = frozen_kept b w (suspense_context w s)

      pub commands_kept : (b : ℕ) (w : State K) (s : ℕ) (polled : Option ℕ) (cs : List (Command K)) → AllFresh app b cs → Kept b w (commands app w s polled cs)
      commands_kept b w s polled [] f = kept_refl b w
      commands_kept b w s polled (c ∷ cs) f =
          kept_trans b w (command app w s polled c) _ (command_kept b w s polled c f.0) (commands_kept b (command app w s polled c) s polled cs f.1)

      -- the commands of a call, whatever tasks they spawn
      pub commands_seen : (w : State K) (s : ℕ) (polled : Option ℕ) (cs : List (Command K)) → Kept 0 w (commands app w s polled cs)
      commands_seen w s polled cs = commands_kept 0 w s polled cs (all_fresh app cs)
