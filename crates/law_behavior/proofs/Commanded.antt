-- What the commands of a call leave of such a fact.
use Rattle.std.proofs.Common.{ℕ, Bool, true, false, List, [], ◌∷◌, ◌++◌, ◌≡◌, ◌≤◌, ◌+◌, refl, sym, subst}
use Rattle.std.specs.Prelude.{Option, Some, None, if◌then◌else◌, is_some}
use Rattle.rt_model.specs.Lists.{at, put, without, drop_number}
use Rattle.rt_model.specs.Tree.{Types, CapturedError}
use Rattle.rt_model.specs.World.{Source, Cell, Error, Context, Hook, Command, KeepHook, NewCell, Write, DropCell, NewContext, Reset, ReadInto, Spawn, RemoveFuture, Wake, SetActive, QueueEffect, Provide, Update, Throw, ClearErrors, Resolved, Freeze, Application}
use Rattle.rt_model.specs.State.{Posted, Mark, Woken, ClientOnly, Isomorphic, Scope, CellRow, ContextRow, TaskRow, State, is_live, changed_scope, change, error_context, suspense_context}
use Rattle.rt_model.specs.Commands.{drop_posted, holding, released, one_more_source, post, tell, end, written_at, write_cell, caught_at, thrown_to, throw_error, cleared_at, activated, spawned, registered, frozen_at, provided_at, command, commands}
use Rattle.rt_model.proofs.Maps.{by_test}
use Rattle.law_behavior.specs.Wakes.{differs}
use Rattle.law_behavior.proofs.Frames.{Cause, WakesTask, SetsActive, Tells, Permits, Still, Frame}

module _ {K : Types} (app : Application K) (P Q : State K → Type 0) (bound : ℕ) (may : Permits K) (law : Frame app P Q bound may) where
  pub either : (x y : State K) (b : Bool) → P x → P y → P (if b then x else y)
  either x y true f g = f
  either x y false f g = g

  -- the readers of a boundary's error may be told, where there is a boundary
  abbrev pub MayTell : State K → Option ℕ → Type 0
  MayTell w None = Unit {0}
  MayTell w (Some b) = may.causable w (Tells (Error b))

  -- so they may where it keeps no error yet
  abbrev pub MayThrow : State K → Option ℕ → Type 0
  MayThrow w None = Unit {0}
  MayThrow w (Some b) = (x : Scope K) → at w.scopes b ≡ Some x → x.error ≡ None → may.causable w (Tells (Error b))

  -- a change of a scope that no other field speaks of
  pub change_on : (w : State K) (s : ℕ) (f : Scope K → Scope K) → ((x : Scope K) → Still x (f x)) → P w → P (change w s f)
  change_on w s f same h = on (at w.scopes s) refl
    where
      on : (o : Option (Scope K)) → at w.scopes s ≡ o → P (changed_scope w s f o)
      on None e = h
      on (Some x) e = law.rows w s x (f x) e (same x) h

  hook_kept : (w : State K) (s : ℕ) (k : Hook K) (o : Option (Scope K)) → at w.scopes s ≡ o → P w → P (changed_scope w s (λ x. record x { hooks = x.hooks ++ k ∷ [] }) o)
  hook_kept w s k None e h = h
  hook_kept w s k (Some x) e h = law.hooks w s x k e h

  written_on : (w : State K) (n : ℕ) (v : K.Value) (o : Option (CellRow K)) → at w.cells n ≡ o → may.writable n → (is_some o ≡ true → may.causable w (Tells (Cell n))) → P w → P (written_at w n v o)
  written_on w n v None e a c h = h
  written_on w n v (Some old) e a c h = law.writes w n v old e a (c refl) h

  pub write_on : (w : State K) (n : ℕ) (v : K.Value) → may.writable n → (is_some (at w.cells n) ≡ true → may.causable w (Tells (Cell n))) → P w → P (write_cell w n v)
  write_on w n v a c h = written_on w n v (at w.cells n) refl a c h

  dropped_on : (w : State K) (n : ℕ) (b : Bool) → may.droppable n → (b ≡ true → may.causable w (Tells (Cell n))) → P w → P (if b then tell (record w { cells = without w.cells n }) (Cell n) else w)
  dropped_on w n true a c h = law.drops w n a (c refl) h
  dropped_on w n false a c h = h

  caught_on : (w : State K) (e : CapturedError) (b : ℕ) (x : Scope K) (o : Option CapturedError) → at w.scopes b ≡ Some x → x.error ≡ o → MayThrow w (Some b) → P w → P (caught_at w e b o)
  caught_on w e b x (Some old) live q c h = h
  caught_on w e b x None live q c h =
      subst (λ (o : Option (Scope K)). P (tell (changed_scope w b (λ y. record y { error = Some e }) o) (Error b))) (sym live) (law.throws w b x e live q (c x live q) h)

  thrown_at_on : (w : State K) (e : CapturedError) (b : ℕ) (o : Option (Scope K)) → at w.scopes b ≡ o → MayThrow w (Some b) → P w → P (elim o as (λ z. State K) [ None ↦ w | Some x ↦ caught_at w e b x.error ])
  thrown_at_on w e b None live c h = h
  thrown_at_on w e b (Some x) live c h = caught_on w e b x x.error live refl c h

  thrown_on : (w : State K) (e : CapturedError) (o : Option ℕ) → MayThrow w o → P w → P (thrown_to w e o)
  thrown_on w e None c h = h
  thrown_on w e (Some b) c h = thrown_at_on w e b (at w.scopes b) refl c h

  pub throw_on : (w : State K) (s : ℕ) (e : CapturedError) → MayThrow w (error_context w s) → P w → P (throw_error w s e)
  throw_on w s e c h = thrown_on w e (error_context w s) c h

  -- where an error may be cleared
  abbrev pub MayClear : Option ℕ → Type 0
  MayClear None = Unit {0}
  MayClear (Some b) = may.clearable b

  emptied : (w : State K) (b : ℕ) (o : Option (Scope K)) → at w.scopes b ≡ o → may.clearable b → may.causable w (Tells (Error b)) → P w → P (tell (changed_scope w b (λ x. record x { error = None }) o) (Error b))
  emptied w b None e a c h = law.tells w (Error b) c h
  emptied w b (Some x) e a c h = law.clears w b x e a c h

  cleared_on : (w : State K) (o : Option ℕ) → MayClear o → MayTell w o → P w → P (cleared_at w o)
  cleared_on w None a c h = h
  cleared_on w (Some b) a c h = emptied w b (at w.scopes b) refl a c h

  pub end_on : (w : State K) (t : ℕ) → may.endable t → P w → P (end w t)
  end_on w t a h =
      let v : State K = record w {
        tasks = without w.tasks t;
        posted = drop_posted w.posted (Woken t) ++ holding w.scopes t;
        queued = drop_number w.queued t;
        scopes = released w.scopes t;
      } in
      either v w (is_some (at w.tasks t)) (law.ends w t a h) h

  spawned_on : (w : State K) (polled : Option ℕ) (scope t : ℕ) (a : K.TaskState) (isomorphic : Bool) → bound ≤ t → may.spawnable w t scope a → P w → P (spawned w polled scope t a isomorphic)
  spawned_on w polled scope t a isomorphic low free h =
      let row : TaskRow K = record { scope = scope; parent = polled; state = a; active = true; kind = if isomorphic then Isomorphic else ClientOnly } in
      let v : State K = record w { tasks = w.tasks ++ (t, row) ∷ [] } in
      by_test (is_live w scope)
      (λ q. subst (λ (b : Bool). P (if b then post v (Woken t) else w)) (sym q) (law.spawns w t row q low free h))
      (λ q. subst (λ (b : Bool). P (if b then post v (Woken t) else w)) (sym q) h)

  activated_on : (w : State K) (t : ℕ) (active : Bool) (o : Option (TaskRow K)) → at w.tasks t ≡ o → may.causable w (SetsActive t active) → P w → P (activated w t active o)
  activated_on w t active None e c h = h
  activated_on w t active (Some x) e c h = law.activates w t active x e c h

  registered_on : (w : State K) (s : ℕ) (e : K.Effect) (o : Option ℕ) → P w → P (registered w s e o)
  registered_on w s e None h = h
  registered_on w s e (Some b) h =
      change_on w b (λ x. record x { callbacks = x.callbacks ++ (s, e) ∷ [] }) (λ x. refl) h

  frozen_on : (w : State K) (o : Option ℕ) → P w → P (frozen_at w o)
  frozen_on w None h = h
  frozen_on w (Some b) h = change_on w b (λ x. record x { frozen = true }) (λ x. refl) h

  context_on : (w : State K) (n : ℕ) (f : ContextRow K → ContextRow K) (o : Option (ContextRow K)) → at w.contexts n ≡ o → may.readable n → P w → P (elim o as (λ z. State K) [ None ↦ w | Some x ↦ record w { contexts = put w.contexts n (f x) } ])
  context_on w n f None e a h = h
  context_on w n f (Some x) e a h = law.sources w n x (f x) e a h

  -- the readers of what a scope provides may be told, where that is another value
  abbrev pub MayProvide : State K → ℕ → ℕ → K.Value → Option (Scope K) → Type 0
  MayProvide w s k v None = Unit {0}
  MayProvide w s k v (Some x) = differs app v (at x.contexts k) ≡ true → may.causable w (Tells (Context k s))

  provide_on : (w : State K) (s k : ℕ) (v : K.Value) (o : Option (Scope K)) → at w.scopes s ≡ o → MayProvide w s k v o → P w → P (elim o as (λ z. State K) [ None ↦ w | Some x ↦ provided_at app w s k v (at x.contexts k) ])
  provide_on w s k v None e c h = h
  provide_on w s k v (Some x) e c h = law.provides w s k v x e c h

  -- a command that is allowed
  abbrev pub Allowed : State K → ℕ → Command K → Type 0
  Allowed w s ClearErrors = MayClear (error_context w s)
  Allowed w s (RemoveFuture t) = may.endable t
  Allowed w s (Spawn t a forever isomorphic) = (bound ≤ t) × may.spawnable w t (if forever then 0 else s) a
  Allowed w s (Write n v) = may.writable n
  Allowed w s (NewCell n v) = may.makeable n
  Allowed w s (DropCell n) = may.droppable n
  Allowed w s (NewContext n target) = may.openable n
  Allowed w s (Reset n) = may.readable n
  Allowed w s (ReadInto n source) = may.readable n
  Allowed w s _ = Unit {0}

  -- what a command that may wake tasks wakes them by is allowed
  abbrev pub Caused : State K → ℕ → Command K → Type 0
  Caused w s (Write n v) = is_some (at w.cells n) ≡ true → may.causable w (Tells (Cell n))
  Caused w s (DropCell n) = is_some (at w.cells n) ≡ true → may.causable w (Tells (Cell n))
  Caused w s (Wake t) = may.causable w (WakesTask t)
  Caused w s (SetActive t active) = may.causable w (SetsActive t active)
  Caused w s (Provide root k v) = MayProvide w (if root then 0 else s) k v (at w.scopes (if root then 0 else s))
  Caused w s (Throw e) = MayThrow w (error_context w s)
  Caused w s ClearErrors = MayTell w (error_context w s)
  Caused w s _ = Unit {0}

  -- where all that may wake tasks is allowed
  tells_anyway : ((w : State K) (c : Cause) → may.causable w c) → (w : State K) (o : Option ℕ) → MayTell w o
  tells_anyway all w None = tt
  tells_anyway all w (Some b) = all w (Tells (Error b))

  pub throws_anyway : ((w : State K) (c : Cause) → may.causable w c) → (w : State K) (o : Option ℕ) → MayThrow w o
  throws_anyway all w None = tt
  throws_anyway all w (Some b) = λ x live none. all w (Tells (Error b))

  provides_anyway : ((w : State K) (c : Cause) → may.causable w c) → (w : State K) (s k : ℕ) (v : K.Value) (o : Option (Scope K)) → MayProvide w s k v o
  provides_anyway all w s k v None = tt
  provides_anyway all w s k v (Some x) = λ other. all w (Tells (Context k s))

  pub caused_anyway : ((w : State K) (c : Cause) → may.causable w c) → (w : State K) (s : ℕ) (c : Command K) → Caused w s c
  caused_anyway all w s (Write n v) = λ there. all w (Tells (Cell n))
  caused_anyway all w s (DropCell n) = λ there. all w (Tells (Cell n))
  caused_anyway all w s (Wake t) = all w (WakesTask t)
  caused_anyway all w s (SetActive t active) = all w (SetsActive t active)
  caused_anyway all w s (Provide root k v) = provides_anyway all w (if root then 0 else s) k v (at w.scopes (if root then 0 else s))
  caused_anyway all w s (Throw e) = throws_anyway all w (error_context w s)
  caused_anyway all w s ClearErrors = tells_anyway all w (error_context w s)
  caused_anyway all w s c = tt

  command_on : (w : State K) (s : ℕ) (polled : Option ℕ) (c : Command K) → Allowed w s c → Caused w s c → P w → P (command app w s polled c)
  command_on w s polled (KeepHook h) a c p = hook_kept w s h (at w.scopes s) refl p
  command_on w s polled (NewCell n v) a c p =
      let u : State K = record w { cells = w.cells ++ (n, record { owner = s; value = v }) ∷ [] } in either u w (is_live w s) (law.new_cells w s n v a p) p
  command_on w s polled (Write n v) a c p = write_on w n v a c p
  command_on w s polled (DropCell n) a c p = dropped_on w n (is_some (at w.cells n)) a c p
  command_on w s polled (NewContext n target) a c p =
      let u : State K = record w { contexts = w.contexts ++ (n, record { scope = s; target = target; sources = [] }) ∷ [] } in
      either u w (is_live w s) (law.new_contexts w n (record { scope = s; target = target; sources = [] }) a p) p
  command_on w s polled (Reset n) a c p = context_on w n (λ x. record x { sources = [] }) (at w.contexts n) refl a p
  command_on w s polled (ReadInto n source) a c p = context_on w n (λ x. record x { sources = one_more_source x.sources source }) (at w.contexts n) refl a p
  command_on w s polled (Spawn t b forever isomorphic) a c p = spawned_on w polled (if forever then 0 else s) t b isomorphic a.0 a.1 p
  command_on w s polled (RemoveFuture t) a c p = end_on w t a p
  command_on w s polled (Wake t) a c p = law.wakes w t c p
  command_on w s polled (SetActive t active) a c p = activated_on w t active (at w.tasks t) refl c p
  command_on w s polled (QueueEffect e) a c p = change_on w s (λ x. record x { effects = x.effects ++ e ∷ [] }) (λ x. refl) p
  command_on w s polled (Provide root k v) a c p = let r : ℕ = if root then 0 else s in provide_on w r k v (at w.scopes r) refl c p
  command_on w s polled (Update n) a c p = law.marks w n p
  command_on w s polled (Throw e) a c p = throw_on w s e c p
  command_on w s polled ClearErrors a c p = cleared_on w (error_context w s) a c p
  command_on w s polled (Resolved e) a c p = registered_on w s e (suspense_context w s) p
  command_on w s polled Freeze a c p = frozen_on w (suspense_context w s) p

  -- these commands are all allowed, each in the state that it finds
  abbrev pub AllAllowed : State K → ℕ → Option ℕ → List (Command K) → Type 0
  AllAllowed w s polled [] = Unit {0}
  AllAllowed w s polled (c ∷ cs) = (Allowed w s c × Caused w s c) × AllAllowed (command app w s polled c) s polled cs

  pub commands_on : (w : State K) (s : ℕ) (polled : Option ℕ) (cs : List (Command K)) → AllAllowed w s polled cs → P w → P (commands app w s polled cs)
  commands_on w s polled [] a p = p
  commands_on w s polled (c ∷ cs) a p = commands_on (command app w s polled c) s polled cs a.1 (command_on w s polled c (a.0).0 (a.0).1 p)
