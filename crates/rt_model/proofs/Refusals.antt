-- The fault of a program is that of a call in its world.
use Rattle.std.proofs.Common.{ℕ, zero, suc, Bool, true, false, List, [], ◌∷◌, ◌+◌, ◌≡◌, refl, ap, nat_lt, nat_eq}
use Rattle.std.specs.Prelude.{Option, Some, None, if◌then◌else◌, length}
use Rattle.std.proofs.lemmas.Bool.{eqb-true}
use Rattle.rt_lemmas.proofs.Bools.{clash as bool_apart}
use Rattle.rt_model.specs.Lists.{at, nth}
use Rattle.rt_model.specs.Tree.{Types}
use Rattle.rt_model.specs.World.{Source, Cell, Error, Context, Scopes, Tasks, Cells, Contexts, Elements, Errors, Renders, Firsts, last_number, at_end, CallFault, CounterAtEnd, OtherHook, Hook, HookValue, HookEffect, World, Meaning}
use Rattle.rt_model.specs.Program.{Program, done, current_scope, parent_scope, current_task, rendering, generation, read, error, consume_context, has_context, new_context, run_in, reset_and_run_in, leave, new_cell, write, drop_cell, spawn, remove_future, wake, set_active, queue_effect, after_suspense_resolved, freeze, provide, needs_update, captured, throw, clear_errors, hook_is_new, use_hook, use_effect, Call, first_fault, faults, noted_at, noted, value_in, parent_in, nearest_boundary, error_in, noted_error, own_context, Found, found_at, no_further, further_up, looked_up, look_up, look_here, own_scope_or, past_hook, kind_of, hook_value, hook_stands, hooked, drew_cell, drew_context, drew_task, drew_error, exec, begun, body_means, call_means}
use Rattle.rt_model.specs.Laws.{IsRefusal, IsFault, Refuses}

last_ends : (n : ℕ) → Some n ≡ Some last_number → at_end n ≡ true
last_ends n h = ap (λ (m : ℕ). at_end m) (inj_number h)
  where
    inj_number : {a b : ℕ} → Some a ≡ Some b → a ≡ b
    inj_number e = cc

module _ {K : Types} (w : World K) where
  -- the fault so far is one of this world, and the counter that it names is still at its end
  abbrev Fine : Call K → Type 0
  Fine c = IsFault w c.next c.fault

  first_fine : (next : Firsts) (old : Option CallFault) (f : CallFault) → IsFault w next old → IsRefusal w next f → IsFault w next (first_fault old f)
  first_fine next None f h g = g
  first_fine next (Some old) f h g = h

  -- a counter that isn't at its end may rise
  cell_fine : (next : Firsts) (o : Option CallFault) → at_end next.cells ≡ false → IsFault w next o → IsFault w (record next { cells = next.cells + 1 }) o
  cell_fine next None q h = tt
  cell_fine next (Some (CounterAtEnd Cells)) q h = bool_apart (last_ends next.cells h) q
  cell_fine next (Some (CounterAtEnd Tasks)) q h = h
  cell_fine next (Some (CounterAtEnd Contexts)) q h = h
  cell_fine next (Some (CounterAtEnd Errors)) q h = h
  cell_fine next (Some (CounterAtEnd Scopes)) q h = h
  cell_fine next (Some (CounterAtEnd Elements)) q h = h
  cell_fine next (Some (CounterAtEnd Renders)) q h = h
  cell_fine next (Some (OtherHook s i k a)) q h = h

  task_fine : (next : Firsts) (o : Option CallFault) → at_end next.tasks ≡ false → IsFault w next o → IsFault w (record next { tasks = next.tasks + 1 }) o
  task_fine next None q h = tt
  task_fine next (Some (CounterAtEnd Tasks)) q h = bool_apart (last_ends next.tasks h) q
  task_fine next (Some (CounterAtEnd Cells)) q h = h
  task_fine next (Some (CounterAtEnd Contexts)) q h = h
  task_fine next (Some (CounterAtEnd Errors)) q h = h
  task_fine next (Some (CounterAtEnd Scopes)) q h = h
  task_fine next (Some (CounterAtEnd Elements)) q h = h
  task_fine next (Some (CounterAtEnd Renders)) q h = h
  task_fine next (Some (OtherHook s i k a)) q h = h

  context_fine : (next : Firsts) (o : Option CallFault) → at_end next.contexts ≡ false → IsFault w next o → IsFault w (record next { contexts = next.contexts + 1 }) o
  context_fine next None q h = tt
  context_fine next (Some (CounterAtEnd Contexts)) q h = bool_apart (last_ends next.contexts h) q
  context_fine next (Some (CounterAtEnd Cells)) q h = h
  context_fine next (Some (CounterAtEnd Tasks)) q h = h
  context_fine next (Some (CounterAtEnd Errors)) q h = h
  context_fine next (Some (CounterAtEnd Scopes)) q h = h
  context_fine next (Some (CounterAtEnd Elements)) q h = h
  context_fine next (Some (CounterAtEnd Renders)) q h = h
  context_fine next (Some (OtherHook s i k a)) q h = h

  error_fine : (next : Firsts) (o : Option CallFault) → at_end next.errors ≡ false → IsFault w next o → IsFault w (record next { errors = next.errors + 1 }) o
  error_fine next None q h = tt
  error_fine next (Some (CounterAtEnd Errors)) q h = bool_apart (last_ends next.errors h) q
  error_fine next (Some (CounterAtEnd Cells)) q h = h
  error_fine next (Some (CounterAtEnd Tasks)) q h = h
  error_fine next (Some (CounterAtEnd Contexts)) q h = h
  error_fine next (Some (CounterAtEnd Scopes)) q h = h
  error_fine next (Some (CounterAtEnd Elements)) q h = h
  error_fine next (Some (CounterAtEnd Renders)) q h = h
  error_fine next (Some (OtherHook s i k a)) q h = h

  ends : (n : ℕ) → at_end n ≡ true → Some n ≡ Some last_number
  ends n q = ap Some (eqb-true n last_number q)

  noted-fine : (c : Call K) (x : Source) (into : List ℕ) (body : Bool) → Fine c → Fine (noted_at c x into body)
  noted-fine c x [] true h = h
  noted-fine c x [] false h = h
  noted-fine c x (n ∷ ns) body h = h

  noted_error-fine : (c : Call K) (o : Option ℕ) → Fine c → Fine (noted_error c o)
  noted_error-fine c None h = h
  noted_error-fine c (Some s) h = noted-fine c (Error s) c.into c.in_body h

  found-fine : (k s : ℕ) (c : Call K) (f : Call K → Found K) (o p : Option K.Value) → ((d : Call K) → Fine d → Fine (f d).call) → Fine c → Fine (found_at w k s c f o p).call
  found-fine k s c f (Some x) p go h = h
  found-fine k s c f None (Some x) go h = noted-fine c (Context k s) c.into c.in_body h
  found-fine k s c f None None go h = go (noted c (Context k s)) (noted-fine c (Context k s) c.into c.in_body h)

  further-fine : (go : ℕ → Call K → Found K) (o : Option ℕ) → ((p : ℕ) (d : Call K) → Fine d → Fine (go p d).call) → (d : Call K) → Fine d → Fine (further_up go o d).call
  further-fine go None fine d h = h
  further-fine go (Some p) fine d h = fine p d h

  looked-fine : (k n s : ℕ) (c : Call K) → Fine c → Fine (looked_up w k n s c).call
  looked-fine k zero s c h = h
  looked-fine k (suc n) s c h =
      found-fine k s c (λ d. further_up (λ p e. looked_up w k n p e) (parent_in w.given.parents s) d) (own_context c.provided k s) (w.values.context k s)
      (further-fine (λ p e. looked_up w k n p e) (parent_in w.given.parents s) (λ p d q. looked-fine k n p d q))
      h

  here-fine : (k : ℕ) (c : Call K) → Fine c → Fine (look_here w k c).call
  here-fine k c h = found-fine k w.given.scope c no_further (own_context c.provided k w.given.scope) (w.values.context k w.given.scope) (λ d q. q) h

  other_hook : (c : Call K) (k : ℕ) (x : Hook K) (t : Bool) → nat_eq (kind_of x) k ≡ t → nth w.given.hooks c.index ≡ Some x → Fine c
      → Fine (if t then past_hook c else past_hook (faults c (OtherHook w.given.scope c.index (kind_of x) k)))
  other_hook c k x true q e h = h
  other_hook c k x false q e h = first_fine c.next c.fault (OtherHook w.given.scope c.index (kind_of x) k) h (refl, (x, e, refl, q))

  hook-fine : (c : Call K) (k : ℕ) (new : Hook K) (o : Option (Hook K)) → nth w.given.hooks c.index ≡ o → Fine c → Fine (hooked w c k new o)
  hook-fine c k new None e h = h
  hook-fine c k new (Some x) e h = other_hook c k x (nat_eq (kind_of x) k) refl e h

module _ {K : Types} {A : Type 0} (w : World K) where
  abbrev FineEnd : Meaning K A → Type 0
  FineEnd m = IsFault w m.next m.fault

  either-fine : (t : Bool) (x y : Meaning K A) → (t ≡ true → FineEnd x) → (t ≡ false → FineEnd y) → FineEnd (if t then x else y)
  either-fine true x y h e = h refl
  either-fine false x y h e = e refl

  refused : (p : Program K A) (c : Call K) → Fine w c → FineEnd (exec w p c)
  refused (done x) c h = h
  refused (current_scope f) c h = refused (f w.given.scope) c h
  refused (parent_scope f) c h = refused (f (parent_in w.given.parents w.given.scope)) c h
  refused (current_task f) c h = refused (f w.given.task) c h
  refused (rendering f) c h = refused (f w.given.rendering) c h
  refused (generation f) c h = refused (f w.given.renders) c h
  refused (read n f) c h =
      either-fine (nat_lt n c.next.cells) _ _
      (λ q. refused (f (value_in w (at c.cells n) n)) (noted c (Cell n)) (noted-fine w c (Cell n) c.into c.in_body h))
      (λ q. refused (f None) c h)
  refused (error f) c h = refused (f (error_in w (nearest_boundary w.given))) (noted_error c (nearest_boundary w.given)) (noted_error-fine w c (nearest_boundary w.given) h)
  refused (consume_context from k f) c h =
      refused (f (look_up w from k c).value) (look_up w from k c).call (looked-fine w k (length w.given.parents + 1) (own_scope_or w from) c h)
  refused (has_context k f) c h = refused (f (look_here w k c).value) (look_here w k c).call (here-fine w k c h)
  refused (new_context t f) c h =
      either-fine (at_end c.next.contexts) _ _
      (λ q. refused (f None) (faults c (CounterAtEnd Contexts)) (first_fine w c.next c.fault (CounterAtEnd Contexts) h (ends w c.next.contexts q)))
      (λ q. refused (f (Some c.next.contexts)) (drew_context c t) (context_fine w c.next c.fault q h))
  refused (run_in n p) c h = refused p (record c { into = n ∷ c.into }) h
  refused (reset_and_run_in n p) c h = refused p _ h
  refused (leave p) c h = refused p _ h
  refused (new_cell v f) c h =
      either-fine (at_end c.next.cells) _ _
      (λ q. refused (f None) (faults c (CounterAtEnd Cells)) (first_fine w c.next c.fault (CounterAtEnd Cells) h (ends w c.next.cells q)))
      (λ q. refused (f (Some c.next.cells)) (drew_cell c v) (cell_fine w c.next c.fault q h))
  refused (write n v p) c h = refused p _ h
  refused (drop_cell n p) c h = refused p _ h
  refused (spawn s x y f) c h =
      either-fine (at_end c.next.tasks) _ _
      (λ q. refused (f None) (faults c (CounterAtEnd Tasks)) (first_fine w c.next c.fault (CounterAtEnd Tasks) h (ends w c.next.tasks q)))
      (λ q. refused (f (Some c.next.tasks)) (drew_task c s x y) (task_fine w c.next c.fault q h))
  refused (remove_future t p) c h = refused p _ h
  refused (wake t p) c h = refused p _ h
  refused (set_active t x p) c h = refused p _ h
  refused (queue_effect e p) c h = refused p _ h
  refused (after_suspense_resolved e p) c h = refused p _ h
  refused (freeze p) c h = refused p _ h
  refused (provide root k v p) c h = refused p _ h
  refused (needs_update s p) c h = refused p _ h
  refused (captured text f) c h =
      either-fine (at_end c.next.errors) _ _
      (λ q. refused (f None) (faults c (CounterAtEnd Errors)) (first_fine w c.next c.fault (CounterAtEnd Errors) h (ends w c.next.errors q)))
      (λ q. refused (f (Some (record { serial = c.next.errors; text = text }))) (drew_error c) (error_fine w c.next c.fault q h))
  refused (throw e p) c h = refused p _ h
  refused (clear_errors p) c h = refused p _ h
  refused (hook_is_new f) c h = refused (f _) c h
  refused (use_hook k v f) c h =
      refused (f (hook_value k v (nth w.given.hooks c.index))) (hooked w c k (HookValue k v) (nth w.given.hooks c.index)) (hook-fine w c k (HookValue k v) (nth w.given.hooks c.index) refl h)
  refused (use_effect k e f) c h =
      refused (f (hook_stands k (nth w.given.hooks c.index))) (hooked w c k (HookEffect k e) (nth w.given.hooks c.index)) (hook-fine w c k (HookEffect k e) (nth w.given.hooks c.index) refl h)

module _ {K : Types} {A : Type 0} where
  pub body_refuses : (p : Program K A) → Refuses (λ w. body_means p w)
  body_refuses p w = refused w p (begun true w.given.next) tt

  pub call_refuses : (p : Program K A) → Refuses (λ w. call_means p w)
  call_refuses p w = refused w p (begun false w.given.next) tt
