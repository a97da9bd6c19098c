-- What a program comes to, whatever its calls are answered.
use Rattle.std.proofs.Common.{ℕ, Bool, true, false, [], ◌∷◌, ◌++◌}
use Rattle.std.specs.Prelude.{Option, Some, None, if◌then◌else◌, length, nat_le, nat_lt}
use Rattle.rt_model.specs.Lists.{at, nth}
use Rattle.rt_model.specs.Tree.{Types, CapturedError}
use Rattle.rt_model.specs.World.{World, Tasks, Cells, Contexts, Errors, CounterAtEnd, HookValue, HookEffect, Write, DropCell, RemoveFuture, Wake, SetActive, QueueEffect, Resolved, Freeze, Update, Throw, ClearErrors, Reset, Cell, at_end}
use Rattle.rt_model.specs.Program.{Program, done, current_scope, parent_scope, current_task, rendering, generation, read, error, consume_context, has_context, new_context, run_in, reset_and_run_in, leave, new_cell, write, drop_cell, spawn, remove_future, wake, set_active, queue_effect, after_suspense_resolved, freeze, provide, needs_update, captured, throw, clear_errors, hook_is_new, use_hook, use_effect, Call, exec, says, faults, parent_in, nearest_boundary, error_in, noted, noted_error, left_behind, value_in, look_up, look_here, provides, hooked, hook_value, hook_stands, drew_cell, drew_context, drew_task, drew_error}
use Rattle.author_programs.specs.Sequence.{go_on}

module _ {K : Types} {A : Type 0} (Q : A → Type 0) where
  -- whatever its calls are answered, a program comes to an answer of which this holds
  abbrev pub Answers : Program K A → Type 0
  Answers (done a) = Q a
  Answers (current_scope f) = (x : ℕ) → Answers (f x)
  Answers (parent_scope f) = (x : Option ℕ) → Answers (f x)
  Answers (current_task f) = (x : Option ℕ) → Answers (f x)
  Answers (rendering f) = (x : Bool) → Answers (f x)
  Answers (generation f) = (x : ℕ) → Answers (f x)
  Answers (read n f) = (x : Option K.Value) → Answers (f x)
  Answers (error f) = (x : Option CapturedError) → Answers (f x)
  Answers (consume_context from k f) = (x : Option K.Value) → Answers (f x)
  Answers (has_context k f) = (x : Option K.Value) → Answers (f x)
  Answers (new_context t f) = (x : Option ℕ) → Answers (f x)
  Answers (run_in n p) = Answers p
  Answers (reset_and_run_in n p) = Answers p
  Answers (leave p) = Answers p
  Answers (new_cell v f) = (x : Option ℕ) → Answers (f x)
  Answers (write n v p) = Answers p
  Answers (drop_cell n p) = Answers p
  Answers (spawn a forever isomorphic f) = (x : Option ℕ) → Answers (f x)
  Answers (remove_future t p) = Answers p
  Answers (wake t p) = Answers p
  Answers (set_active t b p) = Answers p
  Answers (queue_effect e p) = Answers p
  Answers (after_suspense_resolved e p) = Answers p
  Answers (freeze p) = Answers p
  Answers (provide root k v p) = Answers p
  Answers (needs_update s p) = Answers p
  Answers (captured text f) = (x : Option CapturedError) → Answers (f x)
  Answers (throw e p) = Answers p
  Answers (clear_errors p) = Answers p
  Answers (hook_is_new f) = (x : Bool) → Answers (f x)
  Answers (use_hook k v f) = (x : Option K.Value) → Answers (f x)
  Answers (use_effect k e f) = (x : Bool) → Answers (f x)

  one_of : (w : World K) (b : Bool) (p q : Program K A) (c d : Call K) → Q (exec w p c).answer → Q (exec w q d).answer → Q (if b then exec w p c else exec w q d).answer
  one_of w true p q c d h k = h
  one_of w false p q c d h k = k

  -- so it means such an answer
  pub means_so : (w : World K) (p : Program K A) (c : Call K) → Answers p → Q (exec w p c).answer
  means_so w (done a) c h = h
  means_so w (current_scope f) c h = means_so w (f w.given.scope) c (h w.given.scope)
  means_so w (parent_scope f) c h = let x : Option ℕ = parent_in w.given.parents w.given.scope in means_so w (f x) c (h x)
  means_so w (current_task f) c h = means_so w (f w.given.task) c (h w.given.task)
  means_so w (rendering f) c h = means_so w (f w.given.rendering) c (h w.given.rendering)
  means_so w (generation f) c h = means_so w (f w.given.renders) c (h w.given.renders)
  means_so w (read n f) c h =
      let x : Option K.Value = value_in w (at c.cells n) n in
      one_of w (nat_lt n c.next.cells) (f x) (f None) (noted c (Cell n)) c (means_so w (f x) (noted c (Cell n)) (h x)) (means_so w (f None) c (h None))
  means_so w (error f) c h =
      let x : Option CapturedError = error_in w (nearest_boundary w.given) in means_so w (f x) (noted_error c (nearest_boundary w.given)) (h x)
  means_so w (consume_context from k f) c h = means_so w (f (look_up w from k c).value) (look_up w from k c).call (h (look_up w from k c).value)
  means_so w (has_context k f) c h = means_so w (f (look_here w k c).value) (look_here w k c).call (h (look_here w k c).value)
  means_so w (new_context t f) c h =
      one_of w (at_end c.next.contexts) (f None) (f (Some c.next.contexts)) (faults c (CounterAtEnd Contexts)) (drew_context c t)
      (means_so w (f None) (faults c (CounterAtEnd Contexts)) (h None)) (means_so w (f (Some c.next.contexts)) (drew_context c t) (h (Some c.next.contexts)))
  means_so w (run_in n p) c h = means_so w p (record c { into = n ∷ c.into }) h
  means_so w (reset_and_run_in n p) c h = means_so w p (record c { into = n ∷ c.into; commands = c.commands ++ Reset n ∷ [] }) h
  means_so w (leave p) c h = means_so w p (record c { into = left_behind c.into }) h
  means_so w (new_cell v f) c h =
      one_of w (at_end c.next.cells) (f None) (f (Some c.next.cells)) (faults c (CounterAtEnd Cells)) (drew_cell c v)
      (means_so w (f None) (faults c (CounterAtEnd Cells)) (h None)) (means_so w (f (Some c.next.cells)) (drew_cell c v) (h (Some c.next.cells)))
  means_so w (write n v p) c h = means_so w p (says c (Write n v)) h
  means_so w (drop_cell n p) c h = means_so w p (says c (DropCell n)) h
  means_so w (spawn a forever isomorphic f) c h =
      one_of w (at_end c.next.tasks) (f None) (f (Some c.next.tasks)) (faults c (CounterAtEnd Tasks)) (drew_task c a forever isomorphic)
      (means_so w (f None) (faults c (CounterAtEnd Tasks)) (h None)) (means_so w (f (Some c.next.tasks)) (drew_task c a forever isomorphic) (h (Some c.next.tasks)))
  means_so w (remove_future t p) c h = means_so w p (says c (RemoveFuture t)) h
  means_so w (wake t p) c h = means_so w p (says c (Wake t)) h
  means_so w (set_active t b p) c h = means_so w p (says c (SetActive t b)) h
  means_so w (queue_effect e p) c h = means_so w p (says c (QueueEffect e)) h
  means_so w (after_suspense_resolved e p) c h = means_so w p (says c (Resolved e)) h
  means_so w (freeze p) c h = means_so w p (says c Freeze) h
  means_so w (provide root k v p) c h = means_so w p (provides w c root k v) h
  means_so w (needs_update s p) c h = means_so w p (says c (Update s)) h
  means_so w (captured text f) c h =
      let x : Option CapturedError = Some (record { serial = c.next.errors; text = text }) in
      one_of w (at_end c.next.errors) (f None) (f x) (faults c (CounterAtEnd Errors)) (drew_error c) (means_so w (f None) (faults c (CounterAtEnd Errors)) (h None)) (means_so w (f x) (drew_error c) (h x))
  means_so w (throw e p) c h = means_so w p (says c (Throw e)) h
  means_so w (clear_errors p) c h = means_so w p (says c ClearErrors) h
  means_so w (hook_is_new f) c h = let x : Bool = nat_le (length w.given.hooks) c.index in means_so w (f x) c (h x)
  means_so w (use_hook k v f) c h =
      let x : Option K.Value = hook_value k v (nth w.given.hooks c.index) in means_so w (f x) (hooked w c k (HookValue k v) (nth w.given.hooks c.index)) (h x)
  means_so w (use_effect k e f) c h =
      let x : Bool = hook_stands k (nth w.given.hooks c.index) in means_so w (f x) (hooked w c k (HookEffect k e) (nth w.given.hooks c.index)) (h x)

module _ {K : Types} {A B : Type 0} where
  -- a program, and then one that is told its answer
  pub goes_on_so : (P : A → Type 0) (Q : B → Type 0) (p : Program K A) (f : A → Program K B) → Answers P p → ((a : A) → P a → Answers Q (f a)) → Answers Q (go_on p f)
  unfolding go_on
  goes_on_so P Q (done a) f h g = g a h
  goes_on_so P Q (current_scope p) f h g = λ x. goes_on_so P Q (p x) f (h x) g
  goes_on_so P Q (parent_scope p) f h g = λ x. goes_on_so P Q (p x) f (h x) g
  goes_on_so P Q (current_task p) f h g = λ x. goes_on_so P Q (p x) f (h x) g
  goes_on_so P Q (rendering p) f h g = λ x. goes_on_so P Q (p x) f (h x) g
  goes_on_so P Q (generation p) f h g = λ x. goes_on_so P Q (p x) f (h x) g
  goes_on_so P Q (read n p) f h g = λ x. goes_on_so P Q (p x) f (h x) g
  goes_on_so P Q (error p) f h g = λ x. goes_on_so P Q (p x) f (h x) g
  goes_on_so P Q (consume_context from k p) f h g = λ x. goes_on_so P Q (p x) f (h x) g
  goes_on_so P Q (has_context k p) f h g = λ x. goes_on_so P Q (p x) f (h x) g
  goes_on_so P Q (new_context t p) f h g = λ x. goes_on_so P Q (p x) f (h x) g
  goes_on_so P Q (run_in n p) f h g = goes_on_so P Q p f h g
  goes_on_so P Q (reset_and_run_in n p) f h g = goes_on_so P Q p f h g
  goes_on_so P Q (leave p) f h g = goes_on_so P Q p f h g
  goes_on_so P Q (new_cell v p) f h g = λ x. goes_on_so P Q (p x) f (h x) g
  goes_on_so P Q (write n v p) f h g = goes_on_so P Q p f h g
  goes_on_so P Q (drop_cell n p) f h g = goes_on_so P Q p f h g
  goes_on_so P Q (spawn a forever isomorphic p) f h g = λ x. goes_on_so P Q (p x) f (h x) g
  goes_on_so P Q (remove_future t p) f h g = goes_on_so P Q p f h g
  goes_on_so P Q (wake t p) f h g = goes_on_so P Q p f h g
  goes_on_so P Q (set_active t b p) f h g = goes_on_so P Q p f h g
  goes_on_so P Q (queue_effect e p) f h g = goes_on_so P Q p f h g
  goes_on_so P Q (after_suspense_resolved e p) f h g = goes_on_so P Q p f h g
  goes_on_so P Q (freeze p) f h g = goes_on_so P Q p f h g
  goes_on_so P Q (provide root k v p) f h g = goes_on_so P Q p f h g
  goes_on_so P Q (needs_update s p) f h g = goes_on_so P Q p f h g
  goes_on_so P Q (captured text p) f h g = λ x. goes_on_so P Q (p x) f (h x) g
  goes_on_so P Q (throw e p) f h g = goes_on_so P Q p f h g
  goes_on_so P Q (clear_errors p) f h g = goes_on_so P Q p f h g
  goes_on_so P Q (hook_is_new p) f h g = λ x. goes_on_so P Q (p x) f (h x) g
  goes_on_so P Q (use_hook k v p) f h g = λ x. goes_on_so P Q (p x) f (h x) g
  goes_on_so P Q (use_effect k e p) f h g = λ x. goes_on_so P Q (p x) f (h x) g

module _ {K : Types} {A : Type 0} where
  pub any_answer : (p : Program K A) → Answers (λ (a : A). Unit {0}) p
  any_answer (done a) = tt
  any_answer (current_scope p) = λ x. any_answer (p x)
  any_answer (parent_scope p) = λ x. any_answer (p x)
  any_answer (current_task p) = λ x. any_answer (p x)
  any_answer (rendering p) = λ x. any_answer (p x)
  any_answer (generation p) = λ x. any_answer (p x)
  any_answer (read n p) = λ x. any_answer (p x)
  any_answer (error p) = λ x. any_answer (p x)
  any_answer (consume_context from k p) = λ x. any_answer (p x)
  any_answer (has_context k p) = λ x. any_answer (p x)
  any_answer (new_context t p) = λ x. any_answer (p x)
  any_answer (run_in n p) = any_answer p
  any_answer (reset_and_run_in n p) = any_answer p
  any_answer (leave p) = any_answer p
  any_answer (new_cell v p) = λ x. any_answer (p x)
  any_answer (write n v p) = any_answer p
  any_answer (drop_cell n p) = any_answer p
  any_answer (spawn a forever isomorphic p) = λ x. any_answer (p x)
  any_answer (remove_future t p) = any_answer p
  any_answer (wake t p) = any_answer p
  any_answer (set_active t b p) = any_answer p
  any_answer (queue_effect e p) = any_answer p
  any_answer (after_suspense_resolved e p) = any_answer p
  any_answer (freeze p) = any_answer p
  any_answer (provide root k v p) = any_answer p
  any_answer (needs_update s p) = any_answer p
  any_answer (captured text p) = λ x. any_answer (p x)
  any_answer (throw e p) = any_answer p
  any_answer (clear_errors p) = any_answer p
  any_answer (hook_is_new p) = λ x. any_answer (p x)
  any_answer (use_hook k v p) = λ x. any_answer (p x)
  any_answer (use_effect k e p) = λ x. any_answer (p x)

  -- after a program of whatever answer
  pub after_any : {B : Type 0} (Q : B → Type 0) (p : Program K A) (f : A → Program K B) → ((a : A) → Answers Q (f a)) → Answers Q (go_on p f)
  after_any Q p f g = goes_on_so (λ (a : A). Unit {0}) Q p f (any_answer p) (λ a u. g a)
