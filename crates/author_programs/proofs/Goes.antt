-- A program that goes on with another one comes to what that comes to.
use Rattle.std.proofs.Common.{Bool, true, false, ◌≡◌, refl, ◌∙◌, nat_le}
use Rattle.std.specs.Prelude.{length, Some, None, if◌then◌else◌}
use Rattle.rt_model.specs.Lists.{nth}
use Rattle.rt_model.specs.Tree.{Types}
use Rattle.rt_model.specs.World.{World, at_end, HookValue, HookEffect, Write, DropCell, RemoveFuture, Wake, SetActive, QueueEffect, Resolved, Freeze, Update, Throw, ClearErrors, Reset, Contexts, Cells, Tasks, Errors, CounterAtEnd, Meaning}
use Rattle.rt_model.specs.Program.{Program, done, current_scope, parent_scope, current_task, rendering, generation, read, error, consume_context, has_context, new_context, run_in, reset_and_run_in, leave, new_cell, write, drop_cell, spawn, remove_future, wake, set_active, queue_effect, after_suspense_resolved, freeze, provide, needs_update, captured, throw, clear_errors, hook_is_new, use_hook, use_effect, Call, exec, ended, says, faults, parent_in, nearest_boundary, error_in, noted_error, look_up, look_here, provides, hooked, hook_value, hook_stands, drew_cell, drew_context, drew_task, drew_error}
use Rattle.author_programs.specs.Contexts.{entered, left}
use Rattle.author_programs.specs.Reads.{read_value, read_call}
use Rattle.author_programs.proofs.ReadsGoOn.{read-goes-on}
use Rattle.author_programs.specs.Sequence.{go_on}
use Rattle.author_programs.specs.Came.{Came, came}

module _ {K : Types} {A B : Type 0} where
  -- what a first program came to, and then what follows its answer
  abbrev pub came_then : World K → Came K A → (A → Program K B) → Came K B
  came_then w d f = came w (f d.answer) d.call

  either : (b : Bool) (w : World K) (f : A → Program K B) (p q : Program K A) (c d : Call K)
      → came w (go_on p f) c ≡ came_then w (came w p c) f
      → came w (go_on q f) d ≡ came_then w (came w q d) f
      → (if b then came w (go_on p f) c else came w (go_on q f) d) ≡ came_then w (if b then came w p c else came w q d) f
  either true w f p q c d h k = h
  either false w f p q c d h k = k

  -- one program after another
  pub came-on : (w : World K) (p : Program K A) (f : A → Program K B) (c : Call K) → came w (go_on p f) c ≡ came_then w (came w p c) f
  unfolding came go_on
  came-on w (done a) f c = refl
  came-on w (current_scope g) f c = came-on w (g w.given.scope) f c
  came-on w (parent_scope g) f c = came-on w (g (parent_in w.given.parents w.given.scope)) f c
  came-on w (current_task g) f c = came-on w (g w.given.task) f c
  came-on w (rendering g) f c = came-on w (g w.given.rendering) f c
  came-on w (generation g) f c = came-on w (g w.given.renders) f c
  came-on w (read n g) f c = came-on w (g (read_value w c n)) f (read_call c n)
  came-on w (error g) f c = came-on w (g (error_in w (nearest_boundary w.given))) f (noted_error c (nearest_boundary w.given))
  came-on w (consume_context from k g) f c = came-on w (g (look_up w from k c).value) f (look_up w from k c).call
  came-on w (has_context k g) f c = came-on w (g (look_here w k c).value) f (look_here w k c).call
  came-on w (new_context t g) f c =
      either (at_end c.next.contexts) w f (g None) (g (Some c.next.contexts)) (faults c (CounterAtEnd Contexts)) (drew_context c t)
      (came-on w (g None) f (faults c (CounterAtEnd Contexts)))
      (came-on w (g (Some c.next.contexts)) f (drew_context c t))
  came-on w (run_in n p) f c = came-on w p f (entered c n)
  came-on w (reset_and_run_in n p) f c = came-on w p f (says (entered c n) (Reset n))
  came-on w (leave p) f c = came-on w p f (left c)
  came-on w (new_cell v g) f c =
      either (at_end c.next.cells) w f (g None) (g (Some c.next.cells)) (faults c (CounterAtEnd Cells)) (drew_cell c v)
      (came-on w (g None) f (faults c (CounterAtEnd Cells)))
      (came-on w (g (Some c.next.cells)) f (drew_cell c v))
  came-on w (write n v p) f c = came-on w p f (says c (Write n v))
  came-on w (drop_cell n p) f c = came-on w p f (says c (DropCell n))
  came-on w (spawn a forever isomorphic g) f c =
      either (at_end c.next.tasks) w f (g None) (g (Some c.next.tasks)) (faults c (CounterAtEnd Tasks)) (drew_task c a forever isomorphic)
      (came-on w (g None) f (faults c (CounterAtEnd Tasks)))
      (came-on w (g (Some c.next.tasks)) f (drew_task c a forever isomorphic))
  came-on w (remove_future t p) f c = came-on w p f (says c (RemoveFuture t))
  came-on w (wake t p) f c = came-on w p f (says c (Wake t))
  came-on w (set_active t b p) f c = came-on w p f (says c (SetActive t b))
  came-on w (queue_effect e p) f c = came-on w p f (says c (QueueEffect e))
  came-on w (after_suspense_resolved e p) f c = came-on w p f (says c (Resolved e))
  came-on w (freeze p) f c = came-on w p f (says c Freeze)
  came-on w (provide root k v p) f c = came-on w p f (provides w c root k v)
  came-on w (needs_update s p) f c = came-on w p f (says c (Update s))
  came-on w (captured text g) f c =
      either (at_end c.next.errors) w f (g None) (g (Some (record { serial = c.next.errors; text = text }))) (faults c (CounterAtEnd Errors)) (drew_error c)
      (came-on w (g None) f (faults c (CounterAtEnd Errors)))
      (came-on w (g (Some (record { serial = c.next.errors; text = text }))) f (drew_error c))
  came-on w (throw e p) f c = came-on w p f (says c (Throw e))
  came-on w (clear_errors p) f c = came-on w p f (says c ClearErrors)
  came-on w (hook_is_new g) f c = came-on w (g (nat_le (length w.given.hooks) c.index)) f c
  came-on w (use_hook k v g) f c =
      came-on w (g (hook_value k v (nth w.given.hooks c.index))) f (hooked w c k (HookValue k v) (nth w.given.hooks c.index))
  came-on w (use_effect k e g) f c =
      came-on w (g (hook_stands k (nth w.given.hooks c.index))) f (hooked w c k (HookEffect k e) (nth w.given.hooks c.index))

module _ {K : Types} {A : Type 0} where
  -- the meaning of a program that came to an answer
  abbrev pub told_by : Came K A → Meaning K A
  told_by d = ended d.call d.answer

  told : (b : Bool) (w : World K) (p q : Program K A) (c d : Call K)
      → exec w p c ≡ told_by (came w p c)
      → exec w q d ≡ told_by (came w q d)
      → (if b then exec w p c else exec w q d) ≡ told_by (if b then came w p c else came w q d)
  told true w p q c d h k = h
  told false w p q c d h k = k

  -- a program means what it comes to
  pub exec-came : (w : World K) (p : Program K A) (c : Call K) → exec w p c ≡ told_by (came w p c)
  unfolding came
  exec-came w (done a) c = refl
  exec-came w (current_scope g) c = exec-came w (g w.given.scope) c
  exec-came w (parent_scope g) c = exec-came w (g (parent_in w.given.parents w.given.scope)) c
  exec-came w (current_task g) c = exec-came w (g w.given.task) c
  exec-came w (rendering g) c = exec-came w (g w.given.rendering) c
  exec-came w (generation g) c = exec-came w (g w.given.renders) c
  exec-came w (read n g) c = read-goes-on w c n g ∙ exec-came w (g (read_value w c n)) (read_call c n)
  exec-came w (error g) c = exec-came w (g (error_in w (nearest_boundary w.given))) (noted_error c (nearest_boundary w.given))
  exec-came w (consume_context from k g) c = exec-came w (g (look_up w from k c).value) (look_up w from k c).call
  exec-came w (has_context k g) c = exec-came w (g (look_here w k c).value) (look_here w k c).call
  exec-came w (new_context t g) c =
      told (at_end c.next.contexts) w (g None) (g (Some c.next.contexts)) (faults c (CounterAtEnd Contexts)) (drew_context c t)
      (exec-came w (g None) (faults c (CounterAtEnd Contexts)))
      (exec-came w (g (Some c.next.contexts)) (drew_context c t))
  exec-came w (run_in n p) c = exec-came w p (entered c n)
  exec-came w (reset_and_run_in n p) c = exec-came w p (says (entered c n) (Reset n))
  exec-came w (leave p) c = exec-came w p (left c)
  exec-came w (new_cell v g) c =
      told (at_end c.next.cells) w (g None) (g (Some c.next.cells)) (faults c (CounterAtEnd Cells)) (drew_cell c v)
      (exec-came w (g None) (faults c (CounterAtEnd Cells)))
      (exec-came w (g (Some c.next.cells)) (drew_cell c v))
  exec-came w (write n v p) c = exec-came w p (says c (Write n v))
  exec-came w (drop_cell n p) c = exec-came w p (says c (DropCell n))
  exec-came w (spawn a forever isomorphic g) c =
      told (at_end c.next.tasks) w (g None) (g (Some c.next.tasks)) (faults c (CounterAtEnd Tasks)) (drew_task c a forever isomorphic)
      (exec-came w (g None) (faults c (CounterAtEnd Tasks)))
      (exec-came w (g (Some c.next.tasks)) (drew_task c a forever isomorphic))
  exec-came w (remove_future t p) c = exec-came w p (says c (RemoveFuture t))
  exec-came w (wake t p) c = exec-came w p (says c (Wake t))
  exec-came w (set_active t b p) c = exec-came w p (says c (SetActive t b))
  exec-came w (queue_effect e p) c = exec-came w p (says c (QueueEffect e))
  exec-came w (after_suspense_resolved e p) c = exec-came w p (says c (Resolved e))
  exec-came w (freeze p) c = exec-came w p (says c Freeze)
  exec-came w (provide root k v p) c = exec-came w p (provides w c root k v)
  exec-came w (needs_update s p) c = exec-came w p (says c (Update s))
  exec-came w (captured text g) c =
      told (at_end c.next.errors) w (g None) (g (Some (record { serial = c.next.errors; text = text }))) (faults c (CounterAtEnd Errors)) (drew_error c)
      (exec-came w (g None) (faults c (CounterAtEnd Errors)))
      (exec-came w (g (Some (record { serial = c.next.errors; text = text }))) (drew_error c))
  exec-came w (throw e p) c = exec-came w p (says c (Throw e))
  exec-came w (clear_errors p) c = exec-came w p (says c ClearErrors)
  exec-came w (hook_is_new g) c = exec-came w (g (nat_le (length w.given.hooks) c.index)) c
  exec-came w (use_hook k v g) c =
      exec-came w (g (hook_value k v (nth w.given.hooks c.index))) (hooked w c k (HookValue k v) (nth w.given.hooks c.index))
  exec-came w (use_effect k e g) c =
      exec-came w (g (hook_stands k (nth w.given.hooks c.index))) (hooked w c k (HookEffect k e) (nth w.given.hooks c.index))
