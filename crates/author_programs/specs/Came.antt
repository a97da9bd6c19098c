-- What a program comes to, and the call as it stands then.
use Rattle.std.specs.Prelude.{nat_le, length, Some, None, if◌then◌else◌}
use Rattle.rt_model.specs.Lists.{nth}
use Rattle.rt_model.specs.Tree.{Types}
use Rattle.rt_model.specs.World.{World, HookValue, HookEffect, Write, DropCell, RemoveFuture, Wake, SetActive, QueueEffect, Resolved, Freeze, Update, Throw, ClearErrors, Reset, Contexts, Cells, Tasks, Errors, CounterAtEnd, at_end}
use Rattle.rt_model.specs.Program.{Program, done, current_scope, parent_scope, current_task, rendering, generation, read, error, consume_context, has_context, new_context, run_in, reset_and_run_in, leave, new_cell, write, drop_cell, spawn, remove_future, wake, set_active, queue_effect, after_suspense_resolved, freeze, provide, needs_update, captured, throw, clear_errors, hook_is_new, use_hook, use_effect, Call, says, faults, parent_in, nearest_boundary, error_in, noted_error, look_up, look_here, provides, hooked, hook_value, hook_stands, drew_cell, drew_context, drew_task, drew_error}
use Rattle.author_programs.specs.Contexts.{entered, left}
use Rattle.author_programs.specs.Reads.{read_value, read_call}

-- an answer, and the call after it
pub record Came (K : Types) (A : Type 0) : Type 0 where
  pub answer : A
  pub call : Call K

module _ {K : Types} {A : Type 0} where
  -- an answer is reached
  abbrev pub reached : A → Call K → Came K A
  reached a c = record { answer = a; call = c }

  -- what a program comes to from a call as far as it came
  unfoldable pub came : World K → Program K A → Call K → Came K A
  came w (done a) c = reached a c
  came w (current_scope f) c = came w (f w.given.scope) c
  came w (parent_scope f) c = came w (f (parent_in w.given.parents w.given.scope)) c
  came w (current_task f) c = came w (f w.given.task) c
  came w (rendering f) c = came w (f w.given.rendering) c
  came w (generation f) c = came w (f w.given.renders) c
  came w (read n f) c = came w (f (read_value w c n)) (read_call c n)
  came w (error f) c = came w (f (error_in w (nearest_boundary w.given))) (noted_error c (nearest_boundary w.given))
  came w (consume_context from k f) c = came w (f (look_up w from k c).value) (look_up w from k c).call
  came w (has_context k f) c = came w (f (look_here w k c).value) (look_here w k c).call
  came w (new_context t f) c =
      if at_end c.next.contexts then came w (f None) (faults c (CounterAtEnd Contexts))
      else came w (f (Some c.next.contexts)) (drew_context c t)
  came w (run_in n p) c = came w p (entered c n)
  came w (reset_and_run_in n p) c = came w p (says (entered c n) (Reset n))
  came w (leave p) c = came w p (left c)
  came w (new_cell v f) c =
      if at_end c.next.cells then came w (f None) (faults c (CounterAtEnd Cells)) else came w (f (Some c.next.cells)) (drew_cell c v)
  came w (write n v p) c = came w p (says c (Write n v))
  came w (drop_cell n p) c = came w p (says c (DropCell n))
  came w (spawn a forever isomorphic f) c =
      if at_end c.next.tasks
      then came w (f None) (faults c (CounterAtEnd Tasks))
      else came w (f (Some c.next.tasks)) (drew_task c a forever isomorphic)
  came w (remove_future t p) c = came w p (says c (RemoveFuture t))
  came w (wake t p) c = came w p (says c (Wake t))
  came w (set_active t b p) c = came w p (says c (SetActive t b))
  came w (queue_effect e p) c = came w p (says c (QueueEffect e))
  came w (after_suspense_resolved e p) c = came w p (says c (Resolved e))
  came w (freeze p) c = came w p (says c Freeze)
  came w (provide root k v p) c = came w p (provides w c root k v)
  came w (needs_update s p) c = came w p (says c (Update s))
  came w (captured text f) c =
      if at_end c.next.errors
      then came w (f None) (faults c (CounterAtEnd Errors))
      else came w (f (Some (record { serial = c.next.errors; text = text }))) (drew_error c)
  came w (throw e p) c = came w p (says c (Throw e))
  came w (clear_errors p) c = came w p (says c ClearErrors)
  came w (hook_is_new f) c = came w (f (nat_le (length w.given.hooks) c.index)) c
  came w (use_hook k v f) c =
      came w (f (hook_value k v (nth w.given.hooks c.index))) (hooked w c k (HookValue k v) (nth w.given.hooks c.index))
  came w (use_effect k e f) c =
      came w (f (hook_stands k (nth w.given.hooks c.index))) (hooked w c k (HookEffect k e) (nth w.given.hooks c.index))
