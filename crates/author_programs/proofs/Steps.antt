-- What each call comes to, and what follows it.
use Rattle.std.proofs.Common.{ℕ, Bool, ◌≡◌, refl, nat_le}
use Rattle.std.specs.Prelude.{length, Option, Some, None, if◌then◌else◌}
use Rattle.rt_model.specs.Lists.{Text, nth}
use Rattle.rt_model.specs.Tree.{Types, CapturedError}
use Rattle.rt_model.specs.World as model
use Rattle.rt_model.specs.World.{World, at_end, CounterAtEnd}
use Rattle.rt_model.specs.Program as program
use Rattle.rt_model.specs.Program.{Program, done, Call, says, faults, nearest_boundary, error_in, noted_error, look_up, provides, hooked, hook_value, hook_stands, drew_cell, drew_task, drew_error}
use Rattle.author_programs.specs.Reads.{read_value, read_call}
use Rattle.author_programs.specs.Sequence.{go_on}
use Rattle.author_programs.specs.Came.{came, reached}
use Rattle.author_programs.proofs.Goes.{came-on}

module _ {K : Types} {A B : Type 0} where
  pub on : (w : World K) (p : Program K A) (f : A → Program K B) (c : Call K)
      → came w (go_on p f) c ≡ came w (f (came w p c).answer) (came w p c).call
  on w p f c = came-on w p f c

module _ {K : Types} {A : Type 0} where
  pub at_done : (w : World K) (a : A) (c : Call K) → came w (done a) c ≡ reached a c
  unfolding came
  at_done w a c = refl

  pub at_scope : (w : World K) (f : ℕ → Program K A) (c : Call K)
      → came w (program.current_scope f) c ≡ came w (f w.given.scope) c
  unfolding came
  at_scope w f c = refl

  pub at_task : (w : World K) (f : Option ℕ → Program K A) (c : Call K)
      → came w (program.current_task f) c ≡ came w (f w.given.task) c
  unfolding came
  at_task w f c = refl

  pub at_generation : (w : World K) (f : ℕ → Program K A) (c : Call K)
      → came w (program.generation f) c ≡ came w (f w.given.renders) c
  unfolding came
  at_generation w f c = refl

  pub at_read : (w : World K) (n : ℕ) (f : Option K.Value → Program K A) (c : Call K)
      → came w (program.read n f) c ≡ came w (f (read_value w c n)) (read_call c n)
  unfolding came
  at_read w n f c = refl

  pub at_error : (w : World K) (f : Option CapturedError → Program K A) (c : Call K)
      → came w (program.error f) c ≡ came w (f (error_in w (nearest_boundary w.given))) (noted_error c (nearest_boundary w.given))
  unfolding came
  at_error w f c = refl

  pub at_consume_context : (w : World K) (from : Option ℕ) (k : ℕ) (f : Option K.Value → Program K A) (c : Call K)
      → came w (program.consume_context from k f) c ≡ came w (f (look_up w from k c).value) (look_up w from k c).call
  unfolding came
  at_consume_context w from k f c = refl

  pub at_new_cell : (w : World K) (v : K.Value) (f : Option ℕ → Program K A) (c : Call K)
      → came w (program.new_cell v f) c
      ≡ (if at_end c.next.cells then came w (f None) (faults c (CounterAtEnd model.Cells)) else came w (f (Some c.next.cells)) (drew_cell c v))
  unfolding came
  at_new_cell w v f c = refl

  pub at_write : (w : World K) (n : ℕ) (v : K.Value) (p : Program K A) (c : Call K)
      → came w (program.write n v p) c ≡ came w p (says c (model.Write n v))
  unfolding came
  at_write w n v p c = refl

  pub at_drop_cell : (w : World K) (n : ℕ) (p : Program K A) (c : Call K)
      → came w (program.drop_cell n p) c ≡ came w p (says c (model.DropCell n))
  unfolding came
  at_drop_cell w n p c = refl

  pub at_spawn : (w : World K) (a : K.TaskState) (forever isomorphic : Bool) (f : Option ℕ → Program K A) (c : Call K)
      → came w (program.spawn a forever isomorphic f) c
      ≡ (if at_end c.next.tasks then came w (f None) (faults c (CounterAtEnd model.Tasks)) else came w (f (Some c.next.tasks)) (drew_task c a forever isomorphic))
  unfolding came
  at_spawn w a forever isomorphic f c = refl

  pub at_remove_future : (w : World K) (t : ℕ) (p : Program K A) (c : Call K)
      → came w (program.remove_future t p) c ≡ came w p (says c (model.RemoveFuture t))
  unfolding came
  at_remove_future w t p c = refl

  pub at_wake : (w : World K) (t : ℕ) (p : Program K A) (c : Call K)
      → came w (program.wake t p) c ≡ came w p (says c (model.Wake t))
  unfolding came
  at_wake w t p c = refl

  pub at_set_active : (w : World K) (t : ℕ) (b : Bool) (p : Program K A) (c : Call K)
      → came w (program.set_active t b p) c ≡ came w p (says c (model.SetActive t b))
  unfolding came
  at_set_active w t b p c = refl

  pub at_queue_effect : (w : World K) (e : K.Effect) (p : Program K A) (c : Call K)
      → came w (program.queue_effect e p) c ≡ came w p (says c (model.QueueEffect e))
  unfolding came
  at_queue_effect w e p c = refl

  pub at_resolved : (w : World K) (e : K.Effect) (p : Program K A) (c : Call K)
      → came w (program.after_suspense_resolved e p) c ≡ came w p (says c (model.Resolved e))
  unfolding came
  at_resolved w e p c = refl

  pub at_freeze : (w : World K) (p : Program K A) (c : Call K)
      → came w (program.freeze p) c ≡ came w p (says c model.Freeze)
  unfolding came
  at_freeze w p c = refl

  pub at_provide : (w : World K) (root : Bool) (k : ℕ) (v : K.Value) (p : Program K A) (c : Call K)
      → came w (program.provide root k v p) c ≡ came w p (provides w c root k v)
  unfolding came
  at_provide w root k v p c = refl

  pub at_needs_update : (w : World K) (s : ℕ) (p : Program K A) (c : Call K)
      → came w (program.needs_update s p) c ≡ came w p (says c (model.Update s))
  unfolding came
  at_needs_update w s p c = refl

  pub at_captured : (w : World K) (text : Text) (f : Option CapturedError → Program K A) (c : Call K)
      → came w (program.captured text f) c
      ≡ (if at_end c.next.errors
      then came w (f None) (faults c (CounterAtEnd model.Errors))
      else came w (f (Some (record { serial = c.next.errors; text = text }))) (drew_error c))
  unfolding came
  at_captured w text f c = refl

  pub at_throw : (w : World K) (e : CapturedError) (p : Program K A) (c : Call K)
      → came w (program.throw e p) c ≡ came w p (says c (model.Throw e))
  unfolding came
  at_throw w e p c = refl

  pub at_clear_errors : (w : World K) (p : Program K A) (c : Call K)
      → came w (program.clear_errors p) c ≡ came w p (says c model.ClearErrors)
  unfolding came
  at_clear_errors w p c = refl

  pub at_hook_is_new : (w : World K) (f : Bool → Program K A) (c : Call K)
      → came w (program.hook_is_new f) c ≡ came w (f (nat_le (length w.given.hooks) c.index)) c
  unfolding came
  at_hook_is_new w f c = refl

  pub at_use_hook : (w : World K) (k : ℕ) (v : K.Value) (f : Option K.Value → Program K A) (c : Call K)
      → came w (program.use_hook k v f) c
      ≡ came w (f (hook_value k v (nth w.given.hooks c.index))) (hooked w c k (model.HookValue k v) (nth w.given.hooks c.index))
  unfolding came
  at_use_hook w k v f c = refl

  pub at_use_effect : (w : World K) (k : ℕ) (e : K.Effect) (f : Bool → Program K A) (c : Call K)
      → came w (program.use_effect k e f) c
      ≡ came w (f (hook_stands k (nth w.given.hooks c.index))) (hooked w c k (model.HookEffect k e) (nth w.given.hooks c.index))
  unfolding came
  at_use_effect w k e f c = refl

pub ruleset steps = (on, at_done, at_scope, at_task, at_generation, at_read, at_error, at_consume_context, at_new_cell, at_write, at_drop_cell, at_spawn, at_remove_future, at_wake, at_set_active, at_queue_effect, at_resolved, at_freeze, at_provide, at_needs_update, at_captured, at_throw, at_clear_errors, at_hook_is_new, at_use_hook, at_use_effect)

pub ruleset looking = (at_consume_context, at_scope)
