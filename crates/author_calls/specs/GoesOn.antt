-- A program in data goes on with the answers of these calls, in the calls after them.
use Rattle.std.specs.Prelude.{◌≡◌, ◌≢◌, ℕ, Bool, true, false, nat_le, length, Option, Some, None}
use Rattle.rt_model.specs.Lists.{Text, nth}
use Rattle.rt_model.specs.Program as program
use Rattle.rt_model.specs.Program.{Program, Call, exec, begun, ended, says, faults, parent_in, nearest_boundary, error_in, noted_error, look_up, look_here, provides, hooked, hook_value, hook_stands, drew_cell, drew_context, drew_task, drew_error}
use Rattle.rt_model.specs.Tree.{Types, CapturedError}
use Rattle.rt_model.specs.World as model
use Rattle.rt_model.specs.World.{World, Target, at_end, CounterAtEnd}
use Rattle.run_records.specs.Records.{firsts_of}
use Rattle.author_calls.specs.Calls.{refusal_of, call_of, meaning_of}
use Rattle.author_programs.specs.Contexts.{entered, left}
use Rattle.author_programs.specs.Reads.{read_value, read_call}
use Rattle.author_calls.specs.Steps.{refused}
use Rattle.author_calls.specs.Turn as turns
use Rattle.run_records.specs.World.{CallWorld}
use Rattle.run_records.specs.declared.faults.CxFault.{CxFault}
use Rattle.run_records.specs.declared.faults.CxFault.TheVariants.{OutOfMemory}

module _ (P C Q V H T E L A B : Type 0) where
  -- a call begins as the model's does, ends as it does, and goes on after a refusal as it does
  pub record CallsStandFor : Type 0 where
    pub begun : (in_body : Bool) (w : CallWorld P C Q V H T E L) → call_of (turns.begun in_body w) ≡ begun in_body (firsts_of w.next)
    pub ended : (f : A → B) (c : turns.Call P C Q V H T E L) (a : A)
        → meaning_of f (turns.ended c a).meaning ≡ program.ended (call_of c) (f a)
    -- where no call has wanted memory
    pub refused : (c : turns.Call P C Q V H T E L) (fault : CxFault) (told : model.CallFault)
        → c.fault ≢ Some OutOfMemory → refusal_of (Some fault) ≡ Some told → call_of (refused c fault) ≡ faults (call_of c) told

module _ (K : Types) (A : Type 0) where
  -- what a call is given
  pub record GivenGoesOn : Type 0 where
    pub current_scope : (w : World K) (c : Call K) (f : ℕ → Program K A) → exec w (program.current_scope f) c ≡ exec w (f w.given.scope) c
    pub parent_scope : (w : World K) (c : Call K) (f : Option ℕ → Program K A)
        → exec w (program.parent_scope f) c ≡ exec w (f (parent_in w.given.parents w.given.scope)) c
    pub current_task : (w : World K) (c : Call K) (f : Option ℕ → Program K A)
        → exec w (program.current_task f) c ≡ exec w (f w.given.task) c
    pub rendering : (w : World K) (c : Call K) (f : Bool → Program K A) → exec w (program.rendering f) c ≡ exec w (f w.given.rendering) c
    pub generation : (w : World K) (c : Call K) (f : ℕ → Program K A) → exec w (program.generation f) c ≡ exec w (f w.given.renders) c

  -- reads and look-ups
  pub record ReadsGoOn : Type 0 where
    pub read : (w : World K) (c : Call K) (n : ℕ) (f : Option K.Value → Program K A)
        → exec w (program.read n f) c ≡ exec w (f (read_value w c n)) (read_call c n)
    pub error : (w : World K) (c : Call K) (f : Option CapturedError → Program K A)
        → exec w (program.error f) c ≡ exec w (f (error_in w (nearest_boundary w.given))) (noted_error c (nearest_boundary w.given))
    pub consume_context : (w : World K) (c : Call K) (from : Option ℕ) (k : ℕ) (f : Option K.Value → Program K A)
        → exec w (program.consume_context from k f) c ≡ exec w (f (look_up w from k c).value) (look_up w from k c).call
    pub has_context : (w : World K) (c : Call K) (k : ℕ) (f : Option K.Value → Program K A)
        → exec w (program.has_context k f) c ≡ exec w (f (look_here w k c).value) (look_here w k c).call

  -- reactive contexts
  pub record ContextsGoOn : Type 0 where
    pub new_context : (w : World K) (c : Call K) (t : Target) (f : Option ℕ → Program K A) → at_end c.next.contexts ≡ false
        → exec w (program.new_context t f) c ≡ exec w (f (Some c.next.contexts)) (drew_context c t)
    pub no_context : (w : World K) (c : Call K) (t : Target) (f : Option ℕ → Program K A) → at_end c.next.contexts ≡ true
        → exec w (program.new_context t f) c ≡ exec w (f None) (faults c (CounterAtEnd model.Contexts))
    pub run_in : (w : World K) (c : Call K) (n : ℕ) (p : Program K A) → exec w (program.run_in n p) c ≡ exec w p (entered c n)
    pub reset_and_run_in : (w : World K) (c : Call K) (n : ℕ) (p : Program K A)
        → exec w (program.reset_and_run_in n p) c ≡ exec w p (says (entered c n) (model.Reset n))
    pub leave : (w : World K) (c : Call K) (p : Program K A) → exec w (program.leave p) c ≡ exec w p (left c)

  -- cells
  pub record CellsGoOn : Type 0 where
    pub new_cell : (w : World K) (c : Call K) (v : K.Value) (f : Option ℕ → Program K A) → at_end c.next.cells ≡ false
        → exec w (program.new_cell v f) c ≡ exec w (f (Some c.next.cells)) (drew_cell c v)
    pub no_cell : (w : World K) (c : Call K) (v : K.Value) (f : Option ℕ → Program K A) → at_end c.next.cells ≡ true
        → exec w (program.new_cell v f) c ≡ exec w (f None) (faults c (CounterAtEnd model.Cells))
    pub write : (w : World K) (c : Call K) (n : ℕ) (v : K.Value) (p : Program K A)
        → exec w (program.write n v p) c ≡ exec w p (says c (model.Write n v))
    pub drop_cell : (w : World K) (c : Call K) (n : ℕ) (p : Program K A)
        → exec w (program.drop_cell n p) c ≡ exec w p (says c (model.DropCell n))

  -- tasks, effects and the suspense boundary
  pub record TasksGoOn : Type 0 where
    pub spawn : (w : World K) (c : Call K) (a : K.TaskState) (forever isomorphic : Bool) (f : Option ℕ → Program K A)
        → at_end c.next.tasks ≡ false
        → exec w (program.spawn a forever isomorphic f) c ≡ exec w (f (Some c.next.tasks)) (drew_task c a forever isomorphic)
    pub no_task : (w : World K) (c : Call K) (a : K.TaskState) (forever isomorphic : Bool) (f : Option ℕ → Program K A)
        → at_end c.next.tasks ≡ true
        → exec w (program.spawn a forever isomorphic f) c ≡ exec w (f None) (faults c (CounterAtEnd model.Tasks))
    pub remove_future : (w : World K) (c : Call K) (t : ℕ) (p : Program K A)
        → exec w (program.remove_future t p) c ≡ exec w p (says c (model.RemoveFuture t))
    pub wake : (w : World K) (c : Call K) (t : ℕ) (p : Program K A) → exec w (program.wake t p) c ≡ exec w p (says c (model.Wake t))
    pub set_active : (w : World K) (c : Call K) (t : ℕ) (active : Bool) (p : Program K A)
        → exec w (program.set_active t active p) c ≡ exec w p (says c (model.SetActive t active))
    pub queue_effect : (w : World K) (c : Call K) (e : K.Effect) (p : Program K A)
        → exec w (program.queue_effect e p) c ≡ exec w p (says c (model.QueueEffect e))
    pub after_suspense_resolved : (w : World K) (c : Call K) (e : K.Effect) (p : Program K A)
        → exec w (program.after_suspense_resolved e p) c ≡ exec w p (says c (model.Resolved e))
    pub freeze : (w : World K) (c : Call K) (p : Program K A) → exec w (program.freeze p) c ≡ exec w p (says c model.Freeze)

  -- contexts that are provided, marks and errors
  pub record ErrorsGoOn : Type 0 where
    pub provide : (w : World K) (c : Call K) (root : Bool) (k : ℕ) (v : K.Value) (p : Program K A)
        → exec w (program.provide root k v p) c ≡ exec w p (provides w c root k v)
    pub needs_update : (w : World K) (c : Call K) (s : ℕ) (p : Program K A)
        → exec w (program.needs_update s p) c ≡ exec w p (says c (model.Update s))
    pub captured : (w : World K) (c : Call K) (text : Text) (f : Option CapturedError → Program K A) → at_end c.next.errors ≡ false
        → exec w (program.captured text f) c ≡ exec w (f (Some (record { serial = c.next.errors; text = text }))) (drew_error c)
    pub none_captured : (w : World K) (c : Call K) (text : Text) (f : Option CapturedError → Program K A) → at_end c.next.errors ≡ true
        → exec w (program.captured text f) c ≡ exec w (f None) (faults c (CounterAtEnd model.Errors))
    pub throw : (w : World K) (c : Call K) (e : CapturedError) (p : Program K A)
        → exec w (program.throw e p) c ≡ exec w p (says c (model.Throw e))
    pub clear_errors : (w : World K) (c : Call K) (p : Program K A)
        → exec w (program.clear_errors p) c ≡ exec w p (says c model.ClearErrors)

  -- hooks of a body
  pub record HooksGoOn : Type 0 where
    pub hook_is_new : (w : World K) (c : Call K) (f : Bool → Program K A)
        → exec w (program.hook_is_new f) c ≡ exec w (f (nat_le (length w.given.hooks) c.index)) c
    pub use_hook : (w : World K) (c : Call K) (k : ℕ) (v : K.Value) (f : Option K.Value → Program K A)
        → exec w (program.use_hook k v f) c
        ≡ exec w (f (hook_value k v (nth w.given.hooks c.index))) (hooked w c k (model.HookValue k v) (nth w.given.hooks c.index))
    pub use_effect : (w : World K) (c : Call K) (k : ℕ) (e : K.Effect) (f : Bool → Program K A)
        → exec w (program.use_effect k e f) c
        ≡ exec w (f (hook_stands k (nth w.given.hooks c.index))) (hooked w c k (model.HookEffect k e) (nth w.given.hooks c.index))
