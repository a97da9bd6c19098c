-- A program in data goes on as the calls do.
use Rattle.std.proofs.Common.{Bool, true, false, ◌≡◌, [], refl, ap, cond}
use Rattle.std.specs.Prelude.{◌≢◌, Option, Some, None}
use Rattle.rt_model.specs.Program.{Program, Call, exec, first_fault, faults, drew_cell, drew_context, drew_task, drew_error}
use Rattle.rt_model.specs.Tree.{Types}
use Rattle.rt_model.specs.World as model
use Rattle.rt_model.specs.World.{World, CounterAtEnd}
use Rattle.author_programs.proofs.ReadsGoOn.{read-goes-on}
use Rattle.run_records.specs.Records.{in_front, source_of, firsts_of}
use Rattle.author_calls.specs.Calls.{refusal_of, and_cell, and_provided, call_of}
use Rattle.author_calls.specs.GoesOn.{CallsStandFor, GivenGoesOn, ReadsGoOn, ContextsGoOn, CellsGoOn, TasksGoOn, ErrorsGoOn, HooksGoOn}
use Rattle.author_calls.specs.Steps.{first_refusal}
use Rattle.run_records.specs.declared.faults.CxFault.{CxFault}
use Rattle.run_records.specs.declared.faults.CxFault.TheVariants as refusals
use Rattle.rt_cells.specs.declared.contexts.ReactiveContext.{ReactiveContext}
use Rattle.run_records.proofs.Gathered.{gathered-none}

-- the first refusal is the first fault
first-told : (x : Option CxFault) (fault : CxFault) (told : model.CallFault) → x ≢ Some refusals.OutOfMemory → refusal_of (Some fault) ≡ Some told
    → refusal_of (first_refusal x fault) ≡ first_fault (refusal_of x) told
first-told None fault told had is = is
first-told (Some refusals.OutOfMemory) fault told had is = absurd (had refl)
first-told (Some (refusals.IdsExhausted what)) fault told had is = refl
first-told (Some (refusals.HookChanged scope index kept asked)) fault told had is = refl

module _ {P C Q V H T E L A B : Type 0} where
  pub stand-for : CallsStandFor P C Q V H T E L A B
  stand-for =
      record {
        begun = λ in_body w i.
            record {
              in_body = in_body;
              index = 0;
              cells = gathered-none (and_cell {P = P} {C = C} {Q = Q} {V = V} {H = H} {T = T} {E = E} {L = L}) [] i;
              provided = gathered-none (and_provided {P = P} {C = C} {Q = Q} {V = V} {H = H} {T = T} {E = E} {L = L} w.scope.0) [] i;
              into = gathered-none (in_front (λ (r : ReactiveContext). r.0)) [] i;
              next = firsts_of w.next;
              reads = gathered-none (in_front source_of) [] i;
              aside = gathered-none (in_front source_of) [] i;
              commands = [];
              fault = None;
            };
        ended = λ f c a. refl;
        refused = λ c fault told had is i. record (call_of c) { fault = first-told c.fault fault told had is i };
      }

module _ {K : Types} {A : Type 0} where
  pub given-goes-on : GivenGoesOn K A
  given-goes-on =
      record {
        current_scope = λ w c f. refl;
        parent_scope = λ w c f. refl;
        current_task = λ w c f. refl;
        rendering = λ w c f. refl;
        generation = λ w c f. refl;
      }

  pub reads-go-on : ReadsGoOn K A
  reads-go-on =
      record {
        read = read-goes-on;
        error = λ w c f. refl;
        consume_context = λ w c from k f. refl;
        has_context = λ w c k f. refl;
      }

  pub contexts-go-on : ContextsGoOn K A
  contexts-go-on =
      record {
        new_context = λ w c t f h. ap (λ b. cond b (exec w (f None) (faults c (CounterAtEnd model.Contexts))) (exec w (f (Some c.next.contexts)) (drew_context c t))) h;
        no_context = λ w c t f h. ap (λ b. cond b (exec w (f None) (faults c (CounterAtEnd model.Contexts))) (exec w (f (Some c.next.contexts)) (drew_context c t))) h;
        run_in = λ w c n p. refl;
        reset_and_run_in = λ w c n p. refl;
        leave = λ w c p. refl;
      }

  pub cells-go-on : CellsGoOn K A
  cells-go-on =
      record {
        new_cell = λ w c v f h. ap (λ b. cond b (exec w (f None) (faults c (CounterAtEnd model.Cells))) (exec w (f (Some c.next.cells)) (drew_cell c v))) h;
        no_cell = λ w c v f h. ap (λ b. cond b (exec w (f None) (faults c (CounterAtEnd model.Cells))) (exec w (f (Some c.next.cells)) (drew_cell c v))) h;
        write = λ w c n v p. refl;
        drop_cell = λ w c n p. refl;
      }

  pub tasks-go-on : TasksGoOn K A
  tasks-go-on =
      record {
        spawn = λ w c a forever isomorphic f h.
            ap (λ b. cond b (exec w (f None) (faults c (CounterAtEnd model.Tasks))) (exec w (f (Some c.next.tasks)) (drew_task c a forever isomorphic))) h;
        no_task = λ w c a forever isomorphic f h.
            ap (λ b. cond b (exec w (f None) (faults c (CounterAtEnd model.Tasks))) (exec w (f (Some c.next.tasks)) (drew_task c a forever isomorphic))) h;
        remove_future = λ w c t p. refl;
        wake = λ w c t p. refl;
        set_active = λ w c t active p. refl;
        queue_effect = λ w c e p. refl;
        after_suspense_resolved = λ w c e p. refl;
        freeze = λ w c p. refl;
      }

  pub errors-go-on : ErrorsGoOn K A
  errors-go-on =
      record {
        provide = λ w c root k v p. refl;
        needs_update = λ w c s p. refl;
        captured = λ w c text f h.
            ap (λ b. cond b (exec w (f None) (faults c (CounterAtEnd model.Errors))) (exec w (f (Some (record { serial = c.next.errors; text = text }))) (drew_error c))) h;
        none_captured = λ w c text f h.
            ap (λ b. cond b (exec w (f None) (faults c (CounterAtEnd model.Errors))) (exec w (f (Some (record { serial = c.next.errors; text = text }))) (drew_error c))) h;
        throw = λ w c e p. refl;
        clear_errors = λ w c p. refl;
      }

  pub hooks-go-on : HooksGoOn K A
  hooks-go-on = record { hook_is_new = λ w c f. refl; use_hook = λ w c k v f. refl; use_effect = λ w c k e f. refl }
