use Rattle.std.proofs.Common.{rules, ◌∙◌, ap, sym, []}
use Rattle.rt_model.specs.State as model
use Rattle.run_state.specs.Mirror.{state_of}
use Rattle.run_work.specs.Items.{work_of}
use Rattle.run_turns.proofs.agenda.put.Goals as goal

pub returns : goal.returns
returns g c =
    record {
      done =
          λ app kept. (
            kept,
            ap (λ w. model.Done w []) (sym (c.in_ok-put_component.ensures kept)) ∙ ap (λ xs. model.Done (state_of kept c.put_component.new.self) (work_of xs)) (sym c.new.ensures.empty),
          );
    }

pub returns-in_err-put_component : goal.returns-in_err-put_component
returns-in_err-put_component g c =
    record {
      done = λ app kept. (kept, search rules);
    }
