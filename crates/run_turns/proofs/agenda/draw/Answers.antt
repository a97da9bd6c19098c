use Rattle.std.proofs.Common.{◌∙◌, ap, refl, sym}
use Rattle.std.proofs.lemmas.Result.{err_from_is_err_and}
use Rattle.rt_model.specs.State as model
use Rattle.run_state.specs.Mirror.{state_of}
use Rattle.run_work.specs.Items.{work_of}
use Rattle.run_turns.proofs.Arms.{cut_as, cut_by}
use Rattle.run_turns.proofs.agenda.draw.Goals as goal

pub returns-in_err-draw_number : goal.returns-in_err-draw_number
returns-in_err-draw_number g c =
    record {
      drawn =
          λ kept.
          let p = err_from_is_err_and c.from_residual.result c.from_residual.ensures.1 in
          rw (p.1, p.2) (kept, cut_as _ _ _ _ refl (cut_by _ _ c.in_err-draw_number.field-0.0 (λ what is. c.in_err-draw_number.ensures.cut what is kept)));
    }

pub returns : goal.returns
returns g c =
    record {
      drawn =
          λ kept.
          (kept, c.in_ok-draw_number.ensures.done kept ∙ ap (λ xs. model.Done (state_of kept c.draw_number.new.self) (work_of xs)) (sym c.new.ensures.empty));
    }
