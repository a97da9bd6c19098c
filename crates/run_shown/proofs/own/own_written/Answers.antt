-- What the scope writes, and then the stop.
use Rattle.std.proofs.Common.{◌∙◌, sym}
use Rattle.std.specs.Prelude.{[], if◌then◌else◌}
use Rattle.std.proofs.lemmas.Result.{IfOk-weaker}
use Rattle.rt_model.specs.Caused as caused
use Rattle.run_shown.proofs.ScopesWrite.{unit_both}
use Rattle.run_shown.proofs.own.own_written.Goals as goal

pub returns : goal.returns
returns g c =
    IfOk-weaker c.then_stop.result _ _
    (λ both is app tests passes. is
    ∙ (λ k. caused.then_on (c.in_ok-written.ensures app tests passes k) (if c.is_on_way-stops.ensures k then caused.halts else caused.writes []))
    ∙ sym (unit_both app c.args.unit.now c.args.depth c.args.scope c.if-depth-eq0.false))
    c.then_stop.ensures
