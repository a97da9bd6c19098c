-- Live, and not active.
use Rattle.std.proofs.Common.{◌&&◌, not, ap, ◌∙◌}
use Rattle.std.specs.Prelude.{is_some}
use Rattle.rt_model.specs.Lists.{at}
use Rattle.rt_vdom.specs.Doms.{StateIn}
use Rattle.rt_vdom.proofs.dom.VirtualDom.is_paused.Goals as goal

pub returns : goal.returns
returns g c =
    record {
      paused =
          λ kept.
          ap (λ b. b && not c.is_active.result) (c.has_task.ensures kept)
          ∙ ap (λ b. is_some (at (StateIn kept c.args.self.now).tasks c.args.task.0) && not b) (c.is_active.ensures kept);
    }
