use Rattle.std.proofs.Common.{◌≡◌, ◌∙◌, ap}
use Rattle.rt_model.specs.State.{change}
use Rattle.run_state.specs.Mirror.{state_of}
use Rattle.run_state.proofs.Changed.{on_ok}
use Rattle.run_state.proofs.state.State.keep_reads.Goals as goal

pub returns : goal.returns
returns g c =
    on_ok c.put_reads.result c.put_reads.ensures (λ put kept. put kept
    ∙ ap (λ rs. change (state_of kept c.args.self.now) c.args.scope (λ x. record x { reads = rs })) c.newest_first.ensures)
