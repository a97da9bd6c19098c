use Rattle.std.proofs.Common.{◌≡◌, ◌∙◌, ap}
use Rattle.std.specs.Prelude.{Some}
use Rattle.rt_model.specs.State as model
use Rattle.rt_model.specs.State.{change}
use Rattle.run_state.specs.Mirror.{state_of}
use Rattle.run_state.proofs.Changed.{on_ok}
use Rattle.run_state.proofs.Resolves.{with_resolved}
use Rattle.run_state.proofs.state.State.show_fallback.Goals as goal

pub returns : goal.returns
returns g c =
    on_ok c.show.result c.show.ensures (λ shown kept. shown kept
    ∙ ap (λ rs. change (with_resolved (state_of kept c.args.self.now) rs) c.args.boundary (λ x. record x { shows = Some model.FallbackSide })) c.drop_number.ensures)
