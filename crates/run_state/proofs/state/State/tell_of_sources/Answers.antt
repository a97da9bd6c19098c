use Rattle.std.proofs.Common.{◌∙◌, ap}
use Rattle.rt_model.specs.Removal.{tell_all, context_sources}
use Rattle.run_state.specs.Mirror.{state_of}
use Rattle.run_state.proofs.Changed.{on_ok}
use Rattle.run_state.proofs.Removed.{told_all}
use Rattle.run_state.proofs.state.State.tell_of_sources.Goals as goal

pub returns : goal.returns
returns g c =
    on_ok c.tell_kinds.result c.tell_kinds.ensures (λ told kept.
    told_all (state_of kept c.args.self.now) (state_of kept c.tell.new.self) (state_of kept c.tell_kinds.new.self) c.args.scope c.in_ok-kinds.kinds.items (c.in_ok-kinds.ensures kept) (c.in_ok-tell.ensures.told kept)
    (told kept ∙ ap (λ ks. tell_all (state_of kept c.tell.new.self) (context_sources c.args.scope ks)) c.as_slice.ensures.value))
