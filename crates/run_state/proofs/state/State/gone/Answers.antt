use Rattle.std.proofs.Common.{◌∙◌, ap}
use Rattle.rt_model.specs.Removal.{tell_all, cell_sources}
use Rattle.run_state.specs.Mirror.{forgets, state_of}
use Rattle.run_state.proofs.Changed.{on_ok}
use Rattle.run_state.proofs.Removed.{cells_found, all_gone}
use Rattle.run_state.proofs.state.State.gone.Goals as goal

pub drop_scope-requires : goal.drop_scope-requires
drop_scope-requires g c = record { unseen = c.is_at_work.ensures.unseen c.if-is_at_work.false; no_tasks = c.is_at_work.ensures.no_tasks c.if-is_at_work.false }

pub returns : goal.returns
returns g c =
    on_ok c.tell_of_sources.result c.tell_of_sources.ensures (λ told kept.
    all_gone (state_of kept c.args.self.now) (state_of (forgets kept c.args.scope) c.drop_scope.new.self) (state_of (forgets kept c.args.scope) c.tell_cells.new.self) (state_of (forgets kept c.args.scope) c.tell_of_sources.new.self)
    c.args.scope c.in_ok-cells.cells (cells_found kept c.args.self.now c.args.scope c.in_ok-cells.cells c.in_ok-cells.ensures.owned) (c.drop_scope.ensures kept)
    (c.in_ok-tell_cells.ensures (forgets kept c.args.scope) ∙ ap (λ ns. tell_all (state_of (forgets kept c.args.scope) c.drop_scope.new.self) (cell_sources ns)) c.as_slice.ensures.items)
    (told (forgets kept c.args.scope)))
