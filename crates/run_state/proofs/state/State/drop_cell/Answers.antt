use Rattle.std.proofs.Common.{ap, sym, ◌∙◌}
use Rattle.rt_model.specs.World.{Cell}
use Rattle.rt_model.specs.Commands.{tell}
use Rattle.run_state.proofs.Changed.{on_ok}
use Rattle.run_state.proofs.Known.{known_kept}
use Rattle.run_state.proofs.CellsKept.{cell_dropped, cells_alone, no_cell_dropped}
use Rattle.run_state.proofs.Heard.{heard_kept}
use Rattle.run_state.proofs.state.State.drop_cell.Goals as goal

pub returns-in-Some : goal.returns-in-Some
returns-in-Some g c =
    on_ok c.tell.result c.tell.ensures.told (λ told kept. told kept
    ∙ ap (λ w. tell w (Cell c.args.cell)) (cells_alone kept c.args.self.now c.drop_cell.new.self (ap (λ t. t.contexts) c.drop_cell.ensures.dropped))
    ∙ cell_dropped c.args.self.now c.args.cell c.in-Some._value c.drop_cell.new.self (sym c.in-Some.is ∙ c.drop_cell.ensures.value) c.drop_cell.ensures.gone kept)

pub returns-in-None : goal.returns-in-None
returns-in-None g c = λ kept.
    cells_alone kept c.args.self.now c.drop_cell.new.self (ap (λ t. t.contexts) c.drop_cell.ensures.dropped)
    ∙ no_cell_dropped c.args.self.now c.args.cell c.drop_cell.new.self (sym c.in-None.is ∙ c.drop_cell.ensures.value) c.drop_cell.ensures.gone kept

pub invariant_of-self-clause-readers : goal.invariant_of-self-clause-readers
invariant_of-self-clause-readers g c = known_kept (c.args.self.now.rows).table (c.args.self.now.cells).reads (c.drop_cell.new.self).reads (ap (λ t. t.reads) c.drop_cell.ensures.dropped) c.args.self.now.readers

pub invariant_of-self-clause-heard : goal.invariant_of-self-clause-heard
invariant_of-self-clause-heard g c =
    heard_kept c.args.self.now.cells c.drop_cell.new.self c.args.self.now.read_order (ap (λ t. t.contexts) c.drop_cell.ensures.dropped) (ap (λ t. t.reads) c.drop_cell.ensures.dropped) c.args.self.now.heard
