use Rattle.std.proofs.Common.{ap, sym, ◌∙◌}
use Rattle.rt_model.specs.World.{Cell}
use Rattle.rt_model.specs.Commands.{tell}
use Rattle.run_state.proofs.Changed.{on_ok}
use Rattle.run_state.proofs.Known.{known_kept}
use Rattle.run_state.proofs.CellsKept.{cell_written, cells_alone, no_cell_written}
use Rattle.run_state.proofs.Heard.{heard_kept}
use Rattle.run_state.proofs.state.State.write_cell.Goals as goal

pub returns-then-write : goal.returns-then-write
returns-then-write g c =
    on_ok c.tell.result c.tell.ensures.told (λ told kept. told kept
    ∙ ap (λ w. tell w (Cell c.args.cell)) (cells_alone kept c.args.self.now c.write.new.self (ap (λ t. t.contexts) c.write.ensures.written))
    ∙ cell_written c.args.self.now c.args.cell c.args.value c.write.new.self (sym c.write.ensures.live ∙ c.if-write.true) c.write.ensures.written kept)

pub returns-else-write : goal.returns-else-write
returns-else-write g c = λ kept.
    cells_alone kept c.args.self.now c.write.new.self (ap (λ t. t.contexts) c.write.ensures.written)
    ∙ no_cell_written c.args.self.now c.args.cell c.args.value c.write.new.self (sym c.write.ensures.live ∙ c.if-write.false) c.write.ensures.written kept

pub invariant_of-self-clause-readers : goal.invariant_of-self-clause-readers
invariant_of-self-clause-readers g c = known_kept (c.args.self.now.rows).table (c.args.self.now.cells).reads (c.write.new.self).reads (ap (λ t. t.reads) c.write.ensures.written) c.args.self.now.readers

pub invariant_of-self-clause-heard : goal.invariant_of-self-clause-heard
invariant_of-self-clause-heard g c =
    heard_kept c.args.self.now.cells c.write.new.self c.args.self.now.read_order (ap (λ t. t.contexts) c.write.ensures.written) (ap (λ t. t.reads) c.write.ensures.written) c.args.self.now.heard
