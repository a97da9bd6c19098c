use Rattle.std.proofs.Common.{ap, sym, ◌∙◌}
use Rattle.run_state.proofs.Changed.{either_way, on_err, on_ok}
use Rattle.run_state.proofs.CellsKept.{cell_made, cells_alone, no_cell_made}
use Rattle.run_state.proofs.Known.{known_kept}
use Rattle.run_state.proofs.Heard.{heard_kept}
use Rattle.run_state.proofs.state.State.new_cell.Goals as goal

pub returns-then-not-is_live : goal.returns-then-not-is_live
returns-then-not-is_live g c = no_cell_made c.args.self.now c.args.scope c.args.cell c.args.value (λ kept. sym (c.is_live.ensures kept) ∙ c.if-not-is_live.true)

pub returns-in-Ok : goal.returns-in-Ok
returns-in-Ok g c = λ kept app polled.
    cells_alone kept c.args.self.now c.enter_cell.new.self (ap (λ t. t.contexts) c.in-Ok.ensures.ok)
    ∙ cell_made c.args.self.now c.args.scope c.args.cell c.args.value c.enter_cell.new.self (λ live. sym (c.is_live.ensures live) ∙ c.if-not-is_live.false) c.in-Ok.ensures.ok kept app polled

pub invariant_of-self-clause-readers : goal.invariant_of-self-clause-readers
invariant_of-self-clause-readers g c =
    known_kept (c.args.self.now.rows).table (c.args.self.now.cells).reads (c.enter_cell.new.self).reads
    (either_way c.enter_cell.result (on_ok c.enter_cell.result c.enter_cell.ensures.ok (λ is. ap (λ t. t.reads) is)) (on_err c.enter_cell.result c.enter_cell.ensures.err (λ is. ap (λ t. t.reads) is)))
    c.args.self.now.readers

pub invariant_of-self-clause-heard : goal.invariant_of-self-clause-heard
invariant_of-self-clause-heard g c =
    heard_kept c.args.self.now.cells c.enter_cell.new.self c.args.self.now.read_order
    (either_way c.enter_cell.result (on_ok c.enter_cell.result c.enter_cell.ensures.ok (λ is. ap (λ t. t.contexts) is)) (on_err c.enter_cell.result c.enter_cell.ensures.err (λ is. ap (λ t. t.contexts) is)))
    (either_way c.enter_cell.result (on_ok c.enter_cell.result c.enter_cell.ensures.ok (λ is. ap (λ t. t.reads) is)) (on_err c.enter_cell.result c.enter_cell.ensures.err (λ is. ap (λ t. t.reads) is)))
    c.args.self.now.heard
