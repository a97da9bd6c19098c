-- One more is read, and at the end all are.
use Rattle.std.proofs.Common.{nat_eq, ◌∙◌}
use Rattle.rt_cells.specs.declared.sources.Source.TheVariants.{Cell}
use Rattle.run_state.specs.Sources.{read_into}
use Rattle.run_state.proofs.ReadAnew.{read_end, read_step}
use Rattle.run_state.proofs.read_order.ReadOrder.read_all.Goals as goal

pub loop-source-preserved : goal.loop-source-preserved
loop-source-preserved c = λ number.
    read_step c.args.sources.now c.loop-source.source-index (Cell 0) (nat_eq c.args.context number) (read_into c.loop-source.self number) (read_into c.read.new.self number)
    c.loop-source-test.true (c.read.ensures number)
    ∙ c.loop-source.invariant number

pub returns : goal.returns
returns c = λ number.
    read_end c.args.sources.now c.loop-source.source-index (nat_eq c.args.context number) (read_into c.loop-source.self number) _ c.loop-source-test.false (c.loop-source.invariant number)
