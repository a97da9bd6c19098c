-- It begins, and all are read then.
use Rattle.std.proofs.Common.{nat_eq, ◌∙◌}
use Rattle.run_state.specs.Sources.{read_into}
use Rattle.run_state.proofs.ReadAnew.{begun_then}
use Rattle.run_state.proofs.read_order.ReadOrder.anew.Goals as goal

pub returns : goal.returns
returns c = λ number.
    c.read_all.ensures number
    ∙ begun_then (nat_eq c.args.context number) (read_into c.args.self.now number) (read_into c.begin.new.self number) c.args.sources.now (c.begin.ensures number)
