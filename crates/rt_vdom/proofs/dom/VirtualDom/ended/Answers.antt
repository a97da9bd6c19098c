-- A fault leaves a dom failed, unless units were spent.
use Rattle.std.proofs.Common.{ap}
use Rattle.rt_vdom.proofs.Failed.{fails_as, stage_kept}
use Rattle.rt_vdom.proofs.dom.VirtualDom.ended.Goals as goal

pub returns-clause-fails : goal.returns-clause-fails
returns-clause-fails g c =
    λ built.
    fails_as (record c.args.self.now { stage = c.failed_unless-self.result }) c.args.ended c.fault.result c.is_spent.result c.fault.ensures.of
    c.is_spent.ensures c.args.self.now.stage built c.failed_unless-self.ensures

pub returns-clause-spent : goal.returns-clause-spent
returns-clause-spent g c =
    λ units out.
    ap (λ x. record c.args.self.now { stage = x })
    (stage_kept c.args.ended c.is_spent.result c.args.self.now.stage c.failed_unless-self.result units c.is_spent.ensures out c.failed_unless-self.ensures)

pub returns-clause-causes : goal.returns-clause-causes
returns-clause-causes g c = λ before after why. c.fault.ensures.causes c.args.self.now.limits before after why
