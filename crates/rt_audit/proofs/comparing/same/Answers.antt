use Rattle.rt_audit.proofs.Same.{same_is}
use Rattle.rt_audit.proofs.comparing.same.Goals as goal

pub returns : goal.returns
returns c = record { same = same_is c.args.a c.args.b c.same.result c.same.ensures.same }
