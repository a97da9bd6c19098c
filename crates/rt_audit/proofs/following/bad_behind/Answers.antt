use Rattle.std.proofs.Common.{ap}
use Rattle.rt_audit.specs.declared.following.Found.TheVariants as found
use Rattle.rt_audit.proofs.following.bad_behind.Goals as goal

pub returns : goal.returns
returns c = record { bad = ap (λ n. found.Bad n) c.in_ok-number.ensures.number }
