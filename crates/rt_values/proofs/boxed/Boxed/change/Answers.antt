use Rattle.std.proofs.Common.{rules}
use Rattle.rt_values.proofs.boxed.Boxed.change.Goals as goal

pub returns : goal.returns
returns g c = rw (← c.self.view_is) (search rules)
