use Rattle.rt_inbox.proofs.Keeps.{begins}
use Rattle.rt_inbox.proofs.line.open.Goals as goal

pub open-requires : goal.open-requires
open-requires c = record { rule = begins }
