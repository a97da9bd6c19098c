use Rattle.std.proofs.Common.{sym}
use Rattle.run_state.proofs.Forgets.{starts_here, starts_none}
use Rattle.run_state.proofs.places.stays.Goals as goal

pub returns-then-next-stay-clause-is : goal.returns-then-next-stay-clause-is
returns-then-next-stay-clause-is c = sym (starts_here c.args.stay.now c.args.next c.args.number (0, 0) c.if-next-stay.true)

pub returns-else-next-stay-clause-is : goal.returns-else-next-stay-clause-is
returns-else-next-stay-clause-is c = sym (starts_none c.args.stay.now c.args.next c.args.number c.if-next-stay.false)
