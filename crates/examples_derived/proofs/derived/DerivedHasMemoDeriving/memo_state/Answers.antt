-- The state of a task is the task itself.
use Rattle.std.proofs.Common.{sym}
use Rattle.rt_author.proofs.Rules.{as_coded}
use Rattle.examples_derived.proofs.derived.DerivedHasMemoDeriving.memo_state.Goals as goal

pub returns : goal.returns
returns c = record { state = sym (as_coded c.args.task) }
