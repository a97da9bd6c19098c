-- The state of a task is the task itself.
use Rattle.std.proofs.Common.{sym}
use Rattle.author_deriving.proofs.Returning.{as_coded}
use Rattle.author_derived.proofs.paged.DerivedPagedHasMemoBodiedDerivedPaged.memo_state.Goals as goal

pub returns : goal.returns
returns g c = record { state = sym (as_coded c.args.task) }
