-- What is owed by what came to it.
use Rattle.std.specs.Prelude.{List, [], ◌∷◌, ◌++◌, Option, Some, None}
use Rattle.std.specs.declared.snapshot.Snapshot.{Snapshot}
use Rattle.rt_model.specs.Lists.{drop_number, join, without}
use Rattle.rt_model.specs.State.{Mark, Woken}
use Rattle.rt_model.specs.Commands.{drop_posted}
use Rattle.run_owed.specs.Owing.{Owing, looked, nothing}
use Rattle.run_owed.specs.declared.told.Event.{Event}
use Rattle.run_owed.specs.declared.told.Event.TheVariants as events

-- what came, the last first
abbrev pub all_of : {A : Type 0} → Option (Snapshot (List A) × A) → List A
all_of None = []
all_of (Some last) = last.1 ∷ (last.0).value

-- what is owed after one change
abbrev pub after : Owing → Event → Owing
after o (events.EnteredScope s h) = record o { scopes = o.scopes ++ (s, h) ∷ [] }
after o (events.LeftScope s) = record o { scopes = without o.scopes s }
after o (events.EnteredTask t s) = record o { tasks = o.tasks ++ (t, s) ∷ [] }
after o (events.EndedTask t) =
    record o { posted = drop_posted o.posted (Woken t); queued = drop_number o.queued t; tasks = without o.tasks t }
after o (events.Marked s) = record o { posted = o.posted ++ Mark s ∷ [] }
after o (events.Woken t) = record o { posted = o.posted ++ Woken t ∷ [] }
after o (events.Unmarked s) = record o { posted = drop_posted o.posted (Mark s); seen = drop_number o.seen s }
after o (events.Unwoken t) = record o { posted = drop_posted o.posted (Woken t); queued = drop_number o.queued t }
after o (events.Seen s) = record o { seen = join o.seen s }
after o (events.Unseen s) = record o { seen = drop_number o.seen s }
after o (events.Unqueued t) = record o { queued = drop_number o.queued t }
after o events.Looked = looked o

-- what is owed
abbrev pub owing_by : List Event → Owing
owing_by [] = nothing
owing_by (e ∷ es) = after (owing_by es) e
