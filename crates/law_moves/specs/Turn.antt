-- What a runtime does in one turn, with the entries that it leaves.
use Rattle.std.specs.Prelude.{◌+◌, Bool, true, false, nat_eq, List, [], ◌∷◌, ◌++◌}
use Rattle.rt_model.specs.Tree.{Types}
use Rattle.rt_model.specs.World.{Application}
use Rattle.rt_model.specs.State.{State, Item, Draw, Row, Feed, Make, Drop, Outcome, Done, Cut}
use Rattle.rt_model.specs.Next.{Work, RerunScope, PollTask, RunEffects}
use Rattle.rt_model.specs.Run.{run}
use Rattle.rt_model.specs.Removal.{next_removed, removed}
use Rattle.rt_model.specs.Replay.{Entry, Rerun, Poll, Effects, Removed, Machine, polled, effects_run, outcome_of, entry_of}

-- the entry that begins a unit
abbrev pub entry_for : Work → Entry
entry_for (RerunScope s) = Rerun s
entry_for (PollTask t) = Poll t
entry_for (RunEffects s) = Effects s

module _ {K : Types} where
  -- a drop comes again until the scope that it names went
  abbrev pub again : Bool → Item K → List (Item K)
  again true item = []
  again false item = item ∷ []

  -- a change with more work after its own
  abbrev pub and_then : Outcome K → List (Item K) → Outcome K
  and_then (Done w work) more = Done w (work ++ more)
  and_then (Cut w fault) more = Cut w fault

  -- a machine at which a unit with this work has begun
  abbrev pub begun_at : Machine K → State K → List (Item K) → Machine K
  begun_at m w work = record m { state = w; work = work; unit = true; units = m.units + 1 }

module _ {K : Types} (app : Application K) where
  -- an item is served; of a drop one scope goes
  abbrev pub turn_of : State K → Item K → Outcome K
  turn_of w (Draw s side p k) = outcome_of app w (Draw s side p k)
  turn_of w (Row b step) = outcome_of app w (Row b step)
  turn_of w (Feed s side p c) = outcome_of app w (Feed s side p c)
  turn_of w (Make s side p c) = outcome_of app w (Make s side p c)
  turn_of w (Drop t s side) =
      and_then (removed app w (next_removed w t)) (again (nat_eq (next_removed w t) t) (Drop t s side))

  -- the entries of that turn, one or none
  abbrev pub entries_at : State K → Item K → List Entry
  entries_at w (Draw s side p k) = entry_of app w (Draw s side p k)
  entries_at w (Row b step) = entry_of app w (Row b step)
  entries_at w (Feed s side p c) = entry_of app w (Feed s side p c)
  entries_at w (Make s side p c) = entry_of app w (Make s side p c)
  entries_at w (Drop t s side) = Removed (next_removed w t) ∷ []

  -- what a unit does first
  abbrev pub unit_of : State K → Work → Outcome K
  unit_of w (RerunScope s) = run app w s
  unit_of w (PollTask t) = polled app w t
  unit_of w (RunEffects s) = effects_run app w s
