-- What an event that a program raises does on a machine, from one rest to the next.
use Rattle.std.specs.Prelude.{◌≡◌, ℕ, Bool, true, List, [], Some, Result, Ok, Err}
use Rattle.author_calls.specs.Answers.{event_of}
use Rattle.rt_model.specs.Lists.{Text}
use Rattle.rt_model.specs.OneLog.{types}
use Rattle.rt_model.specs.Tree.{Types}
use Rattle.rt_model.specs.World.{Application}
use Rattle.rt_model.specs.State as model
use Rattle.rt_model.specs.Replay as replay
use Rattle.rt_model.specs.Causes as causes
use Rattle.rt_model.specs.Told.{Telling, telling}
use Rattle.rt_model.specs.Asides.{Raised, resting, set_aside}
use Rattle.law_moves.specs.Moves.{AtRest}
use Rattle.law_moves.specs.Reports.{ToldSo}
use Rattle.law_behavior.specs.Doms.{HandleRan, NoneOpens}
use Rattle.run_machine.specs.Machines.{machine_of, noted}
use Rattle.run_machine.specs.declared.machine.Machine.{Machine}
use Rattle.tree_nodes.specs.declared.event.Event.{Event}
use Rattle.rt_scopes.specs.Counts.{Counts}
use Rattle.run_state.specs.Mirror.{Unkept}
use Rattle.run_state.specs.Names.{fault_of}
use Rattle.run_state.specs.declared.names.Stop.{Stop}
use Rattle.run_state.specs.declared.names.Stop.TheVariants as stops
use Rattle.run_rounds.specs.Rounds.{RestsAt}

module _ {K : Types} (app : Application K) (from : replay.Machine K) where
  -- listeners of an event were called: within whatever limits this log leads to this machine, and nothing was written
  pub record HeardSo (log : List replay.Entry) (m : replay.Machine K) : Type 0 where
    -- no unit is begun
    pub alone : NoneOpens log
    pub rest : AtRest m
    pub built : m.built ≡ true
    pub so : (limits : causes.Limits) → ToldSo app limits from log (record (telling from) { machine = m })

  -- one of them was cut by a fault
  pub record HeardCut (log : List replay.Entry) (fault : model.Fault) : Type 0 where
    pub alone : NoneOpens log
    pub last : Telling K
    pub so : (limits : causes.Limits) → ToldSo app limits from log last
    pub dead : last.machine.dead ≡ Some fault

module _ {P C Q V H T E L : Type 0} (app : Application (types C Q V H T E L)) (from : replay.Machine (types C Q V H T E L)) where
  -- listeners were called as long as one waited, by what is answered
  abbrev pub HearsAll : Machine P C Q V H T E L → ℕ → Result (Unit {0}) Stop → Type 0
  HearsAll m calls (Ok u) =
      (h : Unkept (types C Q V H T E L))
      × HeardSo app from (noted m) (machine_of h [] 0 m)
      × (replay.waiting (machine_of h [] 0 m) ≡ [])
      × Counts calls h.calls
  HearsAll m calls (Err stops.OutOfMemory) = Unit {0}
  HearsAll m calls (Err (stops.Fault what)) = HeardCut app from (noted m) (fault_of what)

module _ {C Q V H T E L : Type 0} (app : Application (types C Q V H T E L)) (w : model.State (types C Q V H T E L))
    (name : Text) (payload : L) (element : ℕ) (bubbles prevented : Bool) where
  -- those that hear it were called one after another, until none waited: no edit was written, and the event is as the last one
  -- left it
  pub record HeardBy (log : List replay.Entry) (last : replay.Machine (types C Q V H T E L)) (event : Event L) : Type 0 where
    -- no unit is begun
    pub alone : NoneOpens log
    pub ran : (limits : causes.Limits) → HandleRan app limits w (Raised name payload element bubbles prevented) log [] last
    pub left : last.event ≡ Some (event_of event)

  -- one of them came to a fault
  pub record HeardUpTo (fault : model.Fault) : Type 0 where
    pub log : List replay.Entry
    pub cut : HeardCut app (set_aside app (resting w) (Raised name payload element bubbles prevented)) log fault

module _ {P C Q V H T E L : Type 0} (app : Application (types C Q V H T E L)) (w : model.State (types C Q V H T E L))
    (name : Text) (payload : L) (element : ℕ) (bubbles prevented : Bool) where
  -- the event was handled, and the machine rests
  pub record HeardOn (event : Event L) (m : Machine P C Q V H T E L) (calls : ℕ) : Type 0 where
    pub log : List replay.Entry
    pub last : replay.Machine (types C Q V H T E L)
    pub heard : HeardBy app w name payload element bubbles prevented log last event
    pub rests : RestsAt last.state m calls

  -- by what is answered
  abbrev pub HearsOn : Result (Event L) Stop → Machine P C Q V H T E L → ℕ → Type 0
  HearsOn (Ok event) m calls = HeardOn event m calls
  HearsOn (Err stops.OutOfMemory) m calls = Unit {0}
  HearsOn (Err (stops.Fault what)) m calls = HeardUpTo app w name payload element bubbles prevented (fault_of what)
