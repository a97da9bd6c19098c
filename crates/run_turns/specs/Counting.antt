-- How far code's count of an application's calls goes, by what the definitions count.
use Rattle.std.specs.Prelude.{ℕ, List, Option, Some, None, option_map}
use Rattle.rt_model.specs.OneLog.{types}
use Rattle.rt_model.specs.Tree as tree
use Rattle.rt_model.specs.World.{Application}
use Rattle.rt_model.specs.State as model
use Rattle.rt_model.specs.State.{Outcome, Done, Cut}
use Rattle.rt_model.specs.Heard as heard
use Rattle.rt_model.specs.Replay as replay
use Rattle.rt_scopes.specs.Counts.{Counts}
use Rattle.run_state.specs.Mirror.{Unkept, state_of}
use Rattle.run_state.specs.declared.state.State.{State}

module _ {K : tree.Types} where
  -- how often the application was called up to where a change came
  abbrev pub calls_after : Outcome K → ℕ
  calls_after (Done w work) = w.calls
  calls_after (Cut w fault) = w.calls

-- a count that goes along, where one does, stands for so many calls
abbrev pub CountsAlong : Option ℕ → ℕ → Type 0
CountsAlong None calls = Unit {0}
CountsAlong (Some count) calls = Counts count calls

-- a count that goes along, as it is by now
abbrev pub now_at : ℕ → Option ℕ → Option ℕ
now_at count along = option_map (λ (before : ℕ). count) along

module _ {K : tree.Types} (app : Application K) where
  -- while a count stood for the calls at a machine, the new one stands for those after a listener's call
  abbrev pub CountsListener : replay.Machine K → heard.Listener K → List (heard.Listener K) → ℕ → ℕ → Type 0
  CountsListener m first others old_count new_count =
      Counts old_count (m.state).calls → Counts new_count (((replay.heard_event app m first others m.event).state).calls)

module _ {P C Q V H T E L : Type 0} where
  -- while a count stood for the calls at the old state, the new one stands for those after a change
  abbrev pub CountsChange : (model.State (types C Q V H T E L) → Outcome (types C Q V H T E L)) → State P C Q V H T E L → ℕ → ℕ → Type 0
  CountsChange change old old_count new_count =
      (g : Unkept (types C Q V H T E L)) → Counts old_count g.calls → Counts new_count (calls_after (change (state_of g old)))
