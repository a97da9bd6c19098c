-- What a dom stands for between two of its calls.
use Rattle.std.specs.Prelude.{◌≡◌, ℕ, Bool, true, List}
use Rattle.rt_model.specs.OneLog.{types}
use Rattle.rt_model.specs.World.{Application, Firsts}
use Rattle.rt_model.specs.Sentences.{AllCurrentOrOwed}
use Rattle.rt_model.specs.State as model
use Rattle.rt_model.specs.Replay as replay
use Rattle.run_records.specs.Records.{firsts_of}
use Rattle.law_behavior.specs.Doms.{LedTo}
use Rattle.run_reports.specs.Seen.{limits_of}
use Rattle.run_reports.specs.declared.limits.Limits.{Limits}
use Rattle.rt_scopes.specs.Counts.{Counts}
use Rattle.run_state.specs.Mirror.{Unkept, at_first, state_of}
use Rattle.run_machine.specs.Machines.{IsFresh}
use Rattle.run_rounds.specs.Rounds.{Idle}
use Rattle.run_answers.specs.declared.stage.Stage.{Stage}
use Rattle.run_answers.specs.declared.stage.Stage.TheVariants as stages
use Rattle.rt_vdom.specs.declared.dom.VirtualDom.{VirtualDom}

module _ {P C Q V H T E L : Type 0} where
  -- the state of the definitions at what a dom keeps, with what it doesn't keep
  abbrev pub StateIn : Unkept (types C Q V H T E L) → VirtualDom P C Q V H T E L → model.State (types C Q V H T E L)
  StateIn g d = state_of g ((d.machine).scopes).state

  -- the numbers that come next
  abbrev pub NextIn : VirtualDom P C Q V H T E L → Firsts
  NextIn d = firsts_of (((d.machine).scopes).state).next

module _ {P C Q V H T E L : Type 0} (meaning : P → Application (types C Q V H T E L)) where
  -- a dom that isn't built yet, of an application with these props of its root: its counters begin at these numbers, and its root
  -- provides these values
  pub record IsStarted
      (app : P) (props : Q) (firsts : Firsts) (provided : List (ℕ × V)) (limits : Limits) (d : VirtualDom P C Q V H T E L)
      : Type 0 where
    pub fresh : d.stage ≡ stages.Fresh
    pub owned : d.app ≡ app
    pub limited : d.limits ≡ limits
    pub uncalled : d.calls ≡ 0
    pub unused : IsFresh d.machine
    pub first : StateIn at_first d ≡ replay.provided_all (meaning app) (replay.first_state (meaning app).root props firsts) provided

  -- a built dom stands for a state to which the calls of a program have led, and its count of the application's calls stands for those
  -- that the definitions count
  pub record Stands (props : Q) (whole : Bool) (w : model.State (types C Q V H T E L)) (d : VirtualDom P C Q V H T E L) : Type 0 where
    pub built : d.stage ≡ stages.Built
    pub idle : Idle d.machine
    pub kept : Unkept (types C Q V H T E L)
    pub is : StateIn kept d ≡ w
    pub counted : Counts d.calls kept.calls
    pub led : LedTo (meaning d.app) (limits_of d.limits) props whole w

  -- the root wrapper is there before the build, and as long as a dom stands for a state
  pub record HasRoot (there : Bool) (d : VirtualDom P C Q V H T E L) : Type 0 where
    pub before :
        (app : P) (props : Q) (firsts : Firsts) (provided : List (ℕ × V)) (limits : Limits)
        → IsStarted app props firsts provided limits d
        → there ≡ true
    pub after : (props : Q) (whole : Bool) (w : model.State (types C Q V H T E L)) → Stands props whole w d → there ≡ true

  -- wherever it stands for a state, after each of its calls that is, each live scope is current, or it is marked or was passed over
  abbrev pub IsCurrent : VirtualDom P C Q V H T E L → Type 0
  IsCurrent d =
      (props : Q) (whole : Bool) (w : model.State (types C Q V H T E L)) → Stands props whole w d → AllCurrentOrOwed (meaning d.app) w
