-- What the run beside a list says of the verdict on it.
use Rattle.std.specs.Prelude.{◌≡◌, ℕ, zero, suc, nat_lt, if◌then◌else◌, List, [], ◌∷◌, ◌++◌, drop, Option, Some, None}
use Rattle.rt_model.specs.OneLog.{types}
use Rattle.rt_model.specs.World.{Application}
use Rattle.rt_model.specs.Replay as replay
use Rattle.rt_model.specs.Replay.{Entry}
use Rattle.rt_model.specs.Causes as causes
use Rattle.run_state.specs.declared.names.Stop.{Stop}
use Rattle.run_state.specs.declared.names.Stop.TheVariants as stops
use Rattle.run_machine.specs.Machines.{noted}
use Rattle.run_machine.specs.Stands.{Going, Follows}
use Rattle.run_machine.specs.declared.machine.Machine.{Machine}
use Rattle.lang_rows.specs.Verdicts as verdicts
use Rattle.lang_rows.specs.Verdicts.{opening, verdict_on, verdict_from}
use Rattle.rt_audit.specs.Finding.{Keeps, Rests}
use Rattle.rt_audit.specs.declared.following.Found.{Found}
use Rattle.rt_audit.specs.declared.following.Found.TheVariants as found
use Rattle.rt_audit.specs.declared.verdict.Verdict.{Verdict}
use Rattle.rt_audit.specs.declared.verdict.Verdict.TheVariants as answers

-- a verdict as that of the definitions
abbrev pub verdict_of : Verdict → verdicts.Verdict
verdict_of answers.Accepted = verdicts.Accepted
verdict_of (answers.Refused report entry) = verdicts.Refused report entry

-- the verdict where no input is left, and all of so many lists before this one were good
abbrev pub ended : ℕ → ℕ → Verdict
ended report lists = if nat_lt report lists then answers.Refused report 0 else answers.Accepted

-- at a fault of its own call the build stops behind its entry; where memory was wanting nothing is said
abbrev pub AfterFault : Stop → Option ℕ → Type 0
AfterFault stops.OutOfMemory answer = ⊥
AfterFault (stops.Fault what) answer = answer ≡ Some 1

module _ {C Q V H T E L : Type 0} (app : Application (types C Q V H T E L)) (limits : causes.Limits) (r : Going (types C Q V H T E L))
  where
    -- in a list that opens as the report does, the verdict stops at the entry of this number, whatever the list's number is
    abbrev pub StopsIn : List Entry → ℕ → Type 0
    StopsIn list entry =
        (n : ℕ) (later : replay.Machine (types C Q V H T E L) → verdicts.Verdict)
        → opening n ∷ [] ≡ r.opened
        → verdict_on app n 0 r.from (r.opened ++ list) later ≡ verdicts.Refused n entry

module _ {P C Q V H T E L : Type 0} (app : Application (types C Q V H T E L)) (limits : causes.Limits) (r : Going (types C Q V H T E L))
  where
    -- such a list is good: the verdict goes on from the machine that was the last one, and the next report may follow
    pub record PassesTo (list : List Entry) (d : Machine P C Q V H T E L) : Type 0 where
      pub last : replay.Machine (types C Q V H T E L)
      pub follows : Follows app limits r.props r.inputs r.left r.taken last d
      pub passes :
          (n : ℕ) (later : replay.Machine (types C Q V H T E L) → verdicts.Verdict)
          → opening n ∷ [] ≡ r.opened
          → verdict_on app n 0 r.from (r.opened ++ list) later ≡ later last

    -- what was found of a list, the run being where it is
    abbrev pub FindsIn : List Entry → Machine P C Q V H T E L → Found → Type 0
    FindsIn list d (found.SoFar seen) = Keeps app limits r list seen d
    FindsIn list d found.Good = Rests app limits r d × (list ≡ noted d)
    FindsIn list d (found.Bad entry) = StopsIn app limits r list entry

    -- what is answered of a list: it is good, or the entry where it stops
    abbrev pub JudgesOf : List Entry → Machine P C Q V H T E L → Option ℕ → Type 0
    JudgesOf list d None = PassesTo list d
    JudgesOf list d (Some entry) = StopsIn app limits r list entry

module _ {P C Q V H T E L : Type 0} (app : Application (types C Q V H T E L)) (limits : causes.Limits) (props : Q)
    (inputs : List (replay.Input (types C Q V H T E L))) where
  -- a list of this number that comes after a machine: it is good, and so many inputs are left; or the verdict stops in it
  abbrev pub ListJudged :
      ℕ → replay.Machine (types C Q V H T E L) → List (replay.Input (types C Q V H T E L)) → List Entry → Machine P C Q V H T E L → Option ℕ
      → Type 0
  ListJudged n from left list d None =
      (last : replay.Machine (types C Q V H T E L))
      × Follows app limits props inputs left n last d
      × ((later : replay.Machine (types C Q V H T E L) → verdicts.Verdict) → verdict_on app n 0 from list later ≡ later last)
  ListJudged n from left list d (Some entry) =
      (later : replay.Machine (types C Q V H T E L) → verdicts.Verdict) → verdict_on app n 0 from list later ≡ verdicts.Refused n entry

  -- lists up to this number were good, and the verdict is that on the others
  pub record Reaches (logs : List (List Entry)) (taken : ℕ) (left : List (replay.Input (types C Q V H T E L))) (d : Machine P C Q V H T E L)
      : Type 0 where
    pub last : replay.Machine (types C Q V H T E L)
    pub follows : Follows app limits props inputs left taken last d
    pub verdict : verdict_from app 0 (replay.start app props inputs) logs ≡ verdict_from app (suc taken) last (drop (suc taken) logs)

  -- after one list more: it was good, or the verdict on the log is found
  abbrev pub StepsOn :
      List (List Entry) → ℕ → List (replay.Input (types C Q V H T E L)) → Machine P C Q V H T E L → Option Verdict → Type 0
  StepsOn logs report left d None = Reaches logs report left d
  StepsOn logs report left d (Some found) = verdict_of found ≡ verdicts.verdict app props inputs logs
