-- What a call of the code comes to, from one state of its `Cx` to another.
use Rattle.std.specs.Prelude.{◌≡◌, ◌≢◌, Option, Some, None, Result, Ok, Err}
use Rattle.rt_model.specs.OneLog.{types}
use Rattle.rt_model.specs.Program.{Program}
use Rattle.run_records.specs.Records.{world_of}
use Rattle.author_calls.specs.Calls.{call_of}
use Rattle.author_calls.specs.Turn.{Call}
use Rattle.run_records.specs.declared.faults.CxFault.{CxFault}
use Rattle.run_records.specs.declared.faults.CxFault.TheVariants.{OutOfMemory}
use Rattle.author_programs.specs.Came.{came, reached}

module _ {P C Q V H T E L : Type 0} where
  -- the program comes to the answer from one call to another
  abbrev pub Comes : {A : Type 0} → Call P C Q V H T E L → Call P C Q V H T E L → Program (types C Q V H T E L) A → A → Type 0
  Comes before after program answer = came (world_of before.world) program (call_of before) ≡ reached answer (call_of after)

  -- the same, unless memory was wanted
  abbrev pub ComesIfRemembered : {A : Type 0} → Call P C Q V H T E L → Call P C Q V H T E L → Program (types C Q V H T E L) A → A → Type 0
  ComesIfRemembered before after program answer = after.fault ≢ Some OutOfMemory → Comes before after program answer

  -- where nothing is answered since a call was refused, what follows holds unless memory was wanted
  abbrev pub Knows : {A : Type 0} → Option A → Call P C Q V H T E L → Type 0 → Type 0
  Knows (Some a) c S = S
  Knows None c S = c.fault ≢ Some OutOfMemory → S

-- a call was refused for another cause than want of memory
abbrev pub RefusedOther : {A : Type 0} → Result A CxFault → Type 0
RefusedOther (Ok a) = ⊥
RefusedOther (Err fault) = fault ≢ OutOfMemory
