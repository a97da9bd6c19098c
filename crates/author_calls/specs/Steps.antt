-- A command of a call, and its refusals.
use Rattle.std.specs.Prelude.{◌≡◌, ◌≢◌, ◌⊎◌, [], ◌∷◌, ◌++◌, Option, Some, None}
use Rattle.rt_cells.specs.declared.sources.Source.{Source}
use Rattle.rt_model.specs.OneLog.{types}
use Rattle.rt_model.specs.Program as program
use Rattle.run_records.specs.Records.{command_of}
use Rattle.author_calls.specs.Calls.{and_cell, and_provided, call_of}
use Rattle.author_calls.specs.Turn.{Call}
use Rattle.run_records.specs.declared.command.Command.{Command}
use Rattle.run_records.specs.declared.faults.Counter.{Counter}
use Rattle.run_records.specs.declared.faults.CxFault.{CxFault}
use Rattle.run_records.specs.declared.faults.CxFault.TheVariants.{OutOfMemory, IdsExhausted}

-- the first refusal stays
abbrev pub first_refusal : Option CxFault → CxFault → Option CxFault
first_refusal None fault = Some fault
first_refusal (Some old) fault = Some old

module _ {P C Q V H T E L : Type 0} where
  -- one more command
  abbrev pub with_command : Call P C Q V H T E L → Command P C Q V H T E L → Call P C Q V H T E L
  with_command c m = record c { commands = c.commands ++ m ∷ [] }

  -- one more read aside
  abbrev pub with_aside : Call P C Q V H T E L → Source → Call P C Q V H T E L
  with_aside c x = record c { aside = c.aside ++ x ∷ [] }

  -- the call after a command, as the model has it
  abbrev pub asked : Call P C Q V H T E L → Command P C Q V H T E L → program.Call (types C Q V H T E L)
  asked c m =
      record (call_of c) {
        cells = and_cell m (call_of c).cells;
        provided = and_provided c.world.scope.0 m (call_of c).provided;
        commands = (call_of c).commands ++ command_of m ∷ [];
      }

  -- a refusal is kept where it is the first one, and changes nothing else
  abbrev pub refused : Call P C Q V H T E L → CxFault → Call P C Q V H T E L
  refused c fault = record c { fault = first_refusal c.fault fault }

  -- memory was wanted, and nothing else changed
  abbrev pub WantedMemory : Call P C Q V H T E L → Call P C Q V H T E L → CxFault → Type 0
  WantedMemory before after fault = (fault ≡ OutOfMemory) × (after ≡ refused before OutOfMemory)

  -- memory was wanted midway
  abbrev pub LostMemory : Call P C Q V H T E L → Call P C Q V H T E L → CxFault → Type 0
  LostMemory before after fault = (fault ≡ OutOfMemory) × (after.fault ≡ first_refusal before.fault OutOfMemory)

  -- no number was drawn: there was none, or memory was wanted
  abbrev pub DrawsNone : Counter → Call P C Q V H T E L → Call P C Q V H T E L → CxFault → Type 0
  DrawsNone counter before after fault =
      ((fault ≡ OutOfMemory) ⊎ (fault ≡ IdsExhausted counter)) × (after ≡ refused before fault)

  -- after a refusal for another cause than memory the call stands for this one, where no memory was wanted before
  abbrev pub IsTold : program.Call (types C Q V H T E L) → Call P C Q V H T E L → Call P C Q V H T E L → CxFault → Type 0
  IsTold told before after fault = fault ≢ OutOfMemory → before.fault ≢ Some OutOfMemory → call_of after ≡ told
