-- What a call looks at, what it came to and what it leaves, as the model has it.
use Rattle.std.specs.Prelude.{ℕ, List, [], ◌∷◌, map, Option, Some, None, if◌then◌else◌}
use Rattle.rt_cells.specs.declared.contexts.ReactiveContext.{ReactiveContext}
use Rattle.rt_model.specs.Lists.{at}
use Rattle.rt_model.specs.OneLog.{types}
use Rattle.rt_model.specs.Program as program
use Rattle.rt_model.specs.Tree.{Element}
use Rattle.rt_model.specs.World as model
use Rattle.run_records.specs.World.{provided}
use Rattle.run_records.specs.Records.{gathered, newest_first, source_of, firsts_of, counter_of, command_of}
use Rattle.author_calls.specs.Turn.{Meaning, Call}
use Rattle.run_records.specs.declared.command.Command.{Command}
use Rattle.run_records.specs.declared.command.Command.TheVariants as commands
use Rattle.run_records.specs.declared.faults.CxFault.{CxFault}
use Rattle.run_records.specs.declared.faults.CxFault.TheVariants as refusals

-- a refusal; the model knows no want of memory
abbrev pub refusal_of : Option CxFault → Option model.CallFault
refusal_of None = None
refusal_of (Some refusals.OutOfMemory) = None
refusal_of (Some (refusals.IdsExhausted what)) = Some (model.CounterAtEnd (counter_of what))
refusal_of (Some (refusals.HookChanged scope index kept asked)) = Some (model.OtherHook scope.0 index kept asked)

-- the reactive contexts that reads go to, the last one first
abbrev pub contexts_of : List ReactiveContext → List ℕ
contexts_of into = newest_first (λ r. r.0) into

module _ {P C Q V H T E L : Type 0} where
  -- the cells that were made, with one more where the command makes one
  abbrev pub and_cell : Command P C Q V H T E L → List (ℕ × V) → List (ℕ × V)
  and_cell (commands.NewCell cell value) made = (cell, value) ∷ made
  and_cell _ made = made

  -- what was provided, of a kind at a scope, with one more where the command of a scope's call provides
  abbrev pub and_provided : ℕ → Command P C Q V H T E L → List (ℕ × ℕ × V) → List (ℕ × ℕ × V)
  and_provided scope (commands.Provide root kind value) given = (kind, (if root then 0 else scope), value) ∷ given
  and_provided scope _ given = given

  -- a call under way: what it made and provided stands in its commands
  abbrev pub call_of : Call P C Q V H T E L → program.Call (types C Q V H T E L)
  call_of c =
      record {
        in_body = c.in_body;
        index = c.index;
        cells = gathered and_cell c.commands [];
        provided = gathered (and_provided c.world.scope.0) c.commands [];
        into = contexts_of c.into;
        next = firsts_of c.next;
        reads = newest_first source_of c.reads;
        aside = newest_first source_of c.aside;
        commands = map command_of c.commands;
        fault = refusal_of c.fault;
      }

  -- what a call that had memory leaves, with its answer put through a change
  abbrev pub meaning_of : {A B : Type 0} → (A → B) → Meaning P C Q V H T E L A → model.Meaning (types C Q V H T E L) B
  meaning_of answer m =
      record {
        answer = answer m.answer;
        reads = newest_first source_of m.reads;
        aside = newest_first source_of m.aside;
        commands = map command_of m.commands;
        next = firsts_of m.next;
        fault = refusal_of m.fault;
      }

module _ (C Q V H T E L : Type 0) where
  -- what a call of a body means, by the world that it sees
  abbrev pub BodyMeaning : Type 0
  BodyMeaning = model.World (types C Q V H T E L) → model.Meaning (types C Q V H T E L) (Element (types C Q V H T E L))
