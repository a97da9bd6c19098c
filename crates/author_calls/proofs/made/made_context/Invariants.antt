-- What the commands so far provide.
use Rattle.std.proofs.Common.{◌≡◌, [], take}
use Rattle.std.specs.Option.{option_copied}
use Rattle.rt_model.specs.Program.{own_context}
use Rattle.run_records.specs.Records.{gathered}
use Rattle.author_calls.specs.Calls.{and_provided}
use Rattle.author_calls.proofs.made.made_context.Given as goal

abbrev pub invariant-loop-command : goal.invariant-loop-command
invariant-loop-command g l = option_copied l.made ≡ own_context (gathered (and_provided l.caller.0) (take l.command-index l.commands) []) l.kind l.scope.0
