-- One more command.
use Rattle.std.proofs.Common.{◌≡◌, [], take, sym, ap, ◌∙◌, arith}
use Rattle.std.specs.Option.{option_copied}
use Rattle.rt_model.specs.Lists.{at, first_of}
use Rattle.run_records.specs.Records.{gathered}
use Rattle.author_calls.specs.Calls.{and_cell}
use Rattle.author_calls.proofs.Piled.{pile-step, copied-or}
use Rattle.author_calls.proofs.made.made_cell.Goals as goal

pub loop-command-preserved : goal.loop-command-preserved
loop-command-preserved g c =
    let step : option_copied c.or-made.result ≡ first_of (option_copied c.first_value.result) (option_copied c.loop-command.made) = ap option_copied c.or-made.ensures ∙ copied-or c.first_value.result c.loop-command.made in
    let before = gathered and_cell (take c.loop-command.command-index c.args.commands.now) [] in
    step
    ∙ ap (first_of (option_copied c.first_value.result)) c.loop-command.invariant
    ∙ sym (c.first_value.ensures before)
    ∙ sym (ap (λ made. at made c.args.cell) (pile-step and_cell c.args.commands.now c.loop-command.command-index c.command-item.result (omega arith) c.command-item.is))
