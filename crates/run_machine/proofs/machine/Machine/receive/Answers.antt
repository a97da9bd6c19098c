use Rattle.std.proofs.Common.{◌+◌, true, sym, ap, ◌∙◌}
use Rattle.rt_model.specs.Replay.{taken_in, then_looked}
use Rattle.run_reports.specs.Seen.{input_of}
use Rattle.run_state.specs.Mirror.{state_of}
use Rattle.run_outside.specs.Hearings.{hearing_at, silent}
use Rattle.run_machine.specs.Machines.{machine_of}
use Rattle.run_machine.proofs.Hearings.{silent_is}
use Rattle.run_outside.proofs.Said.{on_ok}
use Rattle.run_machine.proofs.machine.Machine.receive.Goals as goal

pub returns-clause-received : goal.returns-clause-received
returns-clause-received g c =
    on_ok c.look_where_quiet.result c.look_where_quiet.ensures
    (
    λ looked kept left more taken.
    let old = c.args.self.now in
    let m = record (machine_of kept left taken old) { inputs = more; taken = taken + 1; units = 0; default_enabled = true } in
    let w = state_of kept old.scopes.state in
    ap (λ x. then_looked (taken_in x (input_of c.args.input))) (silent_is m w old.hearing ∙ ap (λ o. hearing_at m w (silent o)) (sym c.take-hearing.ensures.value))
    ∙ ap (λ x. then_looked x) (c.in_ok-self.ensures.taken kept m)
    ∙ looked kept m
    )
