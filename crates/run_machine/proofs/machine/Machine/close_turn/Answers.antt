use Rattle.std.proofs.Common.{ap}
use Rattle.std.proofs.lemmas.Result.{err_from_is_err_and}
use Rattle.run_reports.specs.Seen.{entry_of}
use Rattle.run_outside.specs.Ends.{fault_in}
use Rattle.run_machine.proofs.Breaking.{in_closes}
use Rattle.run_machine.proofs.Steps.{no_fault}
use Rattle.run_machine.proofs.Turning.{stands_closed}
use Rattle.run_machine.specs.Machines.{noted}
use Rattle.run_machine.proofs.Noting.{closed_keeps, unclosed_keeps}
use Rattle.run_machine.proofs.machine.Machine.close_turn.Goals as goal

pub returns-in_err-close-clause-turns : goal.returns-in_err-close-clause-turns
returns-in_err-close-clause-turns g c =
    let p = err_from_is_err_and c.from_residual.result c.from_residual.ensures.1 in
    rw (p.1, p.2)
    (
    λ app lawful limits r edits is idle stands. (
      λ fault why. no_fault (fault_in c.in_err-close.field-0.0) c.in_err-close.ensures.cause why,
      λ none.
          in_closes app lawful limits r (entry_of c.args.first) edits c.args.self.now
          (g.M.WriteMutations.taken c.args.sink.now) (g.M.WriteMutations.taken c.close.new.sink) c.in_err-close.field-0.0 stands idle c.in_err-close.ensures.part,
    )
    )

pub returns-clause-turns : goal.returns-clause-turns
returns-clause-turns g c =
    λ app lawful limits r edits is idle stands.
    stands_closed app lawful limits r (entry_of c.args.first) edits c.args.self.now c.close.new.self
    (g.M.WriteMutations.taken c.args.sink.now) (g.M.WriteMutations.taken c.close.new.sink) c.in_ok-close.field-0 stands idle c.close.ensures.others c.in_ok-close.ensures.over c.in_ok-close.ensures.mounted c.in_ok-close.ensures.closes

pub returns-in_err-close-clause-keeps : goal.returns-in_err-close-clause-keeps
returns-in_err-close-clause-keeps g c =
    let p = err_from_is_err_and c.from_residual.result c.from_residual.ensures.1 in
    rw (p.1, p.2)
    (unclosed_keeps c.args.self.now c.close.new.self c.in_err-close.field-0.0 c.in_err-close.ensures.cause (ap (λ d. d.hearing) c.close.ensures.others) (ap (λ d. d.default_enabled) c.close.ensures.others))

pub returns-clause-keeps : goal.returns-clause-keeps
returns-clause-keeps g c =
    closed_keeps c.args.self.now c.close.new.self c.in_ok-close.field-0 (ap (λ d. noted d) c.close.ensures.others) (ap (λ d. d.hearing) c.close.ensures.others) (ap (λ d. d.default_enabled) c.close.ensures.others)
