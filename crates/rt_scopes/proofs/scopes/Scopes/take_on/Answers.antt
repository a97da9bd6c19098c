-- What a body's call left, by how far it came.
use Rattle.std.proofs.Common.{◌∙◌, refl, ap, sym, map}
use Rattle.std.specs.Prelude.{Ok, Err, None}
use Rattle.std.proofs.lemmas.Result.{err_from_is_err_and}
use Rattle.rt_model.specs.Commands.{commands}
use Rattle.tree_mirror.specs.Sealed.{element_of}
use Rattle.run_records.specs.Records.{command_of}
use Rattle.run_state.specs.Mirror.{state_of}
use Rattle.run_state.specs.declared.names.Cause.TheVariants as faults
use Rattle.run_state.specs.declared.names.Stop.TheVariants as stops
use Rattle.rt_scopes.specs.Counts.{counts_where}
use Rattle.rt_scopes.proofs.Settled.{owned, taken_bad, taken_no, taken_ok}
use Rattle.rt_scopes.proofs.scopes.Scopes.take_on.Goals as goal

pub returns-in_err-asked-clause-settled : goal.returns-in_err-asked-clause-settled
returns-in_err-asked-clause-settled g c =
    let refusal = c.in_err-asked.ensures.cut in
    let p = err_from_is_err_and c.from_residual.result c.from_residual.ensures.1 in
    rw (p.1, p.2)
    (λ app tests.
    owned app c.args.self.now.state c.args.scope (record { answer = c.args.answer.now; reads = c.args.reads; commands = c.args.left.commands; next = c.args.left.next; fault = c.args.left.fault }) c.after_call.new.self.state (Err c.in_err-asked.field-0.0)
    (taken_no app c.args.self.now.state c.args.scope (record { answer = c.args.answer.now; reads = c.args.reads; commands = c.args.left.commands; next = c.args.left.next; fault = c.args.left.fault })
    c.after_call.new.self.state refusal.0 c.in_err-asked.field-0.0 refusal.1 c.in_err-asked.ensures.next refusal.2))

pub returns-in_err-keep_reads-clause-settled : goal.returns-in_err-keep_reads-clause-settled
returns-in_err-keep_reads-clause-settled g c =
    let p = err_from_is_err_and c.from_residual-in_err-keep_reads.result c.from_residual-in_err-keep_reads.ensures.1 in
    rw (p.1, p.2) (λ app tests kept own world aside. (counts_where own kept, λ then_on. tt, refl))

pub returns-then-not-answer_fits-clause-settled : goal.returns-then-not-answer_fits-clause-settled
returns-then-not-answer_fits-clause-settled g c =
    λ app tests.
    owned app c.args.self.now.state c.args.scope (record { answer = c.args.answer.now; reads = c.args.reads; commands = c.args.left.commands; next = c.args.left.next; fault = c.args.left.fault }) c.keep_reads.new.self (Err (stops.Fault (faults.BadNode c.args.scope)))
    (taken_bad app c.args.self.now.state c.args.scope (record { answer = c.args.answer.now; reads = c.args.reads; commands = c.args.left.commands; next = c.args.left.next; fault = c.args.left.fault })
    c.after_call.new.self.state c.keep_reads.new.self c.in_ok-asked.ensures.ok.1 c.in_ok-asked.ensures.next c.in_ok-keep_reads.ensures
    (sym c.answer_fits.ensures ∙ c.if-not-answer_fits.true))

pub returns-in_err-do_commands-clause-settled : goal.returns-in_err-do_commands-clause-settled
returns-in_err-do_commands-clause-settled g c =
    let p = err_from_is_err_and c.from_residual-in_err-do_commands.result c.from_residual-in_err-do_commands.ensures.1 in
    rw (p.1, p.2) (λ app tests kept own world aside. (counts_where own kept, λ then_on. tt, refl))

pub returns-clause-settled : goal.returns-clause-settled
returns-clause-settled g c =
    λ app tests.
    owned app c.args.self.now.state c.args.scope (record { answer = c.args.answer.now; reads = c.args.reads; commands = c.args.left.commands; next = c.args.left.next; fault = c.args.left.fault }) c.do_commands.new.self.state (Ok (element_of c.args.answer.now))
    (taken_ok app c.args.self.now.state c.args.scope (record { answer = c.args.answer.now; reads = c.args.reads; commands = c.args.left.commands; next = c.args.left.next; fault = c.args.left.fault })
    c.after_call.new.self.state c.keep_reads.new.self c.do_commands.new.self.state c.in_ok-asked.ensures.ok.1 c.in_ok-asked.ensures.next c.in_ok-keep_reads.ensures
    (sym c.answer_fits.ensures ∙ c.if-not-answer_fits.false)
    (λ kept.
    c.in_ok-do_commands.ensures app tests kept
    ∙ ap (λ given. commands app (state_of kept c.keep_reads.new.self) c.args.scope None (map command_of given)) c.in_ok-asked.ensures.ok.0))
