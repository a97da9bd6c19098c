-- It is built, and the inputs that stand in the source are taken in.
use Rattle.std.proofs.Common.{rules, ◌≡◌, [], Ok, Err, refl, inl}
use Rattle.std.proofs.lemmas.Result.{err_from_is_err_and}
use Rattle.lang_syntax.specs.Mirror.{source_of}
use Rattle.show_stream.proofs.Answering.{begins_all, begins_stop, builds_stop}
use Rattle.show_words.specs.declared.reason.Stop.TheVariants as stops
use Rattle.show_stream.proofs.streaming.Streaming.run.Goals as goal

pub returns-in_err-script-clause-begins : goal.returns-in_err-script-clause-begins
returns-in_err-script-clause-begins g c =
    let stopped : c.from_residual.result ≡ Err stops.OutOfMemory = search rules in
    rw stopped (inl refl)

pub returns-in_err-streaming-clause-begins : goal.returns-in_err-streaming-clause-begins
returns-in_err-streaming-clause-begins g c =
    let stopped = err_from_is_err_and c.from_residual-in_err-streaming.result c.from_residual-in_err-streaming.ensures.1 in
    let said = source_of c.args.described in
    rw (stopped.1, stopped.2)
    (builds_stop g.T.Tells.form said (g.O.Out.puts c.args.out.now) (g.O.Out.puts c.build.new.out) (g.O.Out.faults c.args.out.now) (g.O.Out.faults c.build.new.out) c.in_err-streaming.field-0.0
    (c.in_err-streaming.ensures.builds said _ c.in_ok-script.ensures.made))

pub returns-in_err-take_all-clause-begins : goal.returns-in_err-take_all-clause-begins
returns-in_err-take_all-clause-begins g c =
    let stopped = err_from_is_err_and c.from_residual-in_err-take_all.result c.from_residual-in_err-take_all.ensures.1 in
    let said = source_of c.args.described in
    rw (stopped.1, stopped.2)
    (begins_stop g.T.Tells.form said (g.O.Out.puts c.args.out.now) (g.O.Out.puts c.take_all.new.out) (g.O.Out.faults c.args.out.now) (g.O.Out.faults c.take_all.new.out) c.in_err-take_all.field-0.0
    (begins_all g.T.Tells.form said c.in_ok-streaming.streaming c.take_all.new.self
    (g.O.Out.puts c.args.out.now) (g.O.Out.puts c.build.new.out) (g.O.Out.puts c.take_all.new.out)
    (g.O.Out.faults c.args.out.now) (g.O.Out.faults c.build.new.out) (g.O.Out.faults c.take_all.new.out) (Err c.in_err-take_all.field-0.0)
    (c.in_ok-streaming.ensures.builds said _ c.in_ok-script.ensures.made) c.in_ok-streaming.ensures.later
    (λ text at. c.in_err-take_all.ensures.takes said [] said.inputs text at c.in_ok-script.ensures.made.inputs_are)))

pub returns-clause-begins : goal.returns-clause-begins
returns-clause-begins g c =
    let said = source_of c.args.described in
    begins_all g.T.Tells.form said c.in_ok-streaming.streaming c.take_all.new.self
    (g.O.Out.puts c.args.out.now) (g.O.Out.puts c.build.new.out) (g.O.Out.puts c.take_all.new.out)
    (g.O.Out.faults c.args.out.now) (g.O.Out.faults c.build.new.out) (g.O.Out.faults c.take_all.new.out) (Ok tt)
    (c.in_ok-streaming.ensures.builds said _ c.in_ok-script.ensures.made) c.in_ok-streaming.ensures.later
    (λ text at. c.in_ok-take_all.ensures.takes said [] said.inputs text at c.in_ok-script.ensures.made.inputs_are)
