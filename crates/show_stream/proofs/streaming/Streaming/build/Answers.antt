-- It was built and its answer put, or the program stops there.
use Rattle.std.proofs.Common.{◌∷◌, []}
use Rattle.std.proofs.lemmas.Result.{err_from_is_err_and}
use Rattle.show_stream.proofs.Going.{own_count}
use Rattle.show_stream.proofs.Taking.{built_awaits, built_cut, built_ends, built_fault, built_put}
use Rattle.show_stream.specs.declared.streaming.Streaming.{Streaming}
use Rattle.show_stream.proofs.streaming.Streaming.build.Goals as goal

pub returns-in-Ok-clause-builds : goal.returns-in-Ok-clause-builds
returns-in-Ok-clause-builds g c = λ source inputs made.
    let own = c.kept.ensures.lines.edits in
    let report = c.in-Ok.report in
    let here : Streaming = record { session = c.in-Ok.session } in
    built_put g.T.Tells.form source here report own c.kept.result.now (g.O.Out.puts c.args.out.now) (g.O.Out.puts c.put_answer.new.out)
    (built_awaits source c.args.script c.args.props inputs made _ _ own c.fresh-sink.ensures.taken c.kept.ensures.lines.tells (report ∷ []) here c.in-Ok.ensures.begins)
    c.in-Ok.ensures.none (own_count _ _ own _ _ report c.fresh-sink.ensures.taken c.kept.ensures.lines.tells c.in-Ok.ensures.took) c.kept.ensures.lines.printed
    c.in_ok-put_answer-in-Ok.ensures.writes.ok

pub returns-in_err-put_answer-in-Ok-clause-builds : goal.returns-in_err-put_answer-in-Ok-clause-builds
returns-in_err-put_answer-in-Ok-clause-builds g c = λ source inputs made.
    let stopped = err_from_is_err_and c.from_residual.result c.from_residual.ensures.1 in
    let own = c.kept.ensures.lines.edits in
    let report = c.in-Ok.report in
    let here : Streaming = record { session = c.in-Ok.session } in
    rw (stopped.1, stopped.2)
    (built_cut g.T.Tells.form source here report own c.kept.result.now (g.O.Out.puts c.args.out.now) (g.O.Out.puts c.put_answer.new.out)
    (g.O.Out.faults c.args.out.now) (g.O.Out.faults c.put_answer.new.out) c.in_err-put_answer-in-Ok.field-0.0
    (built_awaits source c.args.script c.args.props inputs made _ _ own c.fresh-sink.ensures.taken c.kept.ensures.lines.tells (report ∷ []) here c.in-Ok.ensures.begins)
    c.in-Ok.ensures.none (own_count _ _ own _ _ report c.fresh-sink.ensures.taken c.kept.ensures.lines.tells c.in-Ok.ensures.took) c.kept.ensures.lines.printed
    c.held.ensures.held
    c.in_err-put_answer-in-Ok.ensures.writes)

pub returns-clause-builds : goal.returns-clause-builds
returns-clause-builds g c = λ source inputs made.
    let own = c.kept-in-Err.ensures.lines.edits in
    built_fault g.T.Tells.form source c.in-Err.fault own c.kept-in-Err.result.now (g.O.Out.puts c.args.out.now) (g.O.Out.puts c.put_fault.new.out)
    (g.O.Out.faults c.args.out.now) (g.O.Out.faults c.put_fault.new.out) c.put_fault.result
    (built_ends source c.args.script c.args.props inputs made _ _ own c.fresh-sink.ensures.taken c.kept-in-Err.ensures.lines.tells c.in-Err.fault c.in-Err.ensures.begins)
    c.kept-in-Err.ensures.lines.printed c.put_fault.ensures.puts
