-- An input is taken in and its answer put, or the program stops there.
use Rattle.std.proofs.Common.{rules, ◌≡◌, [], ◌++◌, Some, Err}
use Rattle.rt_language.specs.Meaning.{inputs_of, meaning_of, props_of}
use Rattle.run_reports.specs.Seen.{input_of, usual}
use Rattle.show_stream.proofs.Going.{carries_on, own_count}
use Rattle.show_stream.proofs.Taking.{taken_cut, taken_fault, taken_put}
use Rattle.show_stream.specs.Streams.{inputs_in}
use Rattle.show_stream.specs.declared.streaming.Streaming.{Streaming}
use Rattle.show_words.specs.Outs.{stop_of}
use Rattle.show_stream.proofs.streaming.Streaming.take.Goals as goal

pub returns-in-Ok-clause-takes : goal.returns-in-Ok-clause-takes
returns-in-Ok-clause-takes g c =
    λ source asked said text at is.
    let own = c.kept.ensures.lines.edits in
    let new : Streaming = record { session = c.take.new.self } in
    taken_put g.T.Tells.form source asked text (input_of c.args.input) said is c.args.self.now new own c.kept.result.now at c.kept.ensures.lines.printed
    c.in-Ok.report c.taken-number.result (g.O.Out.puts c.args.out.now) (g.O.Out.puts c.put_answer.new.out)
    (c.in-Ok.ensures.takes (meaning_of source) usual (props_of source) (inputs_of (inputs_in asked)) (Some []) (Some at.wrote) (Some (at.wrote ++ own)) at.reports at.awaits
    (carries_on _ _ at.wrote own c.fresh-sink.ensures.taken c.kept.ensures.lines.tells))
    c.in-Ok.ensures.number (own_count _ _ own _ _ c.in-Ok.report c.fresh-sink.ensures.taken c.kept.ensures.lines.tells c.in-Ok.ensures.took) c.taken-number.ensures.taken
    c.in_ok-put_answer-in-Ok.ensures.writes.ok

pub returns-in_err-put_answer-in-Ok-clause-takes : goal.returns-in_err-put_answer-in-Ok-clause-takes
returns-in_err-put_answer-in-Ok-clause-takes g c =
    let stopped : c.from_residual.result ≡ Err (stop_of c.in_err-put_answer-in-Ok.field-0.0) = search rules in
    λ source asked said text at is.
    let own = c.kept.ensures.lines.edits in
    let new : Streaming = record { session = c.take.new.self } in
    rw stopped
    (taken_cut g.T.Tells.form source asked text (input_of c.args.input) said is c.args.self.now new own c.kept.result.now at c.kept.ensures.lines.printed
    c.in-Ok.report c.taken-number.result (g.O.Out.puts c.args.out.now) (g.O.Out.puts c.put_answer.new.out)
    (g.O.Out.faults c.args.out.now) (g.O.Out.faults c.put_answer.new.out) c.in_err-put_answer-in-Ok.field-0.0
    (c.in-Ok.ensures.takes (meaning_of source) usual (props_of source) (inputs_of (inputs_in asked)) (Some []) (Some at.wrote) (Some (at.wrote ++ own)) at.reports at.awaits
    (carries_on _ _ at.wrote own c.fresh-sink.ensures.taken c.kept.ensures.lines.tells))
    c.in-Ok.ensures.number (own_count _ _ own _ _ c.in-Ok.report c.fresh-sink.ensures.taken c.kept.ensures.lines.tells c.in-Ok.ensures.took) c.taken-number.ensures.taken
    c.held-in-Ok.ensures.held
    c.in_err-put_answer-in-Ok.ensures.writes)

pub returns-clause-takes : goal.returns-clause-takes
returns-clause-takes g c =
    λ source asked said text at is.
    let own = c.kept-in-Err.ensures.lines.edits in
    taken_fault g.T.Tells.form source asked text (input_of c.args.input) said is c.args.self.now c.args.self.now own c.kept-in-Err.result.now at c.kept-in-Err.ensures.lines.printed
    c.in-Err.fault (g.O.Out.puts c.args.out.now) (g.O.Out.puts c.put_fault.new.out)
    (g.O.Out.faults c.args.out.now) (g.O.Out.faults c.put_fault.new.out) c.put_fault.result
    (c.in-Err.ensures.takes (meaning_of source) usual (props_of source) (inputs_of (inputs_in asked)) (Some []) (Some at.wrote) (Some (at.wrote ++ own)) at.reports at.awaits
    (carries_on _ _ at.wrote own c.fresh-sink.ensures.taken c.kept-in-Err.ensures.lines.tells))
    c.held.ensures.held
    c.put_fault.ensures.puts
