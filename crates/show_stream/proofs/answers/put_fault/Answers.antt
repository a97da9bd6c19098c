-- The fault's line was put, or not.
use Rattle.std.proofs.Common.{rules, ◌≡◌, sym, subst}
use Rattle.run_reports.specs.Seen.{fault_of}
use Rattle.show_stream.specs.Put.{PutsFault}
use Rattle.show_stream.proofs.Put.{fault_stops}
use Rattle.show_words.specs.Outs.{stop_of}
use Rattle.show_stream.proofs.answers.put_fault.Goals as goal

pub returns-in-Ok-clause-puts : goal.returns-in-Ok-clause-puts
returns-in-Ok-clause-puts g c = c.in-Ok.ensures.puts

pub returns-in-Err-clause-puts : goal.returns-in-Err-clause-puts
returns-in-Err-clause-puts g c =
    let stopped : c.from.result ≡ stop_of c.in-Err.error = search rules in
    subst
    (λ stop. PutsFault g.T.Tells.form c.args.lines.now (fault_of c.args.fault) (g.O.Out.puts c.args.out.now) (g.O.Out.puts c.put_last.new.out)
    (g.O.Out.faults c.args.out.now) (g.O.Out.faults c.put_last.new.out) stop)
    (sym stopped)
    (fault_stops g.T.Tells.form c.args.lines.now (fault_of c.args.fault) (g.O.Out.puts c.args.out.now) (g.O.Out.puts c.put_last.new.out)
    (g.O.Out.faults c.args.out.now) (g.O.Out.faults c.put_last.new.out) c.in-Err.error c.in-Err.ensures.puts)
