-- A script that is served is each source that the script is made of.
use Rattle.std.proofs.Common.{map}
use Rattle.std.specs.Prelude.{IfErr, IfOk}
use Rattle.run_reports.specs.Seen.{limits_of, usual}
use Rattle.rt_served.specs.Faults.{CausedBy}
use Rattle.rt_served.specs.Serving.{ComesTo, IsUnspelt, ServesAll, ServesPart}
use Rattle.show_words.proofs.Preparing.{of_source}
use Rattle.show_html.proofs.paged.serve_script.Goals as goal

pub returns-clause-served : goal.returns-clause-served
returns-clause-served g c = λ said inputs made.
    of_source
    (λ app p i.
    IfOk c.serve.result (λ count. ServesAll app (limits_of usual) p (map (λ task. task.0) c.args.wakes) (g.O.Out.puts c.args.out.now)
    (g.O.Out.puts c.serve.new.out) count))
    said c.args.script c.args.props inputs made c.serve.ensures.served

pub returns-clause-part : goal.returns-clause-part
returns-clause-part g c = λ said inputs made.
    of_source
    (λ app p i.
    IfErr c.serve.result (λ fault. ServesPart app (limits_of usual) p (map (λ task. task.0) c.args.wakes) (g.O.Out.puts c.args.out.now)
    (g.O.Out.puts c.serve.new.out) fault))
    said c.args.script c.args.props inputs made c.serve.ensures.part

pub returns-clause-cause : goal.returns-clause-cause
returns-clause-cause g c = λ said inputs made.
    of_source
    (λ app p i.
    IfErr c.serve.result (λ fault. CausedBy usual (λ f. ComesTo app (limits_of usual) p (map (λ task. task.0) c.args.wakes) f)
    (IsUnspelt app (limits_of usual) p (map (λ task. task.0) c.args.wakes)) (g.O.Out.faults c.args.out.now) (g.O.Out.faults c.serve.new.out)
    fault))
    said c.args.script c.args.props inputs made c.serve.ensures.cause
