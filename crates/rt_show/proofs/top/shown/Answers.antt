-- Where reading a source stopped, nothing was written.
use Rattle.std.proofs.Common.{rules, ◌≡◌, Some, Err, refl}
use Rattle.show_words.specs.Words.{wish_of}
use Rattle.show_words.specs.declared.words.Wish.TheVariants.{Run, Screen}
use Rattle.rt_show.proofs.Coming.{comes_reading}
use Rattle.rt_show.proofs.top.shown.Goals as goal

pub returns-in_err-described-in-Some-Run-clause-comes : goal.returns-in_err-described-in-Some-Run-clause-comes
returns-in_err-described-in-Some-Run-clause-comes g c =
    let stopped : c.from_residual-in_err-described-in-Some-Run.result ≡ Err c.in_err-described-in-Some-Run.field-0.0 = search rules in
    let asked : wish_of c.args.words.now ≡ Some (Run c.in-Some-Run.limits) = search rules in
    rw stopped (comes_reading c.args.words.now (Run c.in-Some-Run.limits)
    (g.S.Source.left c.args.source.now) (g.S.Source.left c.read_application.new.source)
    (g.O.Out.puts c.args.out.now) (g.O.Out.puts c.args.out.now)
    (g.S.Source.faults c.args.source.now) (g.S.Source.faults c.read_application.new.source)
    (g.O.Out.faults c.args.out.now) (g.O.Out.faults c.args.out.now) c.in_err-described-in-Some-Run.field-0.0
    asked refl c.in_err-described-in-Some-Run.ensures.reads refl)

pub returns-in_err-described-in-Some-Screen-clause-comes : goal.returns-in_err-described-in-Some-Screen-clause-comes
returns-in_err-described-in-Some-Screen-clause-comes g c =
    let stopped : c.from_residual-in_err-described-in-Some-Screen.result ≡ Err c.in_err-described-in-Some-Screen.field-0.0 = search rules in
    let asked : wish_of c.args.words.now ≡ Some (Screen c.in-Some-Screen.size) = search rules in
    rw stopped (comes_reading c.args.words.now (Screen c.in-Some-Screen.size)
    (g.S.Source.left c.args.source.now) (g.S.Source.left c.read_application-in-Some-Screen.new.source)
    (g.O.Out.puts c.args.out.now) (g.O.Out.puts c.args.out.now)
    (g.S.Source.faults c.args.source.now) (g.S.Source.faults c.read_application-in-Some-Screen.new.source)
    (g.O.Out.faults c.args.out.now) (g.O.Out.faults c.args.out.now) c.in_err-described-in-Some-Screen.field-0.0
    asked refl c.in_err-described-in-Some-Screen.ensures.reads refl)
