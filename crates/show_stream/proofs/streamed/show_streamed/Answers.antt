-- The status is that of where the program stops.
use Rattle.std.proofs.Common.{Ok, Err, refl}
use Rattle.show_stream.proofs.Reading.{shows_streamed}
use Rattle.show_stream.proofs.streamed.show_streamed.Goals as goal

pub returns-in-Ok : goal.returns-in-Ok
returns-in-Ok g c = record {
  shows = shows_streamed c.args.words.now (g.S.Source.left c.args.source.now) (g.S.Source.left c.shown.new.source) (g.O.Out.puts c.args.out.now) (g.O.Out.puts c.shown.new.out)
      (g.S.Source.faults c.args.source.now) (g.S.Source.faults c.shown.new.source) (g.O.Out.faults c.args.out.now) (g.O.Out.faults c.shown.new.out) 0
      (Ok tt) refl c.in-Ok.ensures.unasked c.in-Ok.ensures.comes;
}

pub returns-in-Err : goal.returns-in-Err
returns-in-Err g c = record {
  shows = shows_streamed c.args.words.now (g.S.Source.left c.args.source.now) (g.S.Source.left c.shown.new.source) (g.O.Out.puts c.args.out.now) (g.O.Out.puts c.shown.new.out)
      (g.S.Source.faults c.args.source.now) (g.S.Source.faults c.shown.new.source) (g.O.Out.faults c.args.out.now) (g.O.Out.faults c.shown.new.out) c.status.result
      (Err c.in-Err.stop) c.status.ensures.status c.in-Err.ensures.unasked c.in-Err.ensures.comes;
}
