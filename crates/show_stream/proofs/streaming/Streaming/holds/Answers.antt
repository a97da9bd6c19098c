-- What was put is told.
use Rattle.show_stream.proofs.Taking.{told}
use Rattle.show_stream.specs.Streams.{own_asked}
use Rattle.std.proofs.Common.{◌++◌}
use Rattle.show_stream.proofs.streaming.Streaming.holds.Goals as goal

pub returns : goal.returns
returns c = record {
  streamed = λ form first lines text is.
      record {
        source = is.source;
        described = is.described;
        said = is.said;
        says = is.says;
        told = told form is.source (own_asked is.source ++ is.said) text c.args.self.now is.at c.held.ensures.held;
      };
}
