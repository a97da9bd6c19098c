-- Some were taken in, and their answers put.
use Rattle.std.proofs.Common.{◌≡◌, ◌≤◌, length, map}
use Rattle.std.specs.Vec.Iter.{into_iter_items, into_iter_len}
use Rattle.rt_language.specs.Meaning.{inputs_of}
use Rattle.run_reports.specs.Seen.{input_of}
use Rattle.show_stream.proofs.Taking.{TookSome}
use Rattle.show_stream.specs.UnderWay.{IsAt}
use Rattle.show_stream.proofs.streaming.Streaming.take_all.Given as goal

abbrev pub invariant-loop-input : goal.invariant-loop-input
invariant-loop-input g l = record {
  took : (source : _) (asked : _) (said : _) (text : _) → IsAt g.T.Tells.form source asked text l.fn.self → map input_of l.fn.inputs ≡ inputs_of said
      → TookSome g.T.Tells.form source asked said text (map input_of (into_iter_items l.input-iterator)) (g.O.Out.puts l.fn.out) (g.O.Out.puts l.out) l.self;
  later : g.O.Out.faults l.fn.out ≤ g.O.Out.faults l.out;
  count : into_iter_len l.input-iterator ≡ length (into_iter_items l.input-iterator);
}
