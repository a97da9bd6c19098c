-- The headline, and by it the law.
use Rattle.std.proofs.Common.{[], Some}
use Rattle.rt_language.specs.Meaning.{inputs_of, meaning_of, props_of}
use Rattle.run_reports.specs.Seen.{usual}
use Rattle.show_stream.proofs.Going.{memos_held}
use Rattle.show_stream.specs.Streams.{inputs_in}
use Rattle.show_stream.proofs.streaming.Streaming.held.Goals as goal

pub returns : goal.returns
returns c = record {
  held = λ source asked now reports awaits.
      let headlined = c.holds.ensures.headline (meaning_of source) usual (props_of source) (inputs_of (inputs_in asked)) (Some []) now reports awaits in
      (headlined, memos_held c.sources_keep_memos.ensures source asked now reports headlined);
}
