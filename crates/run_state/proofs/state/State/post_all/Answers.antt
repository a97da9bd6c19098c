use Rattle.std.proofs.Common.{◌≡◌, ◌<◌, ◌∙◌, length}
use Rattle.run_state.specs.Mirror.{state_of}
use Rattle.run_state.proofs.Entries.{some_item}
use Rattle.run_state.proofs.Looked.{post_same, post_step, post_end}
use Rattle.run_state.proofs.state.State.post_all.Goals as goal

pub post_at-requires : goal.post_at-requires
post_at-requires g c =
    let test = c.loop-index-test.true in
    let same = c.loop-index.invariant.rows in
    let is = c.as_slice-count.ensures.rows in
    record { within = rw (same, ← is) test }

pub loop-index-preserved : goal.loop-index-preserved
loop-index-preserved g c =
    let test = c.loop-index-test.true in
    let same = c.loop-index.invariant.rows in
    let is = c.as_slice-count.ensures.rows in
    let within : c.loop-index.index < length (c.args.self.now.rows).table = rw (← is) test in
    let d = some_item (c.args.self.now.rows).table c.loop-index.index within in
    record {
      rows = c.post_at.ensures.rows ∙ same;
      done = λ kept.
          let now = c.in_ok-post_at.ensures.posted kept d in
          post_step (c.args.self.now.rows).table c.loop-index.index d (state_of kept c.loop-index.self) (state_of kept c.post_at.new.self) within (now ∙ post_same (state_of kept c.loop-index.self) c.loop-index.index d _ _ same) ∙ c.loop-index.invariant.done kept;
    }

pub returns : goal.returns
returns g c = λ kept.
    let is = c.as_slice-count.ensures.rows in
    post_end (c.args.self.now.rows).table c.loop-index.index _ _ (rw (← is) c.loop-index-test.false) (c.loop-index.invariant.done kept)
