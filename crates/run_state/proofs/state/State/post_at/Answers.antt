use Rattle.std.proofs.Common.{◌≡◌, ◌<◌, ◌∙◌, length, get_or, arith}
use Rattle.run_state.specs.Mirror.{state_of}
use Rattle.run_state.proofs.Changed.{on_ok}
use Rattle.run_state.proofs.Entries.{number-seen}
use Rattle.run_state.proofs.Looked.{post_number}
use Rattle.run_state.proofs.state.State.post_at.Goals as goal

pub offset_bounds-as_slice-index : goal.offset_bounds-as_slice-index
offset_bounds-as_slice-index g c =
    let is = c.as_slice.ensures.rows in
    let within : c.args.index < length c.as_slice.result.now = rw is c.requires.within in
    omega (arith, within)

pub bounds-as_slice-index : goal.bounds-as_slice-index
bounds-as_slice-index g c = let is = c.as_slice.ensures.rows in rw is c.requires.within

pub bounds-as_slice-index-2 : goal.bounds-as_slice-index-2
bounds-as_slice-index-2 g c = let is = c.as_slice.ensures.rows in rw is c.requires.within

pub returns-clause-posted : goal.returns-clause-posted
returns-clause-posted g c =
    on_ok c.post.result c.post.ensures.posted (λ posted kept row. posted kept
    ∙ post_number (state_of kept c.args.self.now) (get_or c.as_slice.result.now c.args.index c.index-as_slice-index.result).0 (get_or (c.args.self.now.rows).table c.args.index row).0
    (number-seen c.as_slice.result.now (c.args.self.now.rows).table c.args.index c.index-as_slice-index.result row c.as_slice.ensures.rows c.requires.within))
