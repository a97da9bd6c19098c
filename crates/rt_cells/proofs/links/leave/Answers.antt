-- One more source that the reader left, or keeps.
use Rattle.std.proofs.Common.{◌∙◌, sym}
use Rattle.rt_cells.specs.declared.sources.Source.TheVariants.{Cell}
use Rattle.rt_cells.proofs.LinkSteps.{left_more, kept_more}
use Rattle.rt_cells.proofs.links.leave.Goals as goal
use Rattle.rt_cells.proofs.links.leave.Goals.{then-not-is_among, else-not-is_among}

pub loop-source-preserved : goal.loop-source-preserved
loop-source-preserved c link =
    elim c.if-not-is_among.branch [
      | then-not-is_among w ↦ rw w.links-is (left_more c.args.reader c.args.sources.now c.loop-source.source-index (Cell 0) c.loop-source-test.true link w.place_of.result w.place_of.ensures.place
          c.args.kept.now _ _ _ (sym c.is_among.ensures.among ∙ w.if-not-is_among.true) (w.remove.ensures.updates.0 link) (c.loop-source.invariant link))
      | else-not-is_among w ↦ rw w.links-is (kept_more c.args.reader c.args.sources.now c.loop-source.source-index (Cell 0) c.loop-source-test.true link c.args.kept.now _ _
          (sym c.is_among.ensures.among ∙ w.if-not-is_among.false) (c.loop-source.invariant link))
    ]
