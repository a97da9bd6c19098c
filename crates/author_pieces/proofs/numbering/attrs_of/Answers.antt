-- One attribute more, or none.
use Rattle.std.proofs.Common.{◌∙◌}
use Rattle.author_pieces.proofs.Rows.{attrs-end, attrs-next}
use Rattle.author_pieces.proofs.numbering.attrs_of.Goals as goal

pub loop-index-preserved : goal.loop-index-preserved
loop-index-preserved c =
    attrs-next c.args.attrs.now c.args.path.now c.loop-index.index _ c.loop-index.paths c.attr_of.new.paths _ c.loop-index.row _ c.loop-index-test.true c.index-attrs-index.is c.in_ok-attr.ensures.attr c.in_ok-push.ensures.ok
    ∙ c.loop-index.invariant

pub returns : goal.returns
returns c =
    record { row = attrs-end c.args.attrs.now c.args.path.now c.loop-index.index c.loop-index.paths c.loop-index.row c.loop-index-test.false ∙ c.loop-index.invariant }
