-- One attribute more, or one that does not fit.
use Rattle.std.proofs.Common.{◌∙◌, sym}
use Rattle.tree_fits.specs.Place.{path_of}
use Rattle.tree_fits.specs.Walk.{sought_by}
use Rattle.tree_fits.proofs.WalkLemmas.{attrs-end, attrs-next, attrs-stop}
use Rattle.tree_fits.proofs.walk.walk_attrs.Goals as goal

pub returns-in_err-seen : goal.returns-in_err-seen
returns-in_err-seen g c =
    c.from_residual.ensures ∙
    sym (attrs-stop (sought_by c.args.block.now) c.args.attrs.now (path_of c.args.place.now) c.loop-attr.attr-index _ c.loop-attr.seen c.loop-attr-test.true c.attr-item.is
    (sym c.walk_attr.ensures ∙ c.in_err-seen.was)) ∙
    c.loop-attr.invariant

pub loop-attr-preserved : goal.loop-attr-preserved
loop-attr-preserved g c =
    sym (attrs-next (sought_by c.args.block.now) c.args.attrs.now (path_of c.args.place.now) c.loop-attr.attr-index _ c.loop-attr.seen _ c.loop-attr-test.true c.attr-item.is
    (sym c.walk_attr.ensures ∙ c.in_ok-seen.was)) ∙
    c.loop-attr.invariant

pub returns : goal.returns
returns g c =
    attrs-end (sought_by c.args.block.now) c.args.attrs.now (path_of c.args.place.now) c.loop-attr.attr-index c.loop-attr.seen c.loop-attr-test.false ∙ c.loop-attr.invariant
