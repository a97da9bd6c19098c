-- One more source that the reader stands beside.
use Rattle.std.proofs.Common.{◌∙◌, ap}
use Rattle.std.specs.List.{list_any}
use Rattle.std.specs.BTreeMap.{is_at}
use Rattle.rt_cells.specs.declared.sources.Source.TheVariants.{Cell}
use Rattle.rt_cells.specs.Links.{link_cmp}
use Rattle.rt_cells.proofs.LinkSteps.{entered_more, entered_part, on_err}
use Rattle.rt_cells.proofs.links.enter.Goals as goal

pub returns-in_err-insert-clause-err : goal.returns-in_err-insert-clause-err
returns-in_err-insert-clause-err c =
    on_err c.from_residual.result (λ link. entered_part c.args.reader c.args.sources.now c.loop-source.source-index link _ _
    (ap (list_any (is_at (link_cmp link))) c.in_err-insert.ensures.err ∙ c.loop-source.invariant link))

pub loop-source-preserved : goal.loop-source-preserved
loop-source-preserved c link =
    entered_more c.args.reader c.args.sources.now c.loop-source.source-index (Cell 0) c.loop-source-test.true link c.place_of.result c.place_of.ensures.place
    _ _ _ (c.in_ok-insert.ensures.updates.0 link) (c.loop-source.invariant link)
