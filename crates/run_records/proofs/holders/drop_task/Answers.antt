use Rattle.std.proofs.Common.{map, ap, sym, ◌∙◌}
use Rattle.std.specs.Prelude.{not, nat_eq}
use Rattle.std.specs.List.{list_any}
use Rattle.rt_model.specs.Lists.{kept_by}
use Rattle.run_records.specs.Futures.{holder_of}
use Rattle.run_records.proofs.Futures.{holder_none, kept_less}
use Rattle.run_records.proofs.holders.drop_task.Goals as goal

pub loop-index-preserved : goal.loop-index-preserved
loop-index-preserved c =
    ap (λ fs. kept_by (λ h. not (nat_eq h.0 c.args.task)) (map holder_of fs)) c.remove.ensures.others
    ∙ kept_less holder_of (λ h. nat_eq h.0 c.args.task) c.loop-index.futures c.as_slice.result.now c.in-Some.index c.remove.result c.as_slice.ensures.items c.in-Some.ensures.within (c.in-Some.ensures.own c.remove.result)
    ∙ c.loop-index.invariant

pub returns : goal.returns
returns c =
    sym (holder_none c.loop-index.futures c.args.task (ap (list_any (λ future. nat_eq (future.task).0 c.args.task)) (sym c.as_slice.ensures.items) ∙ c.in_default.ensures.none))
    ∙ c.loop-index.invariant
