use Rattle.std.proofs.Common.{ap, sym, ◌∙◌}
use Rattle.rt_model.specs.Lists.{without}
use Rattle.run_table.proofs.Rows.{without-one, without-absent}
use Rattle.run_table.proofs.table.Table.remove_each.Goals as goal

pub loop-index-preserved : goal.loop-index-preserved
loop-index-preserved g c =
    ap (λ rows. without rows c.args.number) c.remove_at.ensures.others
    ∙ without-one c.loop-index.self c.args.number c.in-Some.index c.in-Some.ensures.within c.in-Some.ensures.own
    ∙ c.loop-index.invariant

pub returns : goal.returns
returns g c =
    record { others = sym (without-absent c.loop-index.self c.args.number c.in_default.ensures.absent) ∙ c.loop-index.invariant }
