use Rattle.std.proofs.Common.{ap, sym, ◌∙◌}
use Rattle.std.specs.Ordering.{nat_cmp}
use Rattle.std.specs.BTreeMap.{get}
use Rattle.rt_sched.proofs.BatchLemmas.{by, none_waits}
use Rattle.rt_sched.proofs.effects.Effects.is_empty.Goals as goal

pub returns : goal.returns
returns g c = record {
  empty = (
    λ t. sym c.self.view_is ∙ ap (by (get nat_cmp c.self.inside.batches)) (c.is_empty.ensures.empty.0 t),
    λ e. c.is_empty.ensures.empty.1 (none_waits (get nat_cmp c.self.inside.batches) c.self.inside.line.waiting (c.self.view_is ∙ e)),
  );
}
