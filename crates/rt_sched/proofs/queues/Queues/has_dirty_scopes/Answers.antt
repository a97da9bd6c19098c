use Rattle.std.proofs.Common.{◌≡◌, ap, sym, ◌∙◌}
use Rattle.std.proofs.lemmas.Bool.{both_ways, not-true, not_from_false, false_from_ne_true}
use Rattle.rt_sched.specs.Lines.{orders_of}
use Rattle.rt_sched.specs.Queues.{Waiting}
use Rattle.rt_sched.proofs.KeptLemmas.{no_orders}
use Rattle.rt_sched.proofs.queues.Queues.has_dirty_scopes.Goals as goal

pub returns : goal.returns
returns g c =
    let seen : orders_of c.self.inside.scopes.ready ≡ c.args.self.now.seen = ap (λ (q : Waiting g.row.E.Denot). q.seen) c.self.view_is in
    record {
      seen = (
        λ h e. both_ways _ (not-true _ h) (c.none_ready.ensures.none.1 (no_orders c.self.inside.scopes.ready (seen ∙ e))),
        λ h. not_from_false _ (false_from_ne_true _ (λ t. h (sym seen ∙ ap orders_of (c.none_ready.ensures.none.0 t)))),
      );
    }
