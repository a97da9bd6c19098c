use Rattle.std.proofs.Common.{◌≡◌, ap, sym, ◌∙◌}
use Rattle.std.proofs.lemmas.Bool.{both_ways, not-true, not_from_false, false_from_ne_true}
use Rattle.rt_sched.specs.Lines.{orders_of}
use Rattle.rt_sched.specs.Queues.{Waiting}
use Rattle.rt_sched.proofs.KeptLemmas.{no_orders}
use Rattle.rt_sched.proofs.queues.Queues.has_marks.Goals as goal

pub returns : goal.returns
returns g c =
    let posted : orders_of c.self.inside.scopes.posted ≡ c.args.self.now.posted_scopes = ap (λ (q : Waiting g.row.E.Denot). q.posted_scopes) c.self.view_is in
    record {
      posted = (
        λ h e. both_ways _ (not-true _ h) (c.none_posted.ensures.none.1 (no_orders c.self.inside.scopes.posted (posted ∙ e))),
        λ h. not_from_false _ (false_from_ne_true _ (λ t. h (sym posted ∙ ap orders_of (c.none_posted.ensures.none.0 t)))),
      );
    }
