-- Whether the queues see none.
use Rattle.std.proofs.Common.{◌≡◌, ap, sym, ◌∙◌}
use Rattle.std.proofs.lemmas.Bool.{both_ways, not-true, not_from_false, false_from_ne_true}
use Rattle.run_owed.specs.Changes.{owing_by}
use Rattle.run_owed.specs.Owing.{Owing}
use Rattle.run_owed.proofs.Firsts.{none_seen, sees_nothing}
use Rattle.run_owed.proofs.owed.Owed.sees_none.Goals as goal

pub returns : goal.returns
returns c =
    let o = owing_by c.self.inside.told in
    let seen : o.seen ≡ c.args.self.now.seen = ap (λ (p : Owing). p.seen) c.self.view_is in
    record {
      empty = (
        λ h. sym seen ∙ none_seen o c.self.inside.queues c.self.inside.next c.self.invariant (λ some. both_ways _ (not-true _ h) (c.has_dirty_scopes.ensures.seen.1 some)),
        λ e. not_from_false _ (false_from_ne_true _ (λ t. c.has_dirty_scopes.ensures.seen.0 t (sees_nothing o c.self.inside.queues c.self.inside.next c.self.invariant (seen ∙ e)))),
      );
    }
