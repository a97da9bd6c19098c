-- What is kept are the other members.
use Rattle.std.proofs.Common.{not, rules}
use Rattle.std.proofs.lemmas.Fn.{filter_same}
use Rattle.std.proofs.lemmas.List.Kept.{IsStrictlySortedBy-filter}
use Rattle.rt_cells.specs.Orders.{context_cmp, same_context}
use Rattle.rt_cells.proofs.subscribers.Subscribers.remove.Goals as goal

pub invariant_of-self : goal.invariant_of-self
invariant_of-self c =
    rw (filter_same _ (λ member. not (same_context member c.args.context.now)) _ (λ x b f call. search rules) c.self.inside.members.items c.retain.new.self.items c.retain.ensures.filtered)
    (IsStrictlySortedBy-filter context_cmp (λ member. not (same_context member c.args.context.now)) c.self.inside.members.items c.self.invariant)

pub returns : goal.returns
returns c = record {
  parted = rw (← c.self.view_is)
      (λ i. record {
        members = filter_same _ (λ member. not (same_context member c.args.context.now)) _ (λ x b f call. search rules) c.self.inside.members.items c.retain.new.self.items c.retain.ensures.filtered i;
        listens = c.self.inside.listens;
      });
}
