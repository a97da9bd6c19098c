-- An attribute goes where the search says, in place of the one that it found.
use Rattle.std.proofs.Common.{◌∙◌, ap}
use Rattle.run_attributes.specs.Content.{attributes_of}
use Rattle.run_attributes.proofs.Orders.{keys-total, attribute-put}
use Rattle.run_attributes.proofs.Replaced.{replaced_new, replaced_there, sorted_replaced}
use Rattle.run_attributes.proofs.order.Attributes.put.Goals as goal

pub invariant_of-self : goal.invariant_of-self
invariant_of-self c =
    let is = c.as_slice.ensures.value in
    let items = c.self.inside.all.items in
    rw (replaced_there keys-total items c.args.attribute c.in-Ok.at c.self.invariant (rw (← is) c.in-Ok.ensures.position) (rw (← is) c.in-Ok.ensures.within))
    (sorted_replaced keys-total items c.args.attribute c.self.invariant)

pub invariant_of-self-in-Err : goal.invariant_of-self-in-Err
invariant_of-self-in-Err c =
    let is = c.as_slice.ensures.value in
    let items = c.self.inside.all.items in
    rw (c.in_ok-insert-in-Err.ensures.items
    ∙ replaced_new keys-total items c.args.attribute c.in-Err.at c.self.invariant (rw (← is) c.in-Err.ensures.position) (rw (← is) c.in-Err.ensures.within))
    (sorted_replaced keys-total items c.args.attribute c.self.invariant)

pub returns-in-Ok : goal.returns-in-Ok
returns-in-Ok c =
    let is = c.as_slice.ensures.value in
    let items = c.self.inside.all.items in
    record {
      put = rw (← c.self.view_is)
          (ap attributes_of (replaced_there keys-total items c.args.attribute c.in-Ok.at c.self.invariant (rw (← is) c.in-Ok.ensures.position) (rw (← is) c.in-Ok.ensures.within))
          ∙ attribute-put c.args.attribute items);
    }

pub returns-in_ok-insert-in-Err : goal.returns-in_ok-insert-in-Err
returns-in_ok-insert-in-Err c =
    let is = c.as_slice.ensures.value in
    let items = c.self.inside.all.items in
    record {
      put = rw (← c.self.view_is)
          (ap attributes_of (c.in_ok-insert-in-Err.ensures.items
          ∙ replaced_new keys-total items c.args.attribute c.in-Err.at c.self.invariant (rw (← is) c.in-Err.ensures.position) (rw (← is) c.in-Err.ensures.within))
          ∙ attribute-put c.args.attribute items);
    }
