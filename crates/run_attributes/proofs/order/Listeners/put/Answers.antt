-- A name that isn't there goes where the search says.
use Rattle.std.proofs.Common.{◌∙◌, sym}
use Rattle.rt_cells.proofs.InOrder.{sorted_inserted}
use Rattle.rt_cells.proofs.Members.{inserted_at, found_at}
use Rattle.run_attributes.proofs.Orders.{texts-total, listener-put}
use Rattle.run_attributes.proofs.order.Listeners.put.Goals as goal

pub invariant_of-self-in-Err : goal.invariant_of-self-in-Err
invariant_of-self-in-Err c =
    let is = c.as_slice.ensures.value in
    let items = c.self.inside.all.items in
    rw (c.in_ok-insert-in-Err.ensures.items
    ∙ inserted_at texts-total items c.args.name c.in-Err.at c.self.invariant (rw (← is) c.in-Err.ensures.position) (rw (← is) c.in-Err.ensures.within))
    (sorted_inserted texts-total items c.args.name c.self.invariant)

pub returns-in-Ok : goal.returns-in-Ok
returns-in-Ok c =
    let is = c.as_slice.ensures.value in
    let items = c.self.inside.all.items in
    record {
      put = rw (← c.self.view_is)
          (sym (found_at texts-total items c.args.name c.in-Ok._at c.self.invariant (rw (← is) c.in-Ok.ensures.position) (rw (← is) c.in-Ok.ensures.within))
          ∙ listener-put c.args.name items);
    }

pub returns-in_ok-insert-in-Err : goal.returns-in_ok-insert-in-Err
returns-in_ok-insert-in-Err c =
    let is = c.as_slice.ensures.value in
    let items = c.self.inside.all.items in
    record {
      put = rw (← c.self.view_is)
          (c.in_ok-insert-in-Err.ensures.items
          ∙ inserted_at texts-total items c.args.name c.in-Err.at c.self.invariant (rw (← is) c.in-Err.ensures.position) (rw (← is) c.in-Err.ensures.within)
          ∙ listener-put c.args.name items);
    }
