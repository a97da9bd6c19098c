use Rattle.std.proofs.Common.{◌≡◌, ◌∷◌, ◌++◌, ◌<◌, length, true, false, ap, sym, ◌∙◌, rules}
use Rattle.rt_sched.specs.Order.{order_before}
use Rattle.rt_sched.specs.Places.{first_place_under}
use Rattle.rt_sched.specs.Tree.{places_of}
use Rattle.rt_sched.proofs.InOrder.{in_order_left, in_order_right, sides_shorter, under_left, under_right, under_middle}
use Rattle.rt_sched.proofs.tree.Tree.+first_under.Goals as goal

pub first_under-requires : goal.first_under-requires
first_under-requires t c =
    let node = c.in-Fork.node.value in
    let is : c.args.self.now ≡ node.left ++ node.place ∷ node.right = sym c.self.view_is ∙ ap places_of c.in-Fork.is in
    let shorter : length c.deref-then-is_before.result.now.left < length c.args.self.now = rw (c.deref-then-is_before.ensures, is) (sides_shorter node.left node.place node.right).0 in
    (search rules, rw c.deref-then-is_before.ensures (in_order_left node.left node.place node.right (rw is at c.requires.in_order)))

pub first_under-requires-then-is_before-2 : goal.first_under-requires-then-is_before-2
first_under-requires-then-is_before-2 t c =
    let node = c.in-Fork.node.value in
    let is : c.args.self.now ≡ node.left ++ node.place ∷ node.right = sym c.self.view_is ∙ ap places_of c.in-Fork.is in
    let shorter : length c.deref-then-is_before-2.result.now.right < length c.args.self.now = rw (c.deref-then-is_before-2.ensures, is) (sides_shorter node.left node.place node.right).1 in
    (search rules, rw c.deref-then-is_before-2.ensures (in_order_right node.left node.place node.right (rw is at c.requires.in_order)))

pub first_under-requires-else-is_before-2 : goal.first_under-requires-else-is_before-2
first_under-requires-else-is_before-2 t c =
    let node = c.in-Fork.node.value in
    let is : c.args.self.now ≡ node.left ++ node.place ∷ node.right = sym c.self.view_is ∙ ap places_of c.in-Fork.is in
    let shorter : length c.deref-else-is_before-2.result.now.left < length c.args.self.now = rw (c.deref-else-is_before-2.ensures, is) (sides_shorter node.left node.place node.right).0 in
    (search rules, rw c.deref-else-is_before-2.ensures (in_order_left node.left node.place node.right (rw is at c.requires.in_order)))

pub returns-then-is_before : goal.returns-then-is_before
returns-then-is_before t c =
    let node = c.in-Fork.node.value in
    let is : c.args.self.now ≡ node.left ++ node.place ∷ node.right = sym c.self.view_is ∙ ap places_of c.in-Fork.is in
    let before : order_before c.args.order.now node.place.order ≡ true = cc in
    let found = under_left c.args.order.now node.left node.place node.right before (rw is at c.requires.in_order) in
    record { first = cc }

pub returns-then-is_before-2 : goal.returns-then-is_before-2
returns-then-is_before-2 t c =
    let node = c.in-Fork.node.value in
    let is : c.args.self.now ≡ node.left ++ node.place ∷ node.right = sym c.self.view_is ∙ ap places_of c.in-Fork.is in
    let after : order_before node.place.order c.args.order.now ≡ true = cc in
    let found = under_right c.args.order.now node.left node.place node.right after (rw is at c.requires.in_order) in
    record { first = cc }

pub returns-else-is_before-2 : goal.returns-else-is_before-2
returns-else-is_before-2 t c =
    let node = c.in-Fork.node.value in
    let is : c.args.self.now ≡ node.left ++ node.place ∷ node.right = sym c.self.view_is ∙ ap places_of c.in-Fork.is in
    let not_before : order_before c.args.order.now node.place.order ≡ false = cc in
    let not_after : order_before node.place.order c.args.order.now ≡ false = cc in
    let found = under_middle c.args.order.now node.left node.place node.right not_before not_after in
    let left = rw c.deref-else-is_before-2.ensures at c.first_under-else-is_before-2.ensures.first in
    let either = rw (c.deref-else-is_before-2-2.ensures, left) at c.or.ensures in
    record { first = either ∙ sym found ∙ ap (first_place_under c.args.order.now) (sym is) }
