use Rattle.std.proofs.Common.{◌≡◌, ◌∷◌, ◌++◌, ◌<◌, length, true, false, ap, sym, ◌∙◌, rules}
use Rattle.rt_sched.specs.Places.{place_before, after_place, first_place}
use Rattle.rt_sched.specs.Tree.{places_of}
use Rattle.rt_sched.proofs.InOrder.{in_order_left, in_order_right, sides_shorter}
use Rattle.rt_sched.proofs.After.{after_left, after_right}
use Rattle.rt_sched.proofs.tree.Tree.+first_after.Goals as goal

pub first_after-requires : goal.first_after-requires
first_after-requires t c =
    let node = c.in-Fork.node.value in
    let is : c.args.self.now ≡ node.left ++ node.place ∷ node.right = sym c.self.view_is ∙ ap places_of c.in-Fork.is in
    let shorter : length c.deref-then-is_before.result.now.left < length c.args.self.now = rw (c.deref-then-is_before.ensures, is) (sides_shorter node.left node.place node.right).0 in
    (search rules, rw c.deref-then-is_before.ensures (in_order_left node.left node.place node.right (rw is at c.requires.in_order)))

pub first_after-requires-else-is_before : goal.first_after-requires-else-is_before
first_after-requires-else-is_before t c =
    let node = c.in-Fork.node.value in
    let is : c.args.self.now ≡ node.left ++ node.place ∷ node.right = sym c.self.view_is ∙ ap places_of c.in-Fork.is in
    let shorter : length c.deref-else-is_before.result.now.right < length c.args.self.now = rw (c.deref-else-is_before.ensures, is) (sides_shorter node.left node.place node.right).1 in
    (search rules, rw c.deref-else-is_before.ensures (in_order_right node.left node.place node.right (rw is at c.requires.in_order)))

pub returns-then-is_before : goal.returns-then-is_before
returns-then-is_before t c =
    let node = c.in-Fork.node.value in
    let x = c.args.place.now in
    let is : c.args.self.now ≡ node.left ++ node.place ∷ node.right = sym c.self.view_is ∙ ap places_of c.in-Fork.is in
    let before : place_before x node.place ≡ true = cc in
    let found = after_left x node.left node.place node.right before in
    let left = rw c.deref-then-is_before.ensures at c.first_after.ensures.first in
    let either = rw (c.deref-then-is_before-2.ensures, left) at c.or.ensures in
    record { first = either ∙ sym found ∙ ap (λ ps. first_place (after_place x ps)) (sym is) }

pub returns-else-is_before : goal.returns-else-is_before
returns-else-is_before t c =
    let node = c.in-Fork.node.value in
    let x = c.args.place.now in
    let is : c.args.self.now ≡ node.left ++ node.place ∷ node.right = sym c.self.view_is ∙ ap places_of c.in-Fork.is in
    let late : place_before x node.place ≡ false = cc in
    let found = after_right x node.left node.place node.right late (rw is at c.requires.in_order) in
    let right = rw c.deref-else-is_before.ensures at c.first_after-else-is_before.ensures.first in
    record { first = right ∙ ap first_place (sym found ∙ ap (after_place x) (sym is)) }
