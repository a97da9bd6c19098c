use Rattle.std.proofs.Common.{◌≡◌, List, ◌∷◌, ◌++◌, true, false, rules, length, ◌<◌, ap, sym, ◌∙◌}
use Rattle.rt_sched.specs.Places.{place_before, with_place}
use Rattle.rt_sched.specs.declared.place.Place.{Place}
use Rattle.rt_sched.proofs.InOrder.{in_order_left, in_order_right, sides_shorter, with_place_left, with_place_right}
use Rattle.rt_sched.proofs.tree.Tree.+insert.Goals as goal

pub insert-requires : goal.insert-requires
insert-requires t c =
    let is = c.in-Some.ensures.parts in
    let shorter : length c.in-Some.left < length c.args.self = rw is (sides_shorter _ _ _).0 in
    (search rules, in_order_left _ _ _ (rw is at c.requires.in_order))

pub insert-requires-else-is_before : goal.insert-requires-else-is_before
insert-requires-else-is_before t c =
    let is = c.in-Some.ensures.parts in
    let shorter : length c.in-Some.right < length c.args.self = rw is (sides_shorter _ _ _).1 in
    (search rules, in_order_right _ _ _ (rw is at c.requires.in_order))

pub returns-then-is_before : goal.returns-then-is_before
returns-then-is_before t c =
    let is = c.in-Some.ensures.parts in
    let x = c.args.node.value.place in
    let k = c.in-Some.root.value.place in
    let before : c.is_before.result ≡ place_before x k = rw (c.deref.ensures, c.deref-in-Some.ensures) at c.is_before.ensures.before in
    let left = with_place_left x c.in-Some.left k c.in-Some.right (sym before ∙ c.if-is_before.true) in
    record { placed = c.balanced.ensures.places ∙ ap (λ (l : List Place). l ++ k ∷ c.in-Some.right) c.insert.ensures.placed ∙ sym left ∙ ap (with_place x) (sym is) }

pub returns-else-is_before : goal.returns-else-is_before
returns-else-is_before t c =
    let is = c.in-Some.ensures.parts in
    let x = c.args.node.value.place in
    let k = c.in-Some.root.value.place in
    let before : c.is_before.result ≡ place_before x k = rw (c.deref.ensures, c.deref-in-Some.ensures) at c.is_before.ensures.before in
    let right = with_place_right x c.in-Some.left k c.in-Some.right (sym before ∙ c.if-is_before.false) (rw is at c.requires.in_order) in
    record { placed = c.balanced-else-is_before.ensures.places ∙ ap (λ (l : List Place). c.in-Some.left ++ k ∷ l) c.insert-else-is_before.ensures.placed ∙ sym right ∙ ap (with_place x) (sym is) }
