use Rattle.std.proofs.Common.{◌≡◌, ◌<◌, List, ◌∷◌, ◌++◌, true, false, length, ap, sym, ◌∙◌, rules}
use Rattle.rt_sched.specs.Places.{place_before, same_place, has_place, without_place}
use Rattle.rt_sched.specs.declared.place.Place.{Place}
use Rattle.rt_sched.proofs.InOrder.{in_order_left, in_order_right, sides_shorter, has_place_left, has_place_right, has_place_middle, without_place_left, without_place_right, without_place_middle}
use Rattle.rt_sched.proofs.PlaceLemmas.{same_place_is}
use Rattle.rt_sched.proofs.tree.Tree.+remove.Goals as goal

pub remove-found-requires : goal.remove-found-requires
remove-found-requires t c =
    let is = c.in-Some.ensures.parts in
    let shorter : length c.in-Some.left < length c.args.self = rw is (sides_shorter _ _ _).0 in
    (search rules, in_order_left _ _ _ (rw is at c.requires.in_order))

pub remove-found-requires-else-is_before : goal.remove-found-requires-else-is_before
remove-found-requires-else-is_before t c =
    let is = c.in-Some.ensures.parts in
    let shorter : length c.in-Some.right < length c.args.self = rw is (sides_shorter _ _ _).1 in
    (search rules, in_order_right _ _ _ (rw is at c.requires.in_order))

pub returns-then-is_same : goal.returns-then-is_same
returns-then-is_same t c =
    let is = c.in-Some.ensures.parts in
    let x = c.args.place.now in
    let k = c.in-Some.root.value.place in
    let compared : c.is_same.result ≡ same_place x k = rw c.deref.ensures at c.is_same.ensures.same in
    let same : same_place x k ≡ true = sym compared ∙ c.if-is_same.true in
    let has = has_place_middle x c.in-Some.left k c.in-Some.right same in
    let rest = without_place_middle x c.in-Some.left k c.in-Some.right same (rw is at c.requires.in_order) in
    record {
      found = sym has ∙ ap (has_place x) (sym is);
      node = sym (same_place_is x k same);
      others = c.joined.ensures.places ∙ sym rest ∙ ap (without_place x) (sym is);
    }

pub returns-then-is_before : goal.returns-then-is_before
returns-then-is_before t c =
    let is = c.in-Some.ensures.parts in
    let x = c.args.place.now in
    let k = c.in-Some.root.value.place in
    let before : c.is_before.result ≡ place_before x k = rw c.deref-else-is_same.ensures at c.is_before.ensures.before in
    let first : place_before x k ≡ true = sym before ∙ c.if-is_before.true in
    let ordered = rw is at c.requires.in_order in
    let has = has_place_left x c.in-Some.left k c.in-Some.right first ordered in
    let rest = without_place_left x c.in-Some.left k c.in-Some.right first ordered in
    record {
      found = c.remove-found.ensures.found ∙ sym has ∙ ap (has_place x) (sym is);
      node = c.remove-found.ensures.node;
      others = c.balanced.ensures.places ∙ ap (λ (l : List Place). l ++ k ∷ c.in-Some.right) c.remove-found.ensures.others ∙ sym rest ∙ ap (without_place x) (sym is);
    }

pub returns-else-is_before : goal.returns-else-is_before
returns-else-is_before t c =
    let is = c.in-Some.ensures.parts in
    let x = c.args.place.now in
    let k = c.in-Some.root.value.place in
    let compared : c.is_same.result ≡ same_place x k = rw c.deref.ensures at c.is_same.ensures.same in
    let before : c.is_before.result ≡ place_before x k = rw c.deref-else-is_same.ensures at c.is_before.ensures.before in
    let other : same_place x k ≡ false = sym compared ∙ c.if-is_same.false in
    let late : place_before x k ≡ false = sym before ∙ c.if-is_before.false in
    let ordered = rw is at c.requires.in_order in
    let has = has_place_right x c.in-Some.left k c.in-Some.right other late ordered in
    let rest = without_place_right x c.in-Some.left k c.in-Some.right other late ordered in
    record {
      found = c.remove-found-else-is_before.ensures.found ∙ sym has ∙ ap (has_place x) (sym is);
      node = c.remove-found-else-is_before.ensures.node;
      others = c.balanced-else-is_before.ensures.places ∙ ap (λ (l : List Place). c.in-Some.left ++ k ∷ l) c.remove-found-else-is_before.ensures.others ∙ sym rest ∙ ap (without_place x) (sym is);
    }
