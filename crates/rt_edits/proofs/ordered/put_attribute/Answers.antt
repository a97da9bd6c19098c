-- An attribute takes its place.
use Rattle.std.proofs.Common.{◌≡◌, ◌<◌, ◌≤◌, length, get_or, true, false, rules, arith, sym, ap, ◌∙◌}
use Rattle.std.specs.Ordering.{is_eq}
use Rattle.rt_edits.specs.Ordered.{attribute_order, place_for}
use Rattle.rt_edits.proofs.Places.{put_over, put_new, place_within}
use Rattle.rt_edits.proofs.ordered.put_attribute.Goals as goal
use Rattle.rt_edits.proofs.ordered.put_attribute.Goals.{else-at-len-via-then-at-len+else-is_eq, else-at-len-via-else-at-len}

pub returns-then-is_eq-clause-ok : goal.returns-then-is_eq-clause-ok
returns-then-is_eq-clause-ok c =
    let order = attribute_order c.args.attr.name c.args.attr.namespace in
    let place : c.place_for_attribute-at.result ≡ place_for order c.args.attrs.now.items = search rules in
    let low : c.place_for_attribute-at.result < length c.args.attrs.now.items = search rules in
    let same : is_eq (order c.index.result.now) ≡ true = search rules in
    put_over order c.args.attr c.args.attrs.now.items c.place_for_attribute-at.result c.index.result.now place low
    (ap (λ b. is_eq (order b)) (sym c.index.ensures) ∙ same)

pub insert-requires : goal.insert-requires
insert-requires c =
    let order = attribute_order c.args.attr.name c.args.attr.namespace in
    let place : c.place_for_attribute-at.result ≡ place_for order c.args.attrs.now.items = search rules in
    let within : place_for order c.args.attrs.now.items ≤ length c.args.attrs.now.items = place_within order c.args.attr c.args.attrs.now.items in
    search (rules, within)

pub returns-clause-ok : goal.returns-clause-ok
returns-clause-ok c =
    let order = attribute_order c.args.attr.name c.args.attr.namespace in
    let items = c.args.attrs.now.items in
    let at = c.place_for_attribute-at.result in
    let place : c.place_for_attribute-at.result ≡ place_for order items = search rules in
    c.in_ok-insert.ensures.items ∙
    elim c.else-at-len.branch [
      | else-at-len-via-then-at-len+else-is_eq w ↦
          let other : is_eq (order w.index.result.now) ≡ false = search rules in
          put_new order c.args.attr items at w.index.result.now place (λ low. ap (λ b. is_eq (order b)) (sym w.index.ensures) ∙ other)
      | else-at-len-via-else-at-len w ↦
          let end : length items ≤ at = search rules in
          put_new order c.args.attr items at c.args.attr place (λ low. absurd (omega (arith, low, end)))
    ]
