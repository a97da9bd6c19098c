-- What stands under the keys of nodes are the nodes.
use Rattle.std.proofs.Common.{◌∙◌, ap, map, subst, sym}
use Rattle.run_places.specs.Apart.{Apart}
use Rattle.run_places.specs.Keys.{Indexes}
use Rattle.run_places.specs.PlaceKeys.{node_key}
use Rattle.run_places.proofs.nodes.Nodes.keyed.Goals as goal

pub are_apart-requires : goal.are_apart-requires
are_apart-requires c =
    let keys = c.as_slice-2.ensures.value ∙ c.in_ok-keys.ensures ∙ ap (λ xs. map node_key xs) (c.as_slice.ensures.items ∙ sym c.as_slice-3.ensures.items) in
    subst (λ ks. Indexes ks (map node_key c.as_slice-3.result.now)) (sym c.as_slice-4.ensures.items)
    (subst (λ ks. Indexes c.in_ok-sorted.sorted ks) keys c.in_ok-sorted.ensures)

pub invariant_of-result : goal.invariant_of-result
invariant_of-result c =
    let keys = c.as_slice-2.ensures.value ∙ c.in_ok-keys.ensures ∙ ap (λ xs. map node_key xs) c.as_slice.ensures.items in
    rw c.in_ok-from_list.ensures.items
    (λ many. subst (λ ks. Indexes c.in_ok-sorted.sorted ks) keys c.in_ok-sorted.ensures, subst (λ xs. Apart xs) c.as_slice-3.ensures.items (c.are_apart.ensures c.if-are_apart.true))
