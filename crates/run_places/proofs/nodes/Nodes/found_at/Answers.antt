use Rattle.std.proofs.Common.{◌∙◌, ◌<◌, ◌≤◌, length, arith, ap, map, subst, sym}
use Rattle.run_places.specs.Indexed.{node_index}
use Rattle.run_places.specs.Keys.{Indexes}
use Rattle.run_places.specs.PlaceKeys.{node_key}
use Rattle.run_places.specs.Places.{kind_of, place_of}
use Rattle.run_places.proofs.nodes.Nodes.found_at.Goals as goal

pub first_in-requires : goal.first_in-requires
first_in-requires c =
    subst (λ ks. Indexes ks (map node_key c.as_slice-2.result.now)) (sym c.as_slice-3.ensures.items)
    (subst (λ xs. Indexes c.self.inside.keys (map node_key xs)) (sym c.as_slice-2.ensures.items) (c.self.invariant.0 (let many : 1 < length c.self.inside.items = omega (arith, c.if-len-le-ALONE.false, c.len.ensures.items) in many)))

pub returns-clause-found : goal.returns-clause-found
returns-clause-found c =
    rw (← c.self.view_is) (c.first_in.ensures ∙ ap (λ xs. node_index xs (place_of c.args.place.now) (kind_of c.args.kind)) c.as_slice-2.ensures.items)

pub returns-clause-apart : goal.returns-clause-apart
returns-clause-apart c = rw (← c.self.view_is) c.self.invariant.1

-- one alone is looked at
pub alone_at-requires : goal.alone_at-requires
alone_at-requires c =
    let few : length c.self.inside.items ≤ 1 = omega (arith, c.if-len-le-ALONE.true, c.len.ensures.items) in
    subst (λ xs. length xs ≤ 1) (sym c.as_slice.ensures.items) few

pub returns-then-len-le-ALONE-clause-found : goal.returns-then-len-le-ALONE-clause-found
returns-then-len-le-ALONE-clause-found c = rw (← c.self.view_is) (c.alone_at.ensures ∙ ap (λ xs. node_index xs (place_of c.args.place.now) (kind_of c.args.kind)) c.as_slice.ensures.items)

pub returns-then-len-le-ALONE-clause-apart : goal.returns-then-len-le-ALONE-clause-apart
returns-then-len-le-ALONE-clause-apart c = rw (← c.self.view_is) c.self.invariant.1
