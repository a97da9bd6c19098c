use Rattle.std.proofs.Common.{◌≡◌, ◌<◌, ◌∙◌, length, sym, arith}
use Rattle.std.specs.Prelude.{Some, slice_get}
use Rattle.run_places.proofs.Keyed.{got_there}
use Rattle.run_places.proofs.Firsts.{first_node}
use Rattle.run_places.proofs.nodes.is_first.Goals as goal

pub first_in-requires : goal.first_in-requires
first_in-requires c = c.requires

pub returns-in-Some : goal.returns-in-Some
returns-in-Some c = λ yes.
    let here : slice_get c.args.items.now c.args.index ≡ Some c.in-Some.item.now =
    got_there c.args.items.now c.args.index c.in-Some.item.now (let low : c.args.index < length c.args.items.now = omega (arith, c.in-Some.ensures.lookup) in low) c.in-Some.ensures.lookup.1 in
    first_node c.args.items.now c.args.index c.in-Some.item.now here
    (sym c.first_in.ensures ∙ c.is_index.ensures yes)
