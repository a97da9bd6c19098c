-- The first one at a place is the first one at an index that its key names.
use Rattle.std.proofs.Common.{◌∙◌, sym, ap}
use Rattle.run_places.specs.Keys.{picks}
use Rattle.run_places.specs.Places.{kind_of, place_of}
use Rattle.run_places.proofs.Hits.{among_nodes, first_in_nodes, node_found}
use Rattle.run_places.proofs.nodes.first_in.Goals as goal

pub key_run-run-requires : goal.key_run-run-requires
key_run-run-requires c = record { ascending = c.requires.ascending }

pub returns : goal.returns
returns c =
    let nodes = c.args.items.now in
    let p = place_of c.args.place.now in
    let k = kind_of c.args.kind in
    c.first_at.ensures
    ∙ among_nodes nodes p k c.key_run-run.result.now
    ∙ ap (λ is. first_in_nodes nodes p k is)
    (c.key_run-run.ensures.indices ∙ ap (λ key. picks key c.args.sorted.now) c.place_key.ensures ∙ c.requires.each _)
    ∙ sym (node_found c.args.place.now c.args.kind nodes)
