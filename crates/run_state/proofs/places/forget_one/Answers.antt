-- A number past the end stands nowhere, another one has a place.
use Rattle.std.proofs.Common.{ℕ, List, [], ap, sym, ◌∙◌}
use Rattle.run_named.specs.Standings.{without_all}
use Rattle.run_state.proofs.Forgets.{known_more, not_known}
use Rattle.run_state.proofs.places.forget_one.Goals as goal

pub returns-then-not-is_known : goal.returns-then-not-is_known
returns-then-not-is_known c =
    ap (λ (ns : List ℕ). without_all c.args.places.now ns) (sym (not_known c.args.nodes.now c.args.pair.now [] (sym c.is_known.ensures ∙ c.if-not-is_known.true)))

pub returns : goal.returns
returns c =
    c.remove.ensures.others
    ∙ ap (λ (ns : List ℕ). without_all c.args.places.now ns) (sym (known_more c.args.nodes.now c.args.pair.now [] (sym c.is_known.ensures ∙ c.if-not-is_known.false)))
