-- A number past the end stands nowhere; one that stays keeps its place.
use Rattle.std.proofs.Common.{drop, sym, ◌∙◌}
use Rattle.run_state.proofs.Forgets.{pair_goes, pair_nowhere, pair_stays}
use Rattle.run_state.proofs.places.forget_pair.Goals as goal

pub returns-then-not-is_known : goal.returns-then-not-is_known
returns-then-not-is_known c = λ rest.
    pair_nowhere c.args.nodes.now c.args.places.now c.args.pair.now rest (drop c.args.next c.args.stay.now) (sym c.is_known.ensures ∙ c.if-not-is_known.true)

pub returns-then-stays : goal.returns-then-stays
returns-then-stays c = λ rest.
    pair_stays c.args.nodes.now c.args.places.now c.args.pair.now rest c.args.stay.now c.args.next (sym c.is_known.ensures ∙ c.if-not-is_known.false)
    (c.stays.ensures.within c.if-stays.true) (sym c.stays.ensures.is ∙ c.if-stays.true)

pub returns : goal.returns
returns c = λ rest.
    pair_goes c.args.nodes.now c.args.places.now c.remove.new.self c.args.pair.now rest c.args.stay.now c.args.next (sym c.is_known.ensures ∙ c.if-not-is_known.false)
    (sym c.stays.ensures.is ∙ c.if-stays.false) c.remove.ensures.others
