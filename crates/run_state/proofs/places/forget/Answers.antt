-- The walk over what is drawn, in the words of a side.
use Rattle.std.proofs.Common.{ℕ, List, ap, ◌∙◌}
use Rattle.run_named.specs.Standings.{went, without_all}
use Rattle.run_places.specs.declared.nodes.NodeAt.{NodeAt}
use Rattle.run_state.specs.Drawn.{numbers_at, numbers_in}
use Rattle.run_state.proofs.places.forget.Goals as goal

pub returns : goal.returns
returns g c =
    c.forget_drawn.ensures
    ∙ ap (λ (ns : List NodeAt). without_all c.args.places.now (went (numbers_at ns c.as_slice-drawn.result.now) (numbers_in c.args.stay.now))) c.as_slice-nodes.ensures.items
    ∙ ap (λ (es : List (ℕ × ℕ)). without_all c.args.places.now (went (numbers_at c.args.side.now.nodes es) (numbers_in c.args.stay.now))) c.as_slice-drawn.ensures.pairs
