use Rattle.std.proofs.Common.{sym, ◌∙◌}
use Rattle.run_state.specs.Mirror.{state_of}
use Rattle.run_rounds.proofs.Polling.{none_polled, one_polled}
use Rattle.run_rounds.proofs.suspended.polls.Goals as goal

pub returns-in-Some : goal.returns-in-Some
returns-in-Some g c =
    λ kept. none_polled (state_of kept c.args.state.now) c.in-Some._scope (sym (c.first_seen.ensures kept) ∙ c.in-Some.is)

pub returns-in-None : goal.returns-in-None
returns-in-None g c =
    λ kept.
    c.is_some.ensures
    ∙ one_polled (state_of kept c.args.state.now) (sym (c.first_seen.ensures kept) ∙ c.in-None.is) c.found.result (c.found.ensures kept)
