-- Messages are taken in, and suspended work is polled.
use Rattle.std.proofs.Common.{◌∙◌}
use Rattle.std.proofs.lemmas.Result.{err_from_is_err_and}
use Rattle.rt_vdom.specs.Handles.{taken_in}
use Rattle.rt_vdom.proofs.Answered.{polls_err, polls_wanting, polled_from}
use Rattle.rt_vdom.proofs.dom.VirtualDom.poll_suspense.Goals as goal

pub returns-in_err-take_messages-in-Built-clause-polls : goal.returns-in_err-take_messages-in-Built-clause-polls
returns-in_err-take_messages-in-Built-clause-polls g c =
    let p = err_from_is_err_and c.from_residual.result c.from_residual.ensures.1 in
    rw (p.1, p.2)
    (
    λ props whole w s.
    polls_wanting (λ app. g.A.App.meaning app) props w c.args.drained.now c.take_messages.new.self _
    c.in_err-take_messages-in-Built.ensures.refused
    )

pub returns-in_err-poll_suspended-in-Built-clause-polls : goal.returns-in_err-poll_suspended-in-Built-clause-polls
returns-in_err-poll_suspended-in-Built-clause-polls g c =
    let p = err_from_is_err_and c.from_residual-in_err-poll_suspended-in-Built.result c.from_residual-in_err-poll_suspended-in-Built.ensures.1 in
    rw (p.1, p.2)
    (
    λ props whole w s.
    polls_err (λ app. g.A.App.meaning app) props w c.args.drained.now c.poll_suspended.new.self _
    (c.in_err-poll_suspended-in-Built.ensures.polls props whole (taken_in w c.args.drained.now)
    (c.in_ok-take_messages-in-Built.ensures.taken props whole w s).0)
    )

pub returns-in_ok-poll_suspended-in-Built-clause-polls : goal.returns-in_ok-poll_suspended-in-Built-clause-polls
returns-in_ok-poll_suspended-in-Built-clause-polls g c =
    λ props whole w s.
    polled_from (λ app. g.A.App.meaning app) props w c.args.drained.now c.poll_suspended.new.self c.waits_suspended.result
    (c.in_ok-take_messages-in-Built.ensures.taken props whole w s).1
    (c.in_ok-poll_suspended-in-Built.ensures.polls props whole (taken_in w c.args.drained.now)
    (c.in_ok-take_messages-in-Built.ensures.taken props whole w s).0)
    c.waits_suspended.ensures.waits

pub returns-in_err-poll_suspended-in-Built-clause-fails : goal.returns-in_err-poll_suspended-in-Built-clause-fails
returns-in_err-poll_suspended-in-Built-clause-fails g c =
    let p = err_from_is_err_and c.from_residual-in_err-poll_suspended-in-Built.result c.from_residual-in_err-poll_suspended-in-Built.ensures.1 in
    rw (p.1, p.2) (c.in_err-poll_suspended-in-Built.ensures.fails (c.in_ok-take_messages-in-Built.ensures.staged ∙ c.in-Built.is))
