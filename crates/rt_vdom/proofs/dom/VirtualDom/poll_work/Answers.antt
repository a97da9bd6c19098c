-- Messages are taken in, and events processed.
use Rattle.std.proofs.Common.{◌∙◌}
use Rattle.std.proofs.lemmas.Result.{err_from_is_err_and}
use Rattle.rt_vdom.specs.Handles.{taken_in}
use Rattle.rt_vdom.proofs.Answered.{works_err, works_wanting, worked}
use Rattle.rt_vdom.proofs.dom.VirtualDom.poll_work.Goals as goal

pub returns-in_err-take_messages-in-Built-clause-works : goal.returns-in_err-take_messages-in-Built-clause-works
returns-in_err-take_messages-in-Built-clause-works g c =
    let p = err_from_is_err_and c.from_residual.result c.from_residual.ensures.1 in
    rw (p.1, p.2)
    (
    λ props whole w s.
    works_wanting (λ app. g.A.App.meaning app) props whole w c.args.drained.now c.take_messages.new.self _
    c.in_err-take_messages-in-Built.ensures.refused
    )

pub returns-in_err-go_on-in-Built-clause-works : goal.returns-in_err-go_on-in-Built-clause-works
returns-in_err-go_on-in-Built-clause-works g c =
    let p = err_from_is_err_and c.from_residual-in_err-go_on-in-Built.result c.from_residual-in_err-go_on-in-Built.ensures.1 in
    rw (p.1, p.2)
    (
    λ props whole w s.
    works_err (λ app. g.A.App.meaning app) props whole w c.args.drained.now c.go_on.new.self _
    (c.in_err-go_on-in-Built.ensures.runs props whole (taken_in w c.args.drained.now)
    (c.in_ok-take_messages-in-Built.ensures.taken props whole w s).0)
    )

pub returns-in_ok-go_on-in-Built-clause-works : goal.returns-in_ok-go_on-in-Built-clause-works
returns-in_ok-go_on-in-Built-clause-works g c =
    λ props whole w s.
    worked (λ app. g.A.App.meaning app) props whole w c.args.drained.now c.go_on.new.self c.in_ok-go_on-in-Built.field-0 c.waits.result
    (c.in_ok-take_messages-in-Built.ensures.taken props whole w s).1
    (c.in_ok-go_on-in-Built.ensures.runs props whole (taken_in w c.args.drained.now)
    (c.in_ok-take_messages-in-Built.ensures.taken props whole w s).0)
    c.waits.ensures.waits

pub returns-in_err-go_on-in-Built-clause-fails : goal.returns-in_err-go_on-in-Built-clause-fails
returns-in_err-go_on-in-Built-clause-fails g c =
    let p = err_from_is_err_and c.from_residual-in_err-go_on-in-Built.result c.from_residual-in_err-go_on-in-Built.ensures.1 in
    rw (p.1, p.2) (c.in_err-go_on-in-Built.ensures.fails (c.in_ok-take_messages-in-Built.ensures.staged ∙ c.in-Built.is))
