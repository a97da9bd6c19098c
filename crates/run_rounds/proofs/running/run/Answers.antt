use Rattle.std.proofs.Common.{[]}
use Rattle.run_outside.proofs.Said.{if_err}
use Rattle.run_rounds.proofs.running.run.Goals as goal

pub returns-in-Events-clause-runs : goal.returns-in-Events-clause-runs
returns-in-Events-clause-runs g c = rw (c.in-Events.is) (λ r stands. c.go_on.ensures.goes r [] stands)

pub returns-in-Renders-clause-runs : goal.returns-in-Renders-clause-runs
returns-in-Renders-clause-runs g c = rw (c.in-Renders.is) (λ r stands. c.render.ensures.renders r stands)

pub returns-in-Settles-clause-runs : goal.returns-in-Settles-clause-runs
returns-in-Settles-clause-runs g c = rw (c.in-Settles.is) (λ r stands. c.go_on-in-Settles.ensures.goes r [] stands)

pub returns-in-Events-clause-breaks : goal.returns-in-Events-clause-breaks
returns-in-Events-clause-breaks g c =
    rw (c.in-Events.is) (if_err c.go_on.result c.go_on.ensures.breaks (λ ended breaks r none stands. breaks r [] none stands))

pub returns-in-Renders-clause-breaks : goal.returns-in-Renders-clause-breaks
returns-in-Renders-clause-breaks g c = rw (c.in-Renders.is) c.render.ensures.breaks

pub returns-in-Settles-clause-breaks : goal.returns-in-Settles-clause-breaks
returns-in-Settles-clause-breaks g c =
    rw (c.in-Settles.is)
    (if_err c.go_on-in-Settles.result c.go_on-in-Settles.ensures.breaks (λ ended breaks r none stands. breaks r [] none stands))
