-- Each number is kept once, so that without its first thing is without all of it.
use Rattle.std.proofs.Common.{◌≡◌, ◌∙◌}
use Rattle.rt_cells.proofs.Lasting.{without_all}
use Rattle.rt_cells.proofs.numbered.Numbered.remove.Goals as goal

pub returns-in_err-owner-clause-gone : goal.returns-in_err-owner-clause-gone
returns-in_err-owner-clause-gone g c = rw (← c.self.view_is)
    (c.in_err-owner.ensures.entries ∙ without_all c.self.inside.held.entries c.args.number c.self.invariant.ascending)

pub returns-clause-gone : goal.returns-clause-gone
returns-clause-gone g c = rw (← c.self.view_is)
    (c.in_ok-owner.ensures.entries ∙ without_all c.self.inside.held.entries c.args.number c.self.invariant.ascending)
