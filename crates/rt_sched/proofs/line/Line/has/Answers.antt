use Rattle.std.proofs.Common.{ap, sym, ◌∙◌}
use Rattle.std.specs.Option.{is_some}
use Rattle.rt_sched.specs.Lines.{Row, standing, waits}
use Rattle.rt_sched.proofs.After.{waits_by_place}
use Rattle.rt_sched.proofs.line.Line.has.Goals as goal

pub returns : goal.returns
returns c =
    record {
      waiting = c.is_some.ensures
          ∙ ap is_some c.place_at.ensures.place
          ∙ sym (waits_by_place (standing c.self.inside.seats) c.self.inside.tree c.self.inside.arrivals c.args.number c.self.invariant)
          ∙ ap (λ (r : Row). waits c.args.number r.waiting) c.self.view_is;
    }
