-- The first link of the place has the next one.
use Rattle.std.proofs.Common.{sym, ◌∙◌}
use Rattle.rt_cells.proofs.MetReaders.{met_first, met_none, met_end}
use Rattle.rt_cells.proofs.readers.Readers.next.Goals as goal
use Rattle.rt_cells.proofs.readers.Readers.next.Goals.{then-eq, else-eq}

pub returns-in_err-link : goal.returns-in_err-link
returns-in_err-link c =
    record { next = rw (c.from_residual.ensures, ← c.self.view_is) (met_end c.self.inside.place c.self.inside.links c.in_err-link.ensures.steps.0) }

pub returns : goal.returns
returns c = record {
  next = elim c.if-eq.branch [
    | then-eq w ↦ rw (w.result-is, ← c.self.view_is)
        (met_first c.self.inside.place c.self.inside.links c.next.new.self c.in_ok-link.link.now c.in_ok-link.ensures.steps (sym c.eq.ensures ∙ w.if-eq.true))
    | else-eq w ↦ rw (w.result-is, ← c.self.view_is)
        (met_none c.self.inside.place c.self.inside.links c.next.new.self c.in_ok-link.link.now c.in_ok-link.ensures.steps (sym c.eq.ensures ∙ w.if-eq.false))
  ];
}
