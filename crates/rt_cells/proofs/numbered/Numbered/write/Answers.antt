-- Whether something is kept under the number.
use Rattle.std.proofs.Common.{◌∙◌, sym, ap}
use Rattle.std.specs.Option.{is_some, option_copied_mut}
use Rattle.rt_cells.proofs.numbered.Numbered.write.Goals as goal
use Rattle.rt_cells.proofs.numbered.Numbered.write.Goals.{in-Some, in-None}

pub returns-clause-kept : goal.returns-clause-kept
returns-clause-kept g c = rw (← c.self.view_is)
    (elim c.match-get_mut.branch [
      | in-Some w ↦ w.result-is ∙ ap (λ found. is_some (option_copied_mut found)) (sym w.in-Some.is) ∙ ap is_some c.get_mut.ensures.value
      | in-None w ↦ w.result-is ∙ ap (λ found. is_some (option_copied_mut found)) (sym w.in-None.is) ∙ ap is_some c.get_mut.ensures.value
    ])
