use Rattle.std.proofs.Common.{ap, ◌∙◌}
use Rattle.rt_model.specs.Lists.{without}
use Rattle.run_table.proofs.shelf.Shelf.remove.Goals as goal

pub returns : goal.returns
returns g c = record { others = c.tidy.ensures.same ∙ c.empty.ensures.others ∙ ap (λ es. without es c.args.number) c.self.view_is }
