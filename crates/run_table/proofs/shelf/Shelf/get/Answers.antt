use Rattle.std.proofs.Common.{ap, ◌∙◌}
use Rattle.rt_model.specs.Lists.{at}
use Rattle.run_table.specs.Stands.{live}
use Rattle.run_table.proofs.shelf.Shelf.get.Goals as goal

pub value_of-requires : goal.value_of-requires
value_of-requires g c = record { rises = rw c.as_slice.ensures.value c.self.invariant }

pub returns : goal.returns
returns g c =
    record { value = c.value_of.ensures ∙ ap (λ rows. at (live rows) c.args.number) c.as_slice.ensures.value ∙ ap (λ es. at es c.args.number) c.self.view_is }
