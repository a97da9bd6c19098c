use Rattle.std.proofs.Common.{ap, subst, ◌∙◌}
use Rattle.std.specs.Prelude.{IfSome}
use Rattle.std.specs.Option.{option_copied}
use Rattle.run_table.specs.Stands.{live, IsLast}
use Rattle.run_table.proofs.shelf.Shelf.last.Goals as goal

pub returns : goal.returns
returns g c =
    record {
      last = subst (λ es. IfSome (option_copied c.last_value.result) (λ value. IsLast es value)) (ap live c.as_slice.ensures.value ∙ c.self.view_is) c.last_value.ensures;
    }
