use Rattle.std.proofs.Common.{rules, ap, ◌∙◌}
use Rattle.std.specs.Prelude.{is_some}
use Rattle.std.proofs.lemmas.Fn.{filter_same}
use Rattle.run_table.specs.Stands.{live}
use Rattle.run_table.proofs.Lives.{rises-filter, live-some}
use Rattle.run_table.proofs.shelf.Shelf.tidy.Goals as goal

pub invariant_of-self : goal.invariant_of-self
invariant_of-self g c =
    λ rising.
    rw (filter_same _ (λ row. is_some row.1) _ (λ x b f call. search rules) c.self.inside.rows.items c.retain.new.self.items c.retain.ensures.filtered)
    (rises-filter (λ row. is_some row.1) c.self.inside.rows.items 0 (c.self.invariant rising))

pub returns : goal.returns
returns g c =
    record {
      same =
          ap live (filter_same _ (λ row. is_some row.1) _ (λ x b f call. search rules) c.self.inside.rows.items c.retain.new.self.items c.retain.ensures.filtered)
          ∙ live-some c.self.inside.rows.items
          ∙ c.self.view_is;
    }
