use Rattle.std.proofs.Common.{◌++◌, rules, ap, ◌∙◌}
use Rattle.std.specs.Prelude.{is_some}
use Rattle.std.proofs.lemmas.Fn.{filter_same}
use Rattle.rt_sched.specs.Seats.{taken}
use Rattle.rt_sched.proofs.Taken.{rises_filter, taken_some}
use Rattle.rt_sched.proofs.seating.Seating.tidy.Goals as goal

pub invariant_of-self : goal.invariant_of-self
invariant_of-self c =
    rw (filter_same _ (λ row. is_some row.1) _ (λ x b f call. search rules) c.self.inside.rows.items c.retain.new.self.items c.retain.ensures.filtered)
    (rises_filter (λ row. is_some row.1) c.self.inside.rows.items 0 c.self.invariant)

pub returns : goal.returns
returns c =
    record {
      same =
          ap (λ rows. taken rows ++ c.self.inside.others.entries) (filter_same _ (λ row. is_some row.1) _ (λ x b f call. search rules) c.self.inside.rows.items c.retain.new.self.items c.retain.ensures.filtered)
          ∙ ap (λ es. es ++ c.self.inside.others.entries) (taken_some c.self.inside.rows.items)
          ∙ c.self.view_is;
    }
