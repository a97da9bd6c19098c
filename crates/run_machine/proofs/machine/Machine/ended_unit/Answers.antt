use Rattle.std.proofs.Common.{◌∙◌, ap, refl, subst, sym}
use Rattle.rt_model.specs.Caused.{caused}
use Rattle.run_reports.specs.Seen.{entry_of}
use Rattle.run_standing.specs.Orderly.{IsOrderly}
use Rattle.run_machine.proofs.Steps.{mounted_remembers}
use Rattle.run_machine.proofs.machine.Machine.ended_unit.Goals as goal

pub returns-clause-edits : goal.returns-clause-edits
returns-clause-edits g c =
    λ app lawful kept w remembers orderly.
    let mid = record c.args.self.now { scopes = record c.args.self.now.scopes { state = c.mount_shown.new.self } } in
    c.in_ok-edits.ensures app lawful kept w (mounted_remembers (entry_of c.args.first) c.args.self.now mid kept w.scopes refl refl (c.in_ok-mount_shown.ensures kept) remembers)
    (subst (λ x. IsOrderly x) (sym (c.in_ok-mount_shown.ensures kept)) orderly)
    ∙ ap (λ x. caused app w x (entry_of c.args.first)) (c.in_ok-mount_shown.ensures kept)
