use Rattle.std.proofs.Common.{[], ◌∷◌, ◌++◌, Some, ap, ◌∙◌}
use Rattle.run_table.specs.Stands.{live}
use Rattle.run_table.proofs.Lives.{live-pushed, refused}
use Rattle.run_table.proofs.shelf.Shelf.push.Goals as goal

pub keeps_rising-rising-requires : goal.keeps_rising-rising-requires
keeps_rising-rising-requires g c = record { rises = rw c.as_slice-rows.ensures.value c.self.invariant }

pub invariant_of-self : goal.invariant_of-self
invariant_of-self g c = λ rising. rw c.in_err-push.ensures.items (c.self.invariant rising)

pub returns-in_err-push-clause-err : goal.returns-in_err-push-clause-err
returns-in_err-push-clause-err g c = refused c.from_residual.result (ap live c.in_err-push.ensures.items ∙ c.self.view_is)

pub invariant_of-self-2 : goal.invariant_of-self-2
invariant_of-self-2 g c =
    λ rising.
    rw (c.in_ok-push.ensures.items, ← c.as_slice-rows.ensures.value) (c.keeps_rising-rising.ensures rising (Some c.args.value))

pub returns-clause-ok : goal.returns-clause-ok
returns-clause-ok g c =
    ap live c.in_ok-push.ensures.items ∙ live-pushed c.self.inside.rows.items c.args.number c.args.value ∙ ap (λ es. es ++ (c.args.number, c.args.value) ∷ []) c.self.view_is
