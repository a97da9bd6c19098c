use Rattle.std.proofs.Common.{◌∙◌, ap, sym}
use Rattle.std.specs.Prelude.{Some, None}
use Rattle.run_records.specs.Kept.{scope_of}
use Rattle.tree_mirror.specs.Sealed.{component_of}
use Rattle.run_state.proofs.Each.{found-each}
use Rattle.run_standing.proofs.Kept.{keeps_by}
use Rattle.run_standing.proofs.keeping.keeps.Goals as goal

pub returns-in-Some : goal.returns-in-Some
returns-in-Some g c =
    λ kept.
    c.keeps_output.ensures
    ∙ sym (ap (λ o. keeps_by (g.A.App.meaning c.args.app.now) (component_of c.args.component.now) o) (found-each scope_of (c.args.state.now.rows).table c.args.scope (Some c.in-Some.found.now) c.in-Some.ensures))

pub returns-in-None : goal.returns-in-None
returns-in-None g c =
    λ kept. sym (ap (λ o. keeps_by (g.A.App.meaning c.args.app.now) (component_of c.args.component.now) o) (found-each scope_of (c.args.state.now.rows).table c.args.scope None c.in-None.ensures))
