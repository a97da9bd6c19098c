use Rattle.std.proofs.Common.{◌∙◌, ap, sym}
use Rattle.std.specs.Prelude.{Some}
use Rattle.tree_mirror.specs.Sealed.{component_of}
use Rattle.run_state.specs.Mirror.{state_of}
use Rattle.run_standing.specs.Feeds.{child_fed}
use Rattle.run_standing.proofs.keeping.child_fed.Goals as goal

pub returns-in-Some : goal.returns-in-Some
returns-in-Some g c =
    λ kept.
    let app = g.A.App.meaning c.args.app.now in
    let w = state_of kept c.args.state.now in
    ap (λ b. Some (c.in-Some.child, b)) (c.keeps.ensures kept)
    ∙ sym (ap (λ o. child_fed app w (component_of c.args.component.now) o) c.in-Some.is)
