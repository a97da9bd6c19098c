use Rattle.std.proofs.Common.{◌∙◌, ap, sym}
use Rattle.tree_mirror.specs.Sealed.{component_of}
use Rattle.run_state.specs.Mirror.{state_of}
use Rattle.run_work.specs.Items.{item_of}
use Rattle.run_standing.specs.Feeds.{child_fed, feeds}
use Rattle.run_standing.proofs.keeping.fed_by.Goals as goal

pub returns-in-Feed : goal.returns-in-Feed
returns-in-Feed g c =
    λ kept.
    let app = g.A.App.meaning c.args.app.now in
    let w = state_of kept c.args.state.now in
    c.child_fed.ensures kept
    ∙ ap (λ o. child_fed app w (component_of c.in-Feed.component) o) (c.fed_child.ensures kept)
    ∙ sym (ap (λ i. feeds app w (item_of i)) c.in-Feed.is)
