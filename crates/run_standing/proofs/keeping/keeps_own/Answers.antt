use Rattle.std.proofs.Common.{◌∙◌, ap, sym}
use Rattle.rt_model.specs.Tree.{Own}
use Rattle.rt_model.specs.Values as values
use Rattle.tree_mirror.specs.Sealed.{component_of}
use Rattle.tree_mirror.proofs.SealedComponents.{component_App, component_Root, component_Fragment, component_ErrorBoundary, component_SuspenseBoundary}
use Rattle.run_standing.proofs.Kept.{own_same, own_other}
use Rattle.run_standing.proofs.keeping.keeps_own.Goals as goal

pub returns-then-same : goal.returns-then-same
returns-then-same g c =
    c.memoize.ensures.means
    ∙ own_same (g.A.App.meaning c.args.app.now) (g.met.A.App.lawful c.args.app.now) c.args.component.now c.in-App.other c.args.props.now c.in-App.new_props (component_of c.args.new.now)
    (ap component_of c.in-App.is ∙ component_App _ _ _) (c.same.ensures.same.0 c.if-same.true)

pub returns-else-same : goal.returns-else-same
returns-else-same g c =
    c.if-same.false
    ∙ own_other (g.A.App.meaning c.args.app.now) (g.met.A.App.lawful c.args.app.now) c.args.component.now c.in-App.other c.args.props.now c.in-App.new_props (component_of c.args.new.now)
    (ap component_of c.in-App.is ∙ component_App _ _ _) (λ same. sym c.if-same.false ∙ c.same.ensures.same.1 same)

pub returns-in-Root : goal.returns-in-Root
returns-in-Root g c = sym (ap (λ x. values.keeps_output (g.A.App.meaning c.args.app.now) (Own c.args.component.now c.args.props.now) x) (ap component_of c.in-Root.is ∙ component_Root _))

pub returns-in-Fragment : goal.returns-in-Fragment
returns-in-Fragment g c = sym (ap (λ x. values.keeps_output (g.A.App.meaning c.args.app.now) (Own c.args.component.now c.args.props.now) x) (ap component_of c.in-Fragment.is ∙ component_Fragment _))

pub returns-in-ErrorBoundary : goal.returns-in-ErrorBoundary
returns-in-ErrorBoundary g c = sym (ap (λ x. values.keeps_output (g.A.App.meaning c.args.app.now) (Own c.args.component.now c.args.props.now) x) (ap component_of c.in-ErrorBoundary.is ∙ component_ErrorBoundary _))

pub returns-in-SuspenseBoundary : goal.returns-in-SuspenseBoundary
returns-in-SuspenseBoundary g c = sym (ap (λ x. values.keeps_output (g.A.App.meaning c.args.app.now) (Own c.args.component.now c.args.props.now) x) (ap component_of c.in-SuspenseBoundary.is ∙ component_SuspenseBoundary _))
