use Rattle.std.proofs.Common.{◌∙◌, ap, sym}
use Rattle.rt_model.specs.Values as values
use Rattle.tree_mirror.specs.Sealed.{component_of}
use Rattle.tree_mirror.proofs.SealedComponents.{component_App, component_Root, component_Fragment, component_ErrorBoundary, component_SuspenseBoundary}
use Rattle.tree_mirror.specs.One.{is_by_value}
use Rattle.tree_mirror.proofs.Keeping.{kept_by_value}
use Rattle.run_standing.proofs.Kept.{error_boundary_never}
use Rattle.run_standing.proofs.keeping.keeps_output.Goals as goal

pub returns-in-App : goal.returns-in-App
returns-in-App g c =
    c.keeps_own.ensures ∙ sym (ap (λ x. values.keeps_output (g.A.App.meaning c.args.app.now) x (component_of c.args.new.now)) (ap component_of c.in-App.is ∙ component_App _ _ _))

pub returns-in-ErrorBoundary : goal.returns-in-ErrorBoundary
returns-in-ErrorBoundary g c =
    error_boundary_never (g.A.App.meaning c.args.app.now) _ _ (component_of c.args.old.now) (component_of c.args.new.now) (ap component_of c.in-ErrorBoundary.is ∙ component_ErrorBoundary _)

pub returns-in-Root : goal.returns-in-Root
returns-in-Root g c =
    kept_by_value (g.A.App.meaning c.args.app.now) (g.met.A.App.lawful c.args.app.now) _ c.args.old.now c.args.new.now
    (ap (λ x. is_by_value x) (ap component_of c.in-Root.is ∙ component_Root _)) c.same.ensures

pub returns-in-Fragment : goal.returns-in-Fragment
returns-in-Fragment g c =
    kept_by_value (g.A.App.meaning c.args.app.now) (g.met.A.App.lawful c.args.app.now) _ c.args.old.now c.args.new.now
    (ap (λ x. is_by_value x) (ap component_of c.in-Fragment.is ∙ component_Fragment _)) c.same-in-Fragment.ensures

pub returns-in-SuspenseBoundary : goal.returns-in-SuspenseBoundary
returns-in-SuspenseBoundary g c =
    kept_by_value (g.A.App.meaning c.args.app.now) (g.met.A.App.lawful c.args.app.now) _ c.args.old.now c.args.new.now
    (ap (λ x. is_by_value x) (ap component_of c.in-SuspenseBoundary.is ∙ component_SuspenseBoundary _)) c.same-in-SuspenseBoundary.ensures
