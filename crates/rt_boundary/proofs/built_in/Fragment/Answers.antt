-- The component at the mirror.
use Rattle.std.proofs.Common.{rules, ◌≡◌, ◌∙◌, ap}
use Rattle.tree_mirror.specs.Sealed.{element_of}
use Rattle.rt_model.specs.Tree as model
use Rattle.rt_boundary.specs.Seen.{children_in}
use Rattle.rt_scopes.proofs.BuiltIns.{fragment_is}
use Rattle.rt_boundary.proofs.built_in.Fragment.Goals as goal

pub returns-clause-meant : goal.returns-clause-meant
returns-clause-meant g c =
    let is : children_in c.args.props ≡ c.into_inner.result = search rules in
    fragment_is c.args.props ∙ ap (λ answer. model.Fragment (element_of answer)) is
