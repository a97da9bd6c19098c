-- A link is shown of its scope.
use Rattle.std.proofs.Common.{◌≡◌, ◌∙◌, ap, sym}
use Rattle.rt_author.proofs.Rules.{at_done, at_scope}
use Rattle.rt_author.specs.Words.{call_of, came, reached, rendered, tree_of, world_of}
use Rattle.examples_router.specs.declared.router.Component.{Component}
use Rattle.examples_router.specs.Meaning.{RouterTree, body, tree, link}
use Rattle.examples_router.proofs.router.RouterBodies.body.Goals as goal

pub returns-in_ok-link-in-Link-clause-came : goal.returns-in_ok-link-in-Link-clause-came
returns-in_ok-link-in-Link-clause-came c = λ had.
    let w = world_of c.args.cx.now.world in
    let call = call_of c.args.cx.now in
    ap (λ (k : Component). came w (body k c.args.props.now) call) c.in-Link.is
    ∙ at_scope w (λ scope. tree (link scope c.args.props.now)) call
    ∙ at_done w (rendered (tree_of (link w.given.scope c.args.props.now))) call
    ∙ ap (λ (t : RouterTree). reached (rendered (tree_of t)) call)
    (ap (λ s. link s.0 c.args.props.now) (sym c.current_scope_id-scope.ensures) ∙ sym c.in_ok-link-in-Link.ensures.tree)
