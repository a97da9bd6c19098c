-- The card and what is waited for are shown as they are.
use Rattle.std.proofs.Common.{◌∙◌, ap, sym}
use Rattle.std.specs.Prelude.{codes}
use Rattle.rt_author.proofs.Rules.{at_done}
use Rattle.rt_author.specs.Words.{call_of, came, reached, rendered, tree_of, world_of}
use Rattle.examples_board.specs.declared.parts.Component.{Component}
use Rattle.examples_board.specs.Meaning.{BoardTree, body, line, top}
use Rattle.examples_board.proofs.board.BoardBodies.body.Goals as goal

pub returns-in_ok-top-in-Card-clause-came : goal.returns-in_ok-top-in-Card-clause-came
returns-in_ok-top-in-Card-clause-came c = λ had.
    let w = world_of c.args.cx.now.world in
    let call = call_of c.args.cx.now in
    ap (λ (k : Component). came w (body k c.args.props.now) call) c.in-Card.is
    ∙ at_done w (rendered (tree_of (top c.args.props.now))) call
    ∙ ap (λ (t : BoardTree). reached (rendered (tree_of t)) call) (sym c.in_ok-top-in-Card.ensures.tree)

pub returns-in_ok-line-in-Waiting-clause-came : goal.returns-in_ok-line-in-Waiting-clause-came
returns-in_ok-line-in-Waiting-clause-came c = λ had.
    let w = world_of c.args.cx.now.world in
    let call = call_of c.args.cx.now in
    ap (λ (k : Component). came w (body k c.args.props.now) call) c.in-Waiting.is
    ∙ at_done w (rendered (tree_of (line (codes "waiting")))) call
    ∙ ap (λ (t : BoardTree). reached (rendered (tree_of t)) call) (sym c.in_ok-line-in-Waiting.ensures.tree)
