-- The page of the route that was read is shown.
use Rattle.std.proofs.Common.{rules, ◌∙◌, ap, sym}
use Rattle.std.specs.Prelude.{None}
use Rattle.rt_author.proofs.Rules.{hooking, looking}
use Rattle.rt_author.specs.Words.{Comes, call_of, consume_context, reached, rendered, tree_of}
use Rattle.examples_router.specs.Meaning.{RouterTree, heading, of_cell}
use Rattle.examples_router.proofs.router.page.Goals as goal

pub returns-in_ok-heading-in-Some-2-clause-came : goal.returns-in_ok-heading-in-Some-2-clause-came
returns-in_ok-heading-in-Some-2-clause-came c = λ had.
    let cx = c.args.cx.now in
    let after = c.read.new.self in
    let shown : Comes cx after (consume_context None 0 (λ cell. of_cell cell)) (rendered (tree_of (heading c.in-Some-2.route))) = search (rules, hooking, looking, had) in
    shown ∙ ap (λ (t : RouterTree). reached (rendered (tree_of t)) (call_of after)) (sym c.in_ok-heading-in-Some-2.ensures.tree)
