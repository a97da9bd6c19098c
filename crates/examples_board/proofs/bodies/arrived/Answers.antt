-- The effect is queued, and the news show.
use Rattle.std.proofs.Common.{rules, ◌≡◌, ◌∙◌, ap, sym}
use Rattle.std.specs.Prelude.{codes}
use Rattle.rt_author.proofs.Rules.{at_done, at_queue_effect}
use Rattle.rt_author.specs.Program.{Call, says}
use Rattle.rt_author.specs.Words.{call_of, came, reached, rendered, tree_of, world_of}
use Rattle.rt_author.specs.World.{QueueEffect}
use Rattle.examples_board.specs.Meaning.{BoardTree, BoardTypes, line, tree}
use Rattle.examples_board.proofs.bodies.arrived.Goals as goal

pub returns-clause-came : goal.returns-clause-came
returns-clause-came c = λ had.
    let end = c.queue_effect.new.self in
    let w = world_of c.args.cx.now.world in
    let call = call_of c.args.cx.now in
    let log = c.args.log in
    let queued : says call (QueueEffect log) ≡ call_of end = search rules in
    at_queue_effect w log (tree (line (codes "news"))) call
    ∙ ap (λ (d : Call BoardTypes). came w (tree (line (codes "news"))) d) queued
    ∙ at_done w (rendered (tree_of (line (codes "news")))) (call_of end)
    ∙ ap (λ (t : BoardTree). reached (rendered (tree_of t)) (call_of end)) (sym c.in_ok-line.ensures.tree)
