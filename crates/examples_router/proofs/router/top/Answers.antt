-- The cell is had and provided, and all is shown.
use Rattle.std.proofs.Common.{rules, false, ◌≡◌, ◌∙◌, ap, sym}
use Rattle.std.specs.Prelude.{Some}
use Rattle.rt_author.proofs.Rules.{at_done, at_provide, one_after}
use Rattle.rt_author.specs.Program.{Call, provides}
use Rattle.rt_author.specs.Words.{Comes, call_of, came, own_cell, reached, rendered, tree_of, world_of}
use Rattle.examples_router.specs.Meaning.{RouterTypes, RouterTree, keeping, tree, with_cell, all}
use Rattle.examples_router.proofs.router.top.Goals as goal

pub returns-clause-came : goal.returns-clause-came
returns-clause-came c = λ had.
    let cx = c.args.cx.now in
    let one = c.own_cell.new.cx in
    let two = c.provide_context.new.self in
    let cell = c.in-Some.cell in
    let w = world_of one.world in
    let own : Comes cx one (own_cell keeping 0) (Some cell) = search rules in
    let provided : provides w (call_of one) false 0 cell ≡ call_of two = search rules in
    one_after cx one two (own_cell keeping 0) (λ o. with_cell o) (Some cell) (rendered (tree_of c.in_ok-all.field-0)) (search rules) own
    (at_provide w false 0 cell (tree all) (call_of one)
    ∙ ap (λ (d : Call RouterTypes). came w (tree all) d) provided
    ∙ at_done w (rendered (tree_of all)) (call_of two)
    ∙ ap (λ (t : RouterTree). reached (rendered (tree_of t)) (call_of two)) (sym c.in_ok-all.ensures.tree))
