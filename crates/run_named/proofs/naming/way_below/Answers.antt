-- The last step tells the path, where it is a template's, and one step more, where it is an item's.
use Rattle.std.proofs.Common.{◌∙◌, [], ◌∷◌, ◌++◌, ap}
use Rattle.run_named.proofs.Ways.{way_inside, way_item}
use Rattle.run_named.proofs.naming.way_below.Goals as goal

pub returns-in_ok-path-in-Inside-clause-steps : goal.returns-in_ok-path-in-Inside-clause-steps
returns-in_ok-path-in-Inside-clause-steps c =
    c.in_ok-steps-in-Inside.ensures
    ∙ (way_inside c.args.above.now (c.args.above.now ++ c.args.last.now ∷ []) c.in-Inside.template c.in-Inside.path (ap (λ s. c.args.above.now ++ s ∷ []) c.in-Inside.is)).0

pub returns-in_ok-path-in-Inside-clause-path : goal.returns-in_ok-path-in-Inside-clause-path
returns-in_ok-path-in-Inside-clause-path c =
    c.in_ok-path-in-Inside.ensures.items
    ∙ (way_inside c.args.above.now (c.args.above.now ++ c.args.last.now ∷ []) c.in-Inside.template c.in-Inside.path (ap (λ s. c.args.above.now ++ s ∷ []) c.in-Inside.is)).1

pub returns-in_ok-path-in-Item-clause-path : goal.returns-in_ok-path-in-Item-clause-path
returns-in_ok-path-in-Item-clause-path c =
    c.in_ok-path-in-Item.ensures
    ∙ way_item c.args.above.now (c.args.above.now ++ c.args.last.now ∷ []) c.in-Item.position (ap (λ s. c.args.above.now ++ s ∷ []) c.in-Item.is)
