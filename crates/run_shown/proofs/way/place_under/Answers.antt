-- The scope stands where its index says, another one nowhere.
use Rattle.run_shown.proofs.Children.{under_other, under_own}
use Rattle.run_shown.proofs.way.place_under.Goals as goal

pub returns-then-child-scope : goal.returns-then-child-scope
returns-then-child-scope g c = under_own c.args.side.now.seats c.args.index c.args.child c.args.scope c.place_of.result c.if-child-scope.true c.place_of.ensures

pub returns-else-child-scope : goal.returns-else-child-scope
returns-else-child-scope g c = under_other c.args.side.now.seats c.args.index c.args.child c.args.scope c.if-child-scope.false
