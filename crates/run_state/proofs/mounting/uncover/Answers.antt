-- One after another is fresh, and at the end none is left that the scope hides.
use Rattle.run_state.proofs.Covers.{none_hidden}
use Rattle.run_state.proofs.mounting.uncover.Goals as goal

pub loop-scope-init : goal.loop-scope-init
loop-scope-init c = λ ways height s q. q

pub uncover_one-requires : goal.uncover_one-requires
uncover_one-requires c = record { paired = c.in-Some.ensures.first }

pub loop-scope-smaller : goal.loop-scope-smaller
loop-scope-smaller c = c.in_ok-uncover_one.ensures.fewer

pub loop-scope-preserved : goal.loop-scope-preserved
loop-scope-preserved c = λ ways height s q. c.in_ok-uncover_one.ensures.covered ways height s (c.loop-scope.invariant ways height s q)

pub returns-in_err-uncover_one-clause-covered : goal.returns-in_err-uncover_one-clause-covered
returns-in_err-uncover_one-clause-covered c = λ ways height s q. c.in_err-uncover_one.ensures.covered ways height s (c.loop-scope.invariant ways height s q)

pub returns-clause-covered : goal.returns-clause-covered
returns-clause-covered c = c.loop-scope.invariant

pub returns-clause-none : goal.returns-clause-none
returns-clause-none c = none_hidden c.loop-scope.hidden c.args.above c.in_default.ensures.none
