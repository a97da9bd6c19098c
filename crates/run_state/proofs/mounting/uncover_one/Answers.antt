-- The one that is fresh now is covered, and the others as they were.
use Rattle.std.proofs.Common.{◌∙◌, ap}
use Rattle.run_state.specs.Mounts.{covers}
use Rattle.run_state.proofs.Covers.{uncovered_one}
use Rattle.run_state.proofs.mounting.uncover_one.Goals as goal

pub returns-in_err-push-clause-covered : goal.returns-in_err-push-clause-covered
returns-in_err-push-clause-covered c = λ ways height s q. ap (λ ks. covers ways ks c.args.hidden.now height s) c.in_err-push.ensures.err ∙ q

pub returns-clause-covered : goal.returns-clause-covered
returns-clause-covered c =
    uncovered_one c.args.fresh.now c.push.new.self c.args.hidden.now c.remove.new.self c.args.above c.args.scope c.in_ok-push.ensures.ok c.remove.ensures.left

pub returns-clause-fewer : goal.returns-clause-fewer
returns-clause-fewer c = c.remove.ensures.fewer c.requires.paired
