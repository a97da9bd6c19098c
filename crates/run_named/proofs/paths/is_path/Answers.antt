use Rattle.run_named.proofs.Ways.{unlike}
use Rattle.run_named.proofs.paths.is_path.Goals as goal

pub returns-then-left-right : goal.returns-then-left-right
returns-then-left-right c = unlike c.args.left.now c.args.right.now c.if-left-right.true
