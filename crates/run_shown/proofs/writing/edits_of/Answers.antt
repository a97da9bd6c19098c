-- What the looks see is what the states write.
use Rattle.run_shown.proofs.Claimed.{on_way}
use Rattle.run_shown.proofs.writing.edits_of.Goals as goal

pub returns : goal.returns
returns g c = on_way _ _ c.scopes.result c.args.scope c.scopes.ensures c.in_ok-edits.ensures
