-- One more, as its pair.
use Rattle.std.proofs.Common.{◌∷◌, [], map, ap, ◌∙◌}
use Rattle.std.proofs.lemmas.List.{map-append}
use Rattle.rt_cells.proofs.LinkSteps.{on_err}
use Rattle.run_records.specs.Futures.{holder_of}
use Rattle.run_records.proofs.holders.Holders.push.Goals as goal

pub returns-in_err-push-clause-err : goal.returns-in_err-push-clause-err
returns-in_err-push-clause-err c = on_err c.from_residual.result (ap (map holder_of) c.in_err-push.ensures.err ∙ c.self.view_is)

pub returns-clause-ok : goal.returns-clause-ok
returns-clause-ok c = rw (← c.self.view_is) (ap (map holder_of) c.in_ok-push.ensures.ok
    ∙ map-append holder_of c.self.inside.futures (record { origin = record { 0 = c.args.origin }; task = record { 0 = c.args.task } } ∷ []))
