use Rattle.std.proofs.Common.{◌∙◌, ap}
use Rattle.std.specs.Prelude.{Some, None}
use Rattle.run_records.specs.Kept.{scope_of}
use Rattle.run_state.specs.Provided.{is_provided}
use Rattle.run_state.specs.Mirror.{state_of}
use Rattle.run_state.proofs.Each.{found-each}
use Rattle.run_state.proofs.Provides.{tested, provided_none, provided_some}
use Rattle.run_state.proofs.state.State.provides.Goals as goal

pub returns-in_default : goal.returns-in_default
returns-in_default g c = λ app decides kept. provided_none app (state_of kept c.args.self.now) c.args.scope c.args.kind c.args.value.now (found-each scope_of (c.args.self.now.rows).table c.args.scope None c.in_default.ensures)

pub returns-in-Some-provided_in : goal.returns-in-Some-provided_in
returns-in-Some-provided_in g c =
    λ app decides kept.
    provided_some app (state_of kept c.args.self.now) c.args.scope c.args.kind c.args.value.now (scope_of c.in-Some.found.now) c.same.result
    (found-each scope_of (c.args.self.now.rows).table c.args.scope (Some c.in-Some.found.now) c.in-Some.ensures)
    (tested app decides c.same.result c.in-Some-provided_in.old.now c.args.value.now c.same.ensures.same ∙ ap (is_provided app c.args.value.now) c.in-Some-provided_in.ensures)

pub returns-in-None : goal.returns-in-None
returns-in-None g c =
    λ app decides kept.
    provided_some app (state_of kept c.args.self.now) c.args.scope c.args.kind c.args.value.now (scope_of c.in-Some.found.now) _
    (found-each scope_of (c.args.self.now.rows).table c.args.scope (Some c.in-Some.found.now) c.in-Some.ensures)
    (ap (is_provided app c.args.value.now) c.in-None.ensures)
