-- A scope's parent shows with it, where it stands one lower.
use Rattle.std.proofs.Common.{ap}
use Rattle.std.specs.Prelude.{Some}
use Rattle.run_records.specs.Records.{number_of}
use Rattle.run_records.specs.Kept.{scope_of}
use Rattle.run_state.specs.Mirror.{scopes_of}
use Rattle.run_state.proofs.Each.{found-each}
use Rattle.run_state.proofs.Climbed.{not_zero, parent_shows}
use Rattle.run_state.proofs.state.State.shown_parent.Goals as goal

pub returns : goal.returns
returns g c =
    let rows = (c.args.self.now.rows).table in
    let found = scope_of c.in-Some.found.now in
    parent_shows (scopes_of rows) c.args.scope c.in-Some-parent.parent.0 found (scope_of c.in-Some-scope.above.now)
    (found-each scope_of rows c.args.scope (Some c.in-Some.found.now) c.in-Some.ensures)
    (found-each scope_of rows c.in-Some-parent.parent.0 (Some c.in-Some-scope.above.now) c.in-Some-scope.ensures)
    (ap number_of c.in-Some-parent.is) (not_zero found.height c.if-found-eq0.false) c.if-above-found.false c.requires.shown
