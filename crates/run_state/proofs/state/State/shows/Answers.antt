use Rattle.std.proofs.Common.{◌∙◌, refl}
use Rattle.std.specs.Prelude.{Some, None}
use Rattle.run_records.specs.Kept.{scope_of}
use Rattle.run_state.specs.Mirror.{scopes_of}
use Rattle.run_state.proofs.Each.{found-each}
use Rattle.run_state.proofs.Climbed.{is_zero, not_zero, live_shows, gone_shows, shown_end, shown_up}
use Rattle.run_state.proofs.state.State.shows.Goals as goal

pub returns-in_default : goal.returns-in_default
returns-in_default g c = gone_shows (scopes_of (c.args.self.now.rows).table) c.args.scope (found-each scope_of (c.args.self.now.rows).table c.args.scope None c.in_default.ensures)

pub returns-then-found-eq0 : goal.returns-then-found-eq0
returns-then-found-eq0 g c =
    let scopes = scopes_of (c.args.self.now.rows).table in
    let found = scope_of c.in-Some.found.now in
    live_shows scopes c.args.scope found _
    (found-each scope_of (c.args.self.now.rows).table c.args.scope (Some c.in-Some.found.now) c.in-Some.ensures)
    (shown_end scopes found.height c.args.scope (is_zero found.height c.if-found-eq0.true))

pub returns : goal.returns
returns g c =
    let scopes = scopes_of (c.args.self.now.rows).table in
    let found = scope_of c.in-Some.found.now in
    let stood = found-each scope_of (c.args.self.now.rows).table c.args.scope (Some c.in-Some.found.now) c.in-Some.ensures in
    live_shows scopes c.args.scope found c.shown_above.result stood
    (c.shown_above.ensures ∙ shown_up scopes found.height c.args.scope (not_zero found.height c.if-found-eq0.false) found found.parent stood refl)
