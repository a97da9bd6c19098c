-- A scope that is gone, one at the top, and one below others.
use Rattle.std.proofs.Common.{◌≡◌, ◌∙◌, refl, sym, ap}
use Rattle.std.specs.Prelude.{Some, None}
use Rattle.run_records.specs.Kept.{scope_of}
use Rattle.run_state.specs.Mirror.{scopes_of}
use Rattle.run_state.proofs.Each.{found-each}
use Rattle.run_state.proofs.Climbed.{is_zero, not_zero, live_shows, gone_shows, shown_end, shown_up}
use Rattle.run_state.proofs.Ways.{gone_way, hidden_from, hidden_way, none_through, some_through}
use Rattle.run_state.proofs.state.State.hider.Goals as goal

pub returns-in_default-clause-hidden : goal.returns-in_default-clause-hidden
returns-in_default-clause-hidden g c =
    λ w is. gone_way (scopes_of (c.args.self.now.rows).table) c.args.scope w (found-each scope_of (c.args.self.now.rows).table c.args.scope None c.in_default.ensures) is

pub returns-in_default-clause-unshown : goal.returns-in_default-clause-unshown
returns-in_default-clause-unshown g c =
    sym (gone_shows (scopes_of (c.args.self.now.rows).table) c.args.scope (found-each scope_of (c.args.self.now.rows).table c.args.scope None c.in_default.ensures))

pub returns-then-found-eq0-clause-shown : goal.returns-then-found-eq0-clause-shown
returns-then-found-eq0-clause-shown g c =
    let scopes = scopes_of (c.args.self.now.rows).table in
    let found = scope_of c.in-Some.found.now in
    sym
    (
    live_shows scopes c.args.scope found _
    (found-each scope_of (c.args.self.now.rows).table c.args.scope (Some c.in-Some.found.now) c.in-Some.ensures)
    (shown_end scopes found.height c.args.scope (is_zero found.height c.if-found-eq0.true))
    )

pub returns-clause-hidden : goal.returns-clause-hidden
returns-clause-hidden g c =
    let scopes = scopes_of (c.args.self.now.rows).table in
    let found = scope_of c.in-Some.found.now in
    let stood = found-each scope_of (c.args.self.now.rows).table c.args.scope (Some c.in-Some.found.now) c.in-Some.ensures in
    some_through c.hider_above.result c.hider_above.ensures.hidden (λ b h. hidden_way scopes b c.args.scope found stood (not_zero found.height c.if-found-eq0.false) h)

pub returns-clause-unshown : goal.returns-clause-unshown
returns-clause-unshown g c =
    let scopes = scopes_of (c.args.self.now.rows).table in
    let found = scope_of c.in-Some.found.now in
    let stood = found-each scope_of (c.args.self.now.rows).table c.args.scope (Some c.in-Some.found.now) c.in-Some.ensures in
    some_through c.hider_above.result c.hider_above.ensures.hidden
    (λ b h. sym (live_shows scopes c.args.scope found _ stood (sym (hidden_from scopes b c.args.scope found stood (not_zero found.height c.if-found-eq0.false) h))))

pub returns-clause-shown : goal.returns-clause-shown
returns-clause-shown g c =
    let scopes = scopes_of (c.args.self.now.rows).table in
    let found = scope_of c.in-Some.found.now in
    let stood = found-each scope_of (c.args.self.now.rows).table c.args.scope (Some c.in-Some.found.now) c.in-Some.ensures in
    none_through c.hider_above.result c.hider_above.ensures.shown
    (λ h. sym (live_shows scopes c.args.scope found _ stood (h ∙ shown_up scopes found.height c.args.scope (not_zero found.height c.if-found-eq0.false) found found.parent stood refl)))
