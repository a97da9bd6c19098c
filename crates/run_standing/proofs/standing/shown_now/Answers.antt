use Rattle.std.proofs.Common.{◌∙◌, ap, sym}
use Rattle.std.specs.Prelude.{Some, None, option_map}
use Rattle.run_records.specs.Kept.{scope_of}
use Rattle.run_state.proofs.Each.{found-each}
use Rattle.run_shown.specs.Look.{sight_of}
use Rattle.run_standing.proofs.standing.shown_now.Goals as goal

pub returns-in_ok-standing-in-Some : goal.returns-in_ok-standing-in-Some
returns-in_ok-standing-in-Some g c =
    ap Some c.in_ok-standing-in-Some.ensures
    ∙ sym (ap (λ o. option_map sight_of o) (found-each scope_of (c.args.state.now.rows).table c.args.scope (Some c.in-Some.found.now) c.in-Some.ensures))

pub returns-in-None : goal.returns-in-None
returns-in-None g c = sym (ap (λ o. option_map sight_of o) (found-each scope_of (c.args.state.now.rows).table c.args.scope None c.in-None.ensures))
