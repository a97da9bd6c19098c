-- The fallback's children, then those of the other sides.
use Rattle.std.specs.Prelude.{Some, None}
use Rattle.run_records.specs.Kept.{scope_of}
use Rattle.run_state.specs.Mirror.{state_of}
use Rattle.run_state.proofs.Each.{found-each}
use Rattle.rt_scopes.proofs.Spots.{none_below, all_below}
use Rattle.rt_scopes.proofs.children.children_below.Goals as goal

pub returns-in_default : goal.returns-in_default
returns-in_default g c = λ kept.
    none_below (state_of kept c.args.state.now) c.args.scope c.new.result (found-each scope_of (c.args.state.now.rows).table c.args.scope None c.in_default.ensures) c.new.ensures.empty

pub returns : goal.returns
returns g c = λ kept.
    all_below (state_of kept c.args.state.now) c.args.scope (scope_of c.in-Some.found.now) c.in_ok-scopes.scopes c.in_ok-children.children c.in_ok-main.main c.append.new.self c.append-2.new.self
    (found-each scope_of (c.args.state.now.rows).table c.args.scope (Some c.in-Some.found.now) c.in-Some.ensures)
    (c.in_ok-scopes.ensures kept) (c.in_ok-children.ensures kept) (c.in_ok-main.ensures kept) c.in_ok-append.ensures.ok c.in_ok-append-2.ensures.ok
