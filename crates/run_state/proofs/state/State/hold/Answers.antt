use Rattle.std.proofs.Common.{◌≡◌, ◌∙◌, sym}
use Rattle.std.specs.Prelude.{Some, None}
use Rattle.run_records.specs.Kept.{scope_of}
use Rattle.run_state.specs.Mirror.{state_of}
use Rattle.run_state.proofs.Each.{found-each}
use Rattle.run_state.proofs.Changed.{on_ok}
use Rattle.run_state.proofs.Spawned.{joins_gone, joins_held, joins_new}
use Rattle.run_state.proofs.state.State.hold.Goals as goal

pub returns-in_default : goal.returns-in_default
returns-in_default g c = λ kept. joins_gone (state_of kept c.args.self.now) c.args.origin c.args.task c.args.boundary (found-each scope_of (c.args.self.now.rows).table c.args.boundary None c.in_default.ensures)

pub returns-then-holds : goal.returns-then-holds
returns-then-holds g c = λ kept.
    joins_held (state_of kept c.args.self.now) c.args.origin c.args.task c.args.boundary (scope_of c.in-Some.found.now) (found-each scope_of (c.args.self.now.rows).table c.args.boundary (Some c.in-Some.found.now) c.in-Some.ensures)
    (sym c.holds.ensures ∙ c.if-holds.true)

pub returns : goal.returns
returns g c =
    on_ok c.post.result c.post.ensures.posted (λ posted kept. posted kept
    ∙ joins_new (state_of kept c.args.self.now) (state_of kept c.add_holder.new.self) c.args.origin c.args.task c.args.boundary (scope_of c.in-Some.found.now) (found-each scope_of (c.args.self.now.rows).table c.args.boundary (Some c.in-Some.found.now) c.in-Some.ensures)
    (sym c.holds.ensures ∙ c.if-holds.false) (c.in_ok-add_holder.ensures kept))
