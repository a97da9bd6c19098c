-- A context is had, and the signal is read in it.
use Rattle.std.proofs.Common.{rules}
use Rattle.std.specs.Prelude.{Some, None}
use Rattle.rt_model.specs.Program.{done}
use Rattle.author_programs.proofs.Steps.{at_done}
use Rattle.run_records.specs.Records.{world_of}
use Rattle.author_calls.specs.Calls.{call_of}
use Rattle.author_bodies.specs.Comes.{Comes}
use Rattle.author_bodies.proofs.Following.{one_after}
use Rattle.author_signals.specs.Signals.{follow_in, get_in, read_in, still_waking}
use Rattle.author_signals.proofs.signal.Signal.follow.Goals as goal

-- the cell has a value
pub returns-in-Some-2-clause-came : goal.returns-in-Some-2-clause-came
returns-in-Some-2-clause-came g c =
    let cx = c.args.cx.now in
    let one = c.still_waking.new.cx in
    let two = c.get_in.new.cx in
    let n = c.args.self.now.0 in
    let context = c.in-Some.context.0 in
    let value = c.in-Some-2.value in
    let had : Comes cx one (still_waking c.args.had) (Some context) = search rules in
    let got : Comes one two (get_in context n) (Some value) = search rules in
    one_after cx one two (still_waking c.args.had) (λ o. follow_in n o) (Some context) (Some (context, value)) (search rules) had
    (one_after one two two (get_in context n) (λ v. done (read_in context v)) (Some value) (Some (context, value)) (search rules) got
    (at_done (world_of two.world) (Some (context, value)) (call_of two)))

-- the cell is gone
pub returns-in-None-clause-came : goal.returns-in-None-clause-came
returns-in-None-clause-came g c = λ wanted.
    let cx = c.args.cx.now in
    let one = c.still_waking.new.cx in
    let two = c.get_in.new.cx in
    let n = c.args.self.now.0 in
    let context = c.in-Some.context.0 in
    let had : Comes cx one (still_waking c.args.had) (Some context) = search rules in
    let got : Comes one two (get_in context n) None = search rules in
    one_after cx one two (still_waking c.args.had) (λ o. follow_in n o) (Some context) None (search rules) had
    (one_after one two two (get_in context n) (λ v. done (read_in context v)) None None (search rules) got
    (at_done (world_of two.world) None (call_of two)))
