-- A listener comes to what its page's reply says.
use Rattle.std.proofs.Common.{rules, ◌≡◌}
use Rattle.author_calls.specs.Answers.{event_of}
use Rattle.run_records.specs.Records.{world_of}
use Rattle.author_calls.specs.Calls.{call_of}
use Rattle.rt_model.specs.World.{nothing}
use Rattle.author_programs.specs.Came.{came, reached}
use Rattle.author_programs.specs.Cells.{all_read, all_written}
use Rattle.author_bodies.proofs.Lists.{replied}
use Rattle.author_derived.proofs.paged.DerivedPagedBodies.hear.Goals as goal

pub returns-clause-came : goal.returns-clause-came
returns-clause-came g c = λ had.
    let w = world_of c.args.cx.now.world in
    let a = g.S.DerivedPages.answers c.args.self.now.pages in
    let reply = (a.pages).reply c.args.handler.now (event_of c.args.event.now) in
    let before = call_of c.args.cx.now in
    let middle = call_of c.read_all.new.cx in
    let after = call_of c.write_all.new.cx in
    let read : came w (all_read c.in_ok-reads.reads) before ≡ reached c.in_ok-values.values middle = search rules in
    let meant : c.in_ok-writes.writes ≡ reply.writes c.in_ok-values.values = search rules in
    let wrote : came w (all_written c.in_ok-writes.writes) middle ≡ reached nothing after = search rules in
    replied reply w before middle after c.in_ok-reads.reads c.in_ok-values.values c.in_ok-writes.writes (event_of c.writes.new.event)
    c.in_ok-reads.ensures.hears read meant wrote c.in_ok-writes.ensures.leaves
