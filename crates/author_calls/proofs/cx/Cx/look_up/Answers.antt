-- One scope on the way.
use Rattle.std.proofs.Common.{rules, None, Some, length, ◌+◌, ◌<◌, ◌≡◌, ap, ◌∙◌}
use Rattle.rt_model.specs.Program.{parent_in}
use Rattle.run_records.specs.Records.{given_of, world_of}
use Rattle.author_calls.specs.Calls.{call_of}
use Rattle.author_calls.proofs.Lookups.{look-value, look-call, look-goes}
use Rattle.author_calls.proofs.cx.Cx.look_up.Goals as goal

pub returns-in-Some-clause-value : goal.returns-in-Some-clause-value
returns-in-Some-clause-value g c =
    let before : c.loop-steps._steps < length (given_of c.args.self.now.world).parents + 1 = search rules in
    look-value (world_of c.loop-steps.self.world) (world_of c.args.self.now.world) c.args.kind (length (given_of c.args.self.now.world).parents + 1) c.loop-steps._steps c.loop-steps.scope.0 c.args.from.0
    (call_of c.loop-steps.self) (call_of c.args.self.now) (call_of c.look_at.new.self) before (ap world_of c.loop-steps.invariant.world) c.loop-steps.invariant.rest
    c.in_ok-value.field-0 c.in_ok-value.ensures.value c.in_ok-value.ensures.call c.in-Some.value c.in-Some.is

pub returns-in-Some-clause-call : goal.returns-in-Some-clause-call
returns-in-Some-clause-call g c =
    let before : c.loop-steps._steps < length (given_of c.args.self.now.world).parents + 1 = search rules in
    look-call (world_of c.loop-steps.self.world) (world_of c.args.self.now.world) c.args.kind (length (given_of c.args.self.now.world).parents + 1) c.loop-steps._steps c.loop-steps.scope.0 c.args.from.0
    (call_of c.loop-steps.self) (call_of c.args.self.now) (call_of c.look_at.new.self) before (ap world_of c.loop-steps.invariant.world) c.loop-steps.invariant.rest
    c.in_ok-value.field-0 c.in_ok-value.ensures.value c.in_ok-value.ensures.call c.in-Some.value c.in-Some.is

pub loop-steps-preserved : goal.loop-steps-preserved
loop-steps-preserved g c =
    let before : c.loop-steps._steps < length (given_of c.args.self.now.world).parents + 1 = search rules in
    let none : c.in_ok-value.field-0 ≡ None = search rules in
    let up : parent_in (world_of c.args.self.now.world).given.parents c.loop-steps.scope.0 ≡ Some c.in-Some-parent.parent.0 = search rules in
    record {
      rest =
          look-goes (world_of c.loop-steps.self.world) (world_of c.args.self.now.world) c.args.kind (length (given_of c.args.self.now.world).parents + 1) c.loop-steps._steps c.loop-steps.scope.0 c.args.from.0
          (call_of c.loop-steps.self) (call_of c.args.self.now) (call_of c.look_at.new.self) before (ap world_of c.loop-steps.invariant.world) c.loop-steps.invariant.rest
          c.in_ok-value.field-0 c.in_ok-value.ensures.value c.in_ok-value.ensures.call c.in-Some-parent.parent.0 none up;
      fault = c.in_ok-value.ensures.fault ∙ c.loop-steps.invariant.fault;
      world = c.in_ok-value.ensures.world ∙ c.loop-steps.invariant.world;
    }
