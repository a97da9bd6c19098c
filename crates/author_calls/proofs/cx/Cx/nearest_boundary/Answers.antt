-- The climb goes on at the parent.
use Rattle.std.proofs.Common.{rules, true, false, None, Some, length, ◌<◌, ◌≡◌, sym, ◌∙◌}
use Rattle.rt_model.specs.Lists.{has}
use Rattle.rt_model.specs.Program.{parent_in}
use Rattle.run_records.specs.Records.{given_of}
use Rattle.author_calls.proofs.Climbs.{bound-here, bound-on, bound-ends}
use Rattle.author_calls.proofs.cx.Cx.nearest_boundary.Goals as goal

pub returns-then-is_boundary : goal.returns-then-is_boundary
returns-then-is_boundary g c =
    let here : has (given_of c.args.self.now.world).boundaries c.loop-steps.scope.0 ≡ true = search rules in
    let before : c.loop-steps._steps < length (given_of c.args.self.now.world).parents = search rules in
    sym (bound-here (given_of c.args.self.now.world) (length (given_of c.args.self.now.world).parents) c.loop-steps._steps c.loop-steps.scope.0 before here)
    ∙ c.loop-steps.invariant

pub loop-steps-preserved : goal.loop-steps-preserved
loop-steps-preserved g c =
    let no : has (given_of c.args.self.now.world).boundaries c.loop-steps.scope.0 ≡ false = search rules in
    let up : parent_in (given_of c.args.self.now.world).parents c.loop-steps.scope.0 ≡ Some c.in-Some.parent.0 = search rules in
    let before : c.loop-steps._steps < length (given_of c.args.self.now.world).parents = search rules in
    sym (bound-on (given_of c.args.self.now.world) (length (given_of c.args.self.now.world).parents) c.loop-steps._steps c.loop-steps.scope.0 before c.in-Some.parent.0 no up)
    ∙ c.loop-steps.invariant

pub returns-in-None : goal.returns-in-None
returns-in-None g c =
    let no : has (given_of c.args.self.now.world).boundaries c.loop-steps.scope.0 ≡ false = search rules in
    let up : parent_in (given_of c.args.self.now.world).parents c.loop-steps.scope.0 ≡ None = search rules in
    let before : c.loop-steps._steps < length (given_of c.args.self.now.world).parents = search rules in
    sym (bound-ends (given_of c.args.self.now.world) (length (given_of c.args.self.now.world).parents) c.loop-steps._steps c.loop-steps.scope.0 before no up)
    ∙ c.loop-steps.invariant
