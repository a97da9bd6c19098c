-- What was read is shown.
use Rattle.std.proofs.Common.{rules, ap}
use Rattle.rt_author.specs.Words.{Comes}
use Rattle.rt_author.specs.Carrying.{read_held}
use Rattle.examples_library.proofs.Faced.{faced_comes}
use Rattle.examples_library.proofs.bodies.field.Goals as goal

pub returns-clause-came : goal.returns-clause-came
returns-clause-came g c =
    let cx = c.args.cx.now in
    let after = c.read_held.new.cx in
    let props = c.args.props.now in
    let held = c.in_ok-held.held in
    let got : Comes cx after (read_held g.P.Carries.carrying props.cell) held = search rules in
    faced_comes g.P.Carries.carrying props cx after held c.current_scope_id-scope.result.0 c.in_ok-present.field-0 (search rules) got
    (ap (λ s. s.0) c.current_scope_id-scope.ensures) c.in_ok-present.ensures.tree
