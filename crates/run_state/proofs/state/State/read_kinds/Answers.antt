use Rattle.std.proofs.Common.{rules, ◌≡◌, []}
use Rattle.run_state.proofs.state.State.read_kinds.Goals as goal

pub returns : goal.returns
returns g c = λ kept.
    let none : c.new-kinds.result.items ≡ [] = search rules in
    c.in_ok-add_listed.ensures.rising kept (c.rises.ensures.rises c.if-not-rises.false) none
