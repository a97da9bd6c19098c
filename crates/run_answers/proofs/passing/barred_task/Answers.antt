use Rattle.std.proofs.Common.{sym, ◌∙◌}
use Rattle.std.specs.Prelude.{option_map}
use Rattle.run_state.specs.Mirror.{state_of}
use Rattle.run_state.specs.Names.{work_of}
use Rattle.run_answers.proofs.Passes.{none_is, seen_bars, some_is, unseen_bars}
use Rattle.run_answers.proofs.passing.barred_task.Goals as goal

pub returns-then-is_some : goal.returns-then-is_some
returns-then-is_some g c =
    λ kept.
    let seen = some_is c.first_seen.result (sym c.is_some.ensures ∙ c.if-is_some.true) in
    seen_bars (state_of kept c.args.state.now) seen.0 (sym seen.1 ∙ c.first_seen.ensures kept)

pub returns : goal.returns
returns g c =
    λ kept.
    let none = none_is c.first_seen.result (sym c.is_some.ensures ∙ c.if-is_some.false) in
    unseen_bars (state_of kept c.args.state.now) (option_map work_of c.barred.result) (sym none ∙ c.first_seen.ensures kept) (c.barred.ensures kept)
