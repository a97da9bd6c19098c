use Rattle.std.proofs.Common.{◌≡◌, ◌∙◌, sym, ap, rules}
use Rattle.std.specs.Prelude.{Some, option_map}
use Rattle.rt_model.specs.Next.{paused}
use Rattle.run_state.specs.Names.{work_of}
use Rattle.run_state.specs.Mirror.{state_of}
use Rattle.run_state.specs.declared.names.Work.TheVariants as work
use Rattle.run_state.proofs.Leasts.{kept-or}
use Rattle.run_state.proofs.state.State.paused.Goals as goal

pub returns-then-is_active : goal.returns-then-is_active
returns-then-is_active g c = λ kept.
    let is : c.args.up ≡ Some (work.PollTask c.in-Some-PollTask.task) = search rules in
    kept-or c.in-Some-PollTask.task (sym c.if-is_active.true ∙ c.is_active.ensures kept) ∙ ap (λ o. paused (state_of kept c.args.self.now) (option_map work_of o)) (sym is)

pub returns-else-is_active : goal.returns-else-is_active
returns-else-is_active g c = λ kept.
    let is : c.args.up ≡ Some (work.PollTask c.in-Some-PollTask.task) = search rules in
    kept-or c.in-Some-PollTask.task (sym c.if-is_active.false ∙ c.is_active.ensures kept) ∙ ap (λ o. paused (state_of kept c.args.self.now) (option_map work_of o)) (sym is)

pub returns-in-Some-RerunScope : goal.returns-in-Some-RerunScope
returns-in-Some-RerunScope g c = λ kept.
    let is : c.args.up ≡ Some (work.RerunScope c.in-Some-RerunScope.field-0-0) = search rules in
    ap (λ o. paused (state_of kept c.args.self.now) (option_map work_of o)) (sym is)

pub returns-in-Some-RunEffects : goal.returns-in-Some-RunEffects
returns-in-Some-RunEffects g c = λ kept.
    let is : c.args.up ≡ Some (work.RunEffects c.in-Some-RunEffects.field-0-0) = search rules in
    ap (λ o. paused (state_of kept c.args.self.now) (option_map work_of o)) (sym is)

pub returns-in-None : goal.returns-in-None
returns-in-None g c = λ kept. ap (λ o. paused (state_of kept c.args.self.now) (option_map work_of o)) (sym c.in-None.is)
