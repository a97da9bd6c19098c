use Rattle.std.proofs.Common.{◌∙◌, refl, sym}
use Rattle.run_state.proofs.Polls.{if_none, if_some, none_held, taken_out, taken_own}
use Rattle.run_state.specs.Heights.{task_scope}
use Rattle.run_state.proofs.Unchanged.{values_replaced}
use Rattle.run_state.proofs.state.State.take_state.Goals as goal

pub returns-in-Some-replace-clause-left : goal.returns-in-Some-replace-clause-left
returns-in-Some-replace-clause-left g c = λ kept.
    taken_out kept c.args.self.now c.args.task c.in-Some.row.now c.in-Some-state.state c.of.result c.replace.new.self c.in-Some.ensures.value c.in-Some-state.is c.of.ensures c.in-Some-replace.ensures.put

pub returns-in-Some-replace-clause-own : goal.returns-in-Some-replace-clause-own
returns-in-Some-replace-clause-own g c =
    if_some c.in-Some-replace.former.state (λ taken is kept. taken_own kept c.args.self.now c.args.task c.in-Some-replace.former taken c.in-Some-replace.ensures.former is)

pub returns-in-Some-replace-clause-none : goal.returns-in-Some-replace-clause-none
returns-in-Some-replace-clause-none g c =
    if_none c.in-Some-replace.former.state (λ is. none_held c.args.self.now c.args.task c.in-Some-replace.former c.in-Some-replace.ensures.former is)

pub returns-in-None-clause-none : goal.returns-in-None-clause-none
returns-in-None-clause-none g c = absurd (cc (c.in-Some.ensures.value ∙ sym c.in-None.ensures.former))

pub returns-in-None-clause-left : goal.returns-in-None-clause-left
returns-in-None-clause-left g c = absurd (cc (c.in-Some.ensures.value ∙ sym c.in-None.ensures.former))

pub invariant_of-self-clause-known : goal.invariant_of-self-clause-known
invariant_of-self-clause-known g c =
    values_replaced task_scope c.replace.result c.args.self.now.tasks c.replace.new.self c.args.task _ c.in-Some.row.now (sym c.in-Some.ensures.value) refl c.replace.ensures.former c.replace.ensures.put c.replace.ensures.absent
    ∙ c.args.self.now.known
