use Rattle.std.proofs.Common.{refl, sym, ap, ◌∙◌, subst}
use Rattle.std.proofs.lemmas.Result.{err_from_is_err_and}
use Rattle.std.specs.Prelude.{Some, None, Ok, Err, true}
use Rattle.run_state.specs.Mirror.{state_of}
use Rattle.run_shown.specs.Hearing.{listener_in, listeners_of}
use Rattle.run_outside.specs.Hearings.{live_listeners, listeners_in, TakesWaiting}
use Rattle.run_machine.specs.Machines.{HearsAs, machine_of, noted}
use Rattle.run_turns.proofs.Counting.{heard_first}
use Rattle.run_machine.proofs.Hearings.{first_called, first_cut}
use Rattle.run_machine.proofs.machine.Machine.hear.Goals as goal

pub returns-in_err-call-in-Some-2-clause-hears : goal.returns-in_err-call-in-Some-2-clause-hears
returns-in_err-call-in-Some-2-clause-hears g c =
    λ kept left taken.
    let app = g.A.App.meaning c.args.app.now in
    let p = err_from_is_err_and c.from_residual-in_err-call-in-Some-2.result c.from_residual-in_err-call-in-Some-2.ensures.1 in
    let same = ap (λ o. machine_of kept left taken (record c.args.self.now { hearing = o })) (sym c.take.ensures.value ∙ c.in-Some.is) in
    rw (p.1, p.2)
    (subst (λ m. HearsAs app m (noted c.args.self.now) (noted c.call.new.self) (λ h. machine_of h left taken c.call.new.self) (Err c.in_err-call-in-Some-2.field-0.0)) (sym same)
    (first_cut app (machine_of kept left taken (record c.args.self.now { hearing = Some c.in-Some.hearing })) (listener_in c.in-Some-2.listener) (listeners_of c.first_waiting.new.listeners) _ _ (λ h. machine_of h left taken c.call.new.self) c.in_err-call-in-Some-2.field-0.0
    (subst (λ o. TakesWaiting (state_of kept c.args.self.now.scopes.state) o c.in-Some.hearing.listeners c.first_waiting.new.listeners) c.in-Some-2.is (c.in_ok-listener.ensures kept))
    (c.in_err-call-in-Some-2.ensures.calls kept left taken (listeners_of c.in-Some.hearing.listeners))))

pub returns-in_ok-call-in-Some-2-clause-hears : goal.returns-in_ok-call-in-Some-2-clause-hears
returns-in_ok-call-in-Some-2-clause-hears g c =
    λ kept left taken.
    let app = g.A.App.meaning c.args.app.now in
    let same = ap (λ o. machine_of kept left taken (record c.args.self.now { hearing = o })) (sym c.take.ensures.value ∙ c.in-Some.is) in
    subst (λ m. HearsAs app m (noted c.args.self.now) (noted c.call.new.self) (λ h. machine_of h left taken c.call.new.self) (Ok true)) (sym same)
    (first_called app (machine_of kept left taken (record c.args.self.now { hearing = Some c.in-Some.hearing })) (listener_in c.in-Some-2.listener) (listeners_of c.first_waiting.new.listeners) _ _ (λ h. machine_of h left taken c.call.new.self)
    (subst (λ o. TakesWaiting (state_of kept c.args.self.now.scopes.state) o c.in-Some.hearing.listeners c.first_waiting.new.listeners) c.in-Some-2.is (c.in_ok-listener.ensures kept))
    (c.in_ok-call-in-Some-2.ensures.calls kept left taken (listeners_of c.in-Some.hearing.listeners)))

pub returns-in-None-clause-hears : goal.returns-in-None-clause-hears
returns-in-None-clause-hears g c =
    λ kept left taken.
    let t : TakesWaiting (state_of kept c.args.self.now.scopes.state) None c.in-Some.hearing.listeners c.first_waiting.new.listeners = subst (λ o. TakesWaiting (state_of kept c.args.self.now.scopes.state) o c.in-Some.hearing.listeners c.first_waiting.new.listeners) c.in-None.is (c.in_ok-listener.ensures kept) in
    let is = sym c.take.ensures.value ∙ c.in-Some.is in (
      ap (λ o. live_listeners (state_of kept c.args.self.now.scopes.state) (listeners_in o)) is ∙ t.0,
      refl,
      kept,
      ap (λ o. machine_of kept left taken (record c.args.self.now { hearing = o })) is
          ∙ ap (λ ls. machine_of kept left taken (record c.args.self.now { hearing = Some (record c.in-Some.hearing { listeners = ls }) })) (sym t.1),
    )

pub returns-in_default-clause-hears : goal.returns-in_default-clause-hears
returns-in_default-clause-hears g c =
    λ kept left taken.
    let is = sym c.take.ensures.value ∙ c.in_default.is in (
      ap (λ o. live_listeners (state_of kept c.args.self.now.scopes.state) (listeners_in o)) is,
      refl,
      kept,
      ap (λ o. machine_of kept left taken (record c.args.self.now { hearing = o })) (is ∙ sym c.take.ensures.after),
    )

pub returns-in_default-clause-silent : goal.returns-in_default-clause-silent
returns-in_default-clause-silent g c = λ none. ap (λ o. record c.args.self.now { hearing = o }) (c.take.ensures.after ∙ sym none)

pub returns-in_ok-call-in-Some-2-clause-silent : goal.returns-in_ok-call-in-Some-2-clause-silent
returns-in_ok-call-in-Some-2-clause-silent g c = λ none. absurd (cc (sym none ∙ sym c.take.ensures.value ∙ c.in-Some.is))

pub returns-in_err-call-in-Some-2-clause-silent : goal.returns-in_err-call-in-Some-2-clause-silent
returns-in_err-call-in-Some-2-clause-silent g c = λ none. absurd (cc (sym none ∙ sym c.take.ensures.value ∙ c.in-Some.is))

pub returns-in-None-clause-silent : goal.returns-in-None-clause-silent
returns-in-None-clause-silent g c = λ none. absurd (cc (sym none ∙ sym c.take.ensures.value ∙ c.in-Some.is))

pub returns-in_ok-call-in-Some-2-clause-passed : goal.returns-in_ok-call-in-Some-2-clause-passed
returns-in_ok-call-in-Some-2-clause-passed g c = λ is. absurd (cc is)

pub returns-in-None-clause-passed : goal.returns-in-None-clause-passed
returns-in-None-clause-passed g c = λ is. refl

pub returns-in_default-clause-passed : goal.returns-in_default-clause-passed
returns-in_default-clause-passed g c = λ is. refl

pub returns-in_ok-call-in-Some-2-clause-counted : goal.returns-in_ok-call-in-Some-2-clause-counted
returns-in_ok-call-in-Some-2-clause-counted g c =
    λ kept left taken first others waits.
    let app = g.A.App.meaning c.args.app.now in
    let same = ap (λ o. machine_of kept left taken (record c.args.self.now { hearing = o })) (sym c.take.ensures.value ∙ c.in-Some.is) in
    heard_first app (machine_of kept left taken c.args.self.now) (machine_of kept left taken (record c.args.self.now { hearing = Some c.in-Some.hearing }))
    first (listener_in c.in-Some-2.listener) others (listeners_of c.first_waiting.new.listeners) c.args.calls.now c.call.new.calls same waits
    (subst (λ o. TakesWaiting (state_of kept c.args.self.now.scopes.state) o c.in-Some.hearing.listeners c.first_waiting.new.listeners) c.in-Some-2.is (c.in_ok-listener.ensures kept))
    (c.in_ok-call-in-Some-2.ensures.counted kept left taken (listeners_of c.in-Some.hearing.listeners))

pub returns-in-None-clause-counted : goal.returns-in-None-clause-counted
returns-in-None-clause-counted g c = refl

pub returns-in_default-clause-counted : goal.returns-in_default-clause-counted
returns-in_default-clause-counted g c = refl
