use Rattle.std.proofs.Common.{◌≡◌, ◌+◌, ◌∙◌, ap, sym, rules, refl}
use Rattle.rt_model.specs.World.{at_end}
use Rattle.run_records.specs.declared.faults.Counter.TheVariants.{Renders}
use Rattle.run_state.specs.Mirror.{state_of}
use Rattle.run_state.specs.declared.names.Cause.TheVariants.{IdsExhausted}
use Rattle.run_state.proofs.Raises.{raised_cut, raised_done}
use Rattle.run_state.proofs.state.State.raised.Goals as goal

pub returns-in_default-clause-cut : goal.returns-in_default-clause-cut
returns-in_default-clause-cut g c =
    λ what is kept.
    let same : IdsExhausted Renders ≡ what = cc in
    rw (← same) (raised_cut (state_of kept c.args.self.now) c.args.scope (ap at_end (sym (c.renders_of.ensures kept)) ∙ c.in_default.ensures.end))

pub returns-clause-done : goal.returns-clause-done
returns-clause-done g c =
    λ kept.
    let made = rw c.in_ok-change_scope.was at
    (c.change_scope.ensures
    (record { code = λ x. record x { row = record (x.row) { renders = c.in-Some.renders } }; model = λ x. record x { renders = c.in-Some.renders }; same = λ x. refl })
    (λ x y ret. search rules)) in
    raised_done (state_of kept c.args.self.now) (state_of kept c.change_scope.new.self) c.args.scope c.in-Some.renders (ap at_end (sym (c.renders_of.ensures kept)) ∙ c.in-Some.ensures.next.0)
    (c.in-Some.ensures.next.1 ∙ ap (λ n. n + 1) (c.renders_of.ensures kept)) (made kept)

pub change_scope-requires-clause-stay : goal.change_scope-requires-clause-stay
change_scope-requires-clause-stay g c = λ x y done ret. search rules
