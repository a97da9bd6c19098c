-- A batch of effects, and then the look.
use Rattle.std.proofs.Common.{rules, [], ◌∙◌, ap, sym, false}
use Rattle.std.proofs.lemmas.Result.{err_from_is_err_and}
use Rattle.rt_model.specs.Next.{look}
use Rattle.rt_model.specs.Run.{acted}
use Rattle.rt_model.specs.State.{Done, onward}
use Rattle.rt_values.specs.declared.names.ScopeId.{ScopeId}
use Rattle.run_state.specs.Mirror.{state_of}
use Rattle.rt_scopes.specs.Hooks.{in_turn}
use Rattle.rt_scopes.proofs.Acted.{batch_looked}
use Rattle.rt_scopes.proofs.Onward.{cut_as, cut_on, done_on}
use Rattle.run_turns.proofs.unit.effects_and_look.Goals as goal

pub returns : goal.returns
returns g c =
    record {
      run =
          λ kept.
          let app = g.A.App.meaning c.args.app.now in
          let done = c.in_ok-call_effects.ensures.run kept in
          let v = state_of kept c.take_effects.new.self in
          let es = c.in_ok-effects.effects in
          let same = ap (λ (s : ScopeId). in_turn (λ u e. acted app u s.0 e false) v es) (sym c.order_of-order.ensures.scope) in
          let whole = batch_looked app (state_of kept c.args.scopes.now.state) v c.args.scope.0 es (c.in_ok-effects.ensures.taken kept) (c.in_ok-effects.ensures.effects kept) in
          let turned = whole ∙ ap (λ o. onward o (λ u. Done (look u) [])) same in
          (done.0, turned ∙ done_on _ (λ u. Done (look u) []) _ done.1 ∙ ap (λ u. Done u []) (sym (c.in_ok-look.ensures.looked done.0)), done.2);
    }

pub returns-in_err-effects : goal.returns-in_err-effects
returns-in_err-effects g c =
    record {
      run = λ kept. (kept, search rules, search rules);
    }

pub returns-in_err-call_effects : goal.returns-in_err-call_effects
returns-in_err-call_effects g c =
    record {
      run =
          λ kept.
          let app = g.A.App.meaning c.args.app.now in
          let p = err_from_is_err_and c.from_residual-in_err-call_effects.result c.from_residual-in_err-call_effects.ensures.1 in
          let cut = c.in_err-call_effects.ensures.run kept in
          let v = state_of kept c.take_effects.new.self in
          let es = c.in_ok-effects.effects in
          let same = ap (λ (s : ScopeId). in_turn (λ u e. acted app u s.0 e false) v es) (sym c.order_of-order.ensures.scope) in
          let whole = batch_looked app (state_of kept c.args.scopes.now.state) v c.args.scope.0 es (c.in_ok-effects.ensures.taken kept) (c.in_ok-effects.ensures.effects kept) in
          let turned = whole ∙ ap (λ o. onward o (λ u. Done (look u) [])) same in
          rw (p.1, p.2) (cut.0, cut_as _ _ _ _ turned (cut_on _ (λ u. Done (look u) []) _ _ cut.1), cut.2);
    }

pub returns-in_err-look : goal.returns-in_err-look
returns-in_err-look g c =
    record {
      run = λ kept. (kept, search rules, search rules);
    }
