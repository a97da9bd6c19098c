-- One more scope goes.
use Rattle.std.proofs.Common.{◌<◌, ◌≤◌, ◌+◌, ◌-◌, ℕ, List, length, rules, sym, subst, ◌∙◌}
use Rattle.std.proofs.lemmas.Result.{err_from_is_err_and}
use Rattle.std.specs.List.Sorted.{IsStrictlySortedBy}
use Rattle.run_records.specs.Kept.{scope_of}
use Rattle.rt_model.specs.Removal.{closes}
use Rattle.run_state.specs.Effects.{rank_cmp}
use Rattle.run_state.specs.Mirror.{at_first, scopes_of, state_of}
use Rattle.rt_scopes.proofs.Counted.{cut_then}
use Rattle.rt_scopes.proofs.Onward.{cut_on, cut_as, done_on}
use Rattle.run_answers.specs.Ranked.{AreRanked}
use Rattle.run_answers.proofs.Greatest.{closes_begin, closes_on, closes_none, closes_end, length-each}
use Rattle.run_answers.proofs.LastRanked.{last_next, none_next, ranked_after, sorted_front}
use Rattle.run_answers.proofs.TakenAlone.{done_alone}
use Rattle.run_rounds.proofs.closing.close.Goals as goal

pub returns-in_err-ranks : goal.returns-in_err-ranks
returns-in_err-ranks g c =
    record {
      closed = λ kept. (kept, search rules, search rules);
    }

pub loop-scope-init : goal.loop-scope-init
loop-scope-init g c =
    record {
      closed =
          λ kept.
          let table = c.args.machine.now.scopes.state.rows.table in (
            kept,
            closes_begin (g.A.App.meaning c.args.app.now) (length (state_of kept c.args.machine.now.scopes.state).scopes) (length table)
                (state_of kept c.args.machine.now.scopes.state) (length-each scope_of table),
            λ was. was,
          );
      ranked = subst (λ (ranks : List (ℕ × ℕ)). AreRanked (scopes_of c.args.machine.now.scopes.state.rows.table) ranks) (sym c.iter-left.ensures.pairs) c.in_ok-ranks.ensures.ranked;
      sorted = subst (IsStrictlySortedBy rank_cmp) (sym c.iter-left.ensures.pairs) c.iter-left.ensures.ascending;
    }

pub loop-scope-preserved : goal.loop-scope-preserved
loop-scope-preserved g c =
    let is = c.as_slice-count.ensures.rows in
    let test = c.loop-scope-test.true in
    let within : c.loop-scope._scope < length c.args.machine.now.scopes.state.rows.table = rw (← is) test in
    let app = g.A.App.meaning c.args.app.now in
    let olds = scopes_of c.loop-scope.machine.scopes.state.rows.table in
    let held = c.loop-scope.invariant in
    let steps = c.in-Some.ensures.steps in
    let next = last_next olds c.loop-scope.left c.next_back.new.self c.in-Some.last.now steps held.sorted held.ranked in
    let first = c.in_ok-remove_leaf.ensures.removed at_first in
    let alone = done_alone app (state_of at_first c.loop-scope.machine.scopes.state) (state_of first.0 c.remove_leaf.new.self.state) c.in-Some.last.now.1 first.1 in
    record {
      closed =
          λ kept.
          let n = length c.args.machine.now.scopes.state.rows.table in
          let before = held.closed kept in
          let w = state_of before.0 c.loop-scope.machine.scopes.state in
          let done = c.in_ok-remove_leaf.ensures.removed before.0 in (
            done.0,
            before.1
                ∙ closes_on app n c.loop-scope._scope w c.in-Some.last.now.1 within next
                ∙ done_on _ (λ v. closes app (n - (c.loop-scope._scope + 1)) v) _ done.1,
            λ was. done.2 (before.2 was),
          );
      ranked =
          ranked_after olds (scopes_of c.remove_leaf.new.self.state.rows.table) c.loop-scope.left c.next_back.new.self c.in-Some.last.now steps held.sorted held.ranked alone.0 alone.1;
      sorted = sorted_front c.next_back.new.self c.in-Some.last.now (subst (IsStrictlySortedBy rank_cmp) steps held.sorted);
    }

pub returns-in_default : goal.returns-in_default
returns-in_default g c =
    record {
      closed =
          λ kept.
          let app = g.A.App.meaning c.args.app.now in
          let n = length c.args.machine.now.scopes.state.rows.table in
          let before = c.loop-scope.invariant.closed kept in
          let w = state_of before.0 c.loop-scope.machine.scopes.state in
          let none = none_next w.scopes c.loop-scope.left c.in_default.ensures.steps.0 c.loop-scope.invariant.ranked in
          (before.0, before.1 ∙ closes_none app (n - c.loop-scope._scope) w none, before.2);
    }

pub returns-in_err-remove_leaf : goal.returns-in_err-remove_leaf
returns-in_err-remove_leaf g c =
    record {
      closed =
          λ kept.
          let is = c.as_slice-count.ensures.rows in
          let test = c.loop-scope-test.true in
          let within : c.loop-scope._scope < length c.args.machine.now.scopes.state.rows.table = rw (← is) test in
          let app = g.A.App.meaning c.args.app.now in
          let n = length c.args.machine.now.scopes.state.rows.table in
          let held = c.loop-scope.invariant in
          let before = held.closed kept in
          let w = state_of before.0 c.loop-scope.machine.scopes.state in
          let next = last_next w.scopes c.loop-scope.left c.next_back.new.self c.in-Some.last.now c.in-Some.ensures.steps held.sorted held.ranked in
          let cut = c.in_err-remove_leaf.ensures.removed before.0 in
          let whole = before.1 ∙ closes_on app n c.loop-scope._scope w c.in-Some.last.now.1 within next in
          let p = err_from_is_err_and c.from_residual-in_err-remove_leaf.result c.from_residual-in_err-remove_leaf.ensures.1 in
          rw (p.1, p.2) (
            cut.0,
            cut_as _ _ _ _ whole (cut_on _ (λ v. closes app (n - (c.loop-scope._scope + 1)) v) _ _ cut.1),
            cut_then _ _ _ _ _ _ c.in_err-remove_leaf.field-0.0 before.2 cut.2,
          );
    }

pub returns : goal.returns
returns g c =
    record {
      closed =
          λ kept.
          let is = c.as_slice-count.ensures.rows in
          let test = c.loop-scope-test.false in
          let app = g.A.App.meaning c.args.app.now in
          let n = length c.args.machine.now.scopes.state.rows.table in
          let end : n ≤ c.loop-scope._scope = rw (← is) test in
          let before = c.loop-scope.invariant.closed kept in
          let w = state_of before.0 c.loop-scope.machine.scopes.state in
          (before.0, before.1 ∙ closes_end app n c.loop-scope._scope w end, before.2);
    }
