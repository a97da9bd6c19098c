use Rattle.std.proofs.Common.{◌∙◌, subst, sym}
use Rattle.std.proofs.lemmas.Map.Keys.{sorted_tail}
use Rattle.std.specs.List.Sorted.{IsStrictlySortedBy}
use Rattle.run_owed.specs.Lists.{EachOnce}
use Rattle.run_state.specs.Effects.{rank_cmp}
use Rattle.run_state.specs.Mirror.{scopes_of}
use Rattle.run_state.proofs.AllSeen.{numbers_each}
use Rattle.run_state.proofs.LeastEffects.{all_there, fewer_ranks, first_up, none_up, there_behind}
use Rattle.run_state.proofs.Waiting.{rows_apart}
use Rattle.run_state.proofs.state.State.first_with_effects.Goals as goal

pub loop-rank-init : goal.loop-rank-init
loop-rank-init g c =
    rw c.iter-left.ensures.pairs
    (record {
      all = all_there (scopes_of (c.args.self.now.rows).table) c.args.self.now.effects c.args.self.now.held c.args.self.now.listed;
      sorted = c.iter-left.ensures.ascending;
    })

pub loop-rank-smaller : goal.loop-rank-smaller
loop-rank-smaller g c = fewer_ranks c.loop-rank.left c.next.new.self c.in-Some.rank.now c.in-Some.ensures.steps

pub loop-rank-preserved : goal.loop-rank-preserved
loop-rank-preserved g c =
    record {
      all = there_behind (scopes_of (c.args.self.now.rows).table) c.loop-rank.left c.next.new.self c.in-Some.rank.now c.in-Some.ensures.steps (sym c.comes_up.ensures ∙ c.if-comes_up.false) c.loop-rank.invariant.all;
      sorted = sorted_tail rank_cmp c.in-Some.rank.now c.next.new.self (subst (IsStrictlySortedBy rank_cmp) c.in-Some.ensures.steps c.loop-rank.invariant.sorted);
    }

pub returns-then-comes_up : goal.returns-then-comes_up
returns-then-comes_up g c =
    first_up (scopes_of (c.args.self.now.rows).table) c.loop-rank.left c.next.new.self c.in-Some.rank.now
    (
    subst EachOnce (sym (numbers_each (c.args.self.now.rows).table))
    (rows_apart (c.args.self.now.rows).table c.args.self.now.fresh c.args.self.now.hidden c.args.self.now.next_scope c.args.self.now.waiting)
    )
    c.in-Some.ensures.steps c.loop-rank.invariant.sorted (sym c.comes_up.ensures ∙ c.if-comes_up.true) c.loop-rank.invariant.all

pub returns : goal.returns
returns g c =
    none_up (scopes_of (c.args.self.now.rows).table) c.loop-rank.left
    (
    subst EachOnce (sym (numbers_each (c.args.self.now.rows).table))
    (rows_apart (c.args.self.now.rows).table c.args.self.now.fresh c.args.self.now.hidden c.args.self.now.next_scope c.args.self.now.waiting)
    )
    c.in_default.ensures.steps.0 c.loop-rank.invariant.all
