use Rattle.std.proofs.Common.{[], sym, map, inl, inr}
use Rattle.std.proofs.lemmas.Result.{err_from_is_err_and}
use Rattle.tree_edits.specs.Documents.{edit_of}
use Rattle.run_outside.proofs.Sinks.{took-more, took-to, took-ends, ends-low, run-after}
use Rattle.run_turns.specs.Counting.{now_at}
use Rattle.run_machine.specs.Stands.{counting}
use Rattle.run_reports.specs.Seen.{limits_of}
use Rattle.law_behavior.specs.Doms.{Renders}
use Rattle.run_rounds.proofs.Breaks.{breaks_at, wanting}
use Rattle.run_rounds.proofs.Broken.{until_broke}
use Rattle.run_rounds.proofs.running.render.Goals as goal

pub returns-in_err-first-clause-renders : goal.returns-in_err-first-clause-renders
returns-in_err-first-clause-renders g c =
    let p = err_from_is_err_and c.from_residual.result c.from_residual.ensures.1 in
    rw (p.1, p.2) (λ r stands fault why. inl (c.in_err-first.ensures.goes r [] stands fault why))

pub returns-in_err-first-clause-err : goal.returns-in_err-first-clause-err
returns-in_err-first-clause-err g c =
    let p = err_from_is_err_and c.from_residual.result c.from_residual.ensures.1 in rw (p.1, p.2) c.in_err-first.ensures.err

pub returns-in_err-more-clause-renders : goal.returns-in_err-more-clause-renders
returns-in_err-more-clause-renders g c =
    let p = err_from_is_err_and c.from_residual-in_err-more.result c.from_residual-in_err-more.ensures.1 in
    rw (p.1, p.2)
    (
    λ r stands fault why.
    let first = c.in_ok-first.ensures.goes r [] stands in
    inr (record {
      between = c.go_on.new.machine;
      counted = now_at c.go_on.new.calls r.count;
      middle = g.M.WriteMutations.taken c.go_on.new.sink;
      events = c.in_ok-first.first;
      first = first;
      second = c.in_err-more.ensures.goes r (map edit_of ((first.gone).on).wrote) ((first.gone).on).stands fault why;
    })
    )

pub returns-in_err-more-clause-err : goal.returns-in_err-more-clause-err
returns-in_err-more-clause-err g c =
    let p = err_from_is_err_and c.from_residual-in_err-more.result c.from_residual-in_err-more.ensures.1 in
    rw (p.1, p.2) (ends-low _ _ _ _ _ _ _ (took-ends _ _ _ _ _ _ _ _ 0 _ c.in_ok-first.ensures.ok c.in_err-more.ensures.err))

pub returns-in_err-sum-clause-renders : goal.returns-in_err-sum-clause-renders
returns-in_err-sum-clause-renders g c =
    let p = err_from_is_err_and c.from_residual-in_err-sum.result c.from_residual-in_err-sum.ensures.1 in
    rw (p.1, p.2) (λ r stands fault why. cc)

pub returns-in_err-sum-clause-err : goal.returns-in_err-sum-clause-err
returns-in_err-sum-clause-err g c =
    let p = err_from_is_err_and c.from_residual-in_err-sum.result c.from_residual-in_err-sum.ensures.1 in
    rw (p.1, p.2)
    (ends-low _ _ _ _ _ _ _ (run-after _ _ _ _ _ _ _ (took-more _ _ _ _ _ _ _ _ c.in_ok-first.ensures.ok c.in_ok-more.ensures.ok)))

pub returns-clause-renders : goal.returns-clause-renders
returns-clause-renders g c =
    λ r stands.
    let first = c.in_ok-first.ensures.goes r [] stands in
    record {
      between = c.go_on.new.machine;
      counted = now_at c.go_on.new.calls r.count;
      middle = g.M.WriteMutations.taken c.go_on.new.sink;
      events = c.in_ok-first.first;
      more = c.in_ok-more.more;
      all = c.in_ok-sum.ensures;
      first = first;
      second = c.in_ok-more.ensures.goes r (map edit_of ((first.gone).on).wrote) ((first.gone).on).stands;
    }

pub returns-clause-ok : goal.returns-clause-ok
returns-clause-ok g c = took-to _ _ _ _ _ _ _ _ _ (sym c.in_ok-sum.ensures) c.in_ok-first.ensures.ok c.in_ok-more.ensures.ok

pub returns-in_err-first-clause-breaks : goal.returns-in_err-first-clause-breaks
returns-in_err-first-clause-breaks g c =
    let p = err_from_is_err_and c.from_residual.result c.from_residual.ensures.1 in
    rw (p.1, p.2) (λ r none stands. inl (c.in_err-first.ensures.breaks r [] none stands))

pub returns-in_err-more-clause-breaks : goal.returns-in_err-more-clause-breaks
returns-in_err-more-clause-breaks g c =
    let p = err_from_is_err_and c.from_residual-in_err-more.result c.from_residual-in_err-more.ensures.1 in
    rw (p.1, p.2)
    (
    λ r none stands.
    let first = c.in_ok-first.ensures.goes r [] stands in
    inr (record {
      between = c.go_on.new.machine;
      counted = now_at c.go_on.new.calls r.count;
      middle = g.M.WriteMutations.taken c.go_on.new.sink;
      events = c.in_ok-first.first;
      first = first;
      second = c.in_err-more.ensures.breaks r (map edit_of ((first.gone).on).wrote) none ((first.gone).on).stands;
    })
    )

pub returns-in_err-sum-clause-breaks : goal.returns-in_err-sum-clause-breaks
returns-in_err-sum-clause-breaks g c =
    let p = err_from_is_err_and c.from_residual-in_err-sum.result c.from_residual-in_err-sum.ensures.1 in
    rw (p.1, p.2)
    (
    λ r none stands.
    let app = g.A.App.meaning c.args.app.now in
    let lawful = g.met.A.App.lawful c.args.app.now in
    let limits = limits_of c.args.limits in
    let first = c.in_ok-first.ensures.goes r [] stands in
    let edits = map edit_of ((first.gone).on).wrote in
    let far = (c.in_ok-more.ensures.goes r edits ((first.gone).on).stands).gone in
    let middle = g.M.WriteMutations.taken c.go_on.new.sink in
    let after = g.M.WriteMutations.taken c.go_on-2.new.sink in
    inr (record {
      between = c.go_on.new.machine;
      counted = now_at c.go_on.new.calls r.count;
      middle = middle;
      events = c.in_ok-first.first;
      first = first;
      second =
          until_broke app lawful limits (counting r c.go_on-2.new.calls) Renders edits middle after wanting c.go_on.new.machine c.go_on-2.new.machine far.grown
          (breaks_at app lawful limits (counting r c.go_on-2.new.calls) edits middle after c.in_ok-more.more c.go_on-2.new.machine far.on);
    })
    )
