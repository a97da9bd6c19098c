-- One more piece is put, or none after it.
use Rattle.std.proofs.Common.{rules, ◌≡◌, Err, arith}
use Rattle.rt_vdom.specs.Doms.{StateIn}
use Rattle.rt_served.specs.declared.refusal.ServeFault.TheVariants as faults
use Rattle.rt_served.proofs.Pieces.{none_put, scope_failed, scope_put, scope_uncounted, scopes_counted, scopes_put}
use Rattle.rt_served.proofs.putting.put_pieces.Goals as goal

pub loop-scope-init : goal.loop-scope-init
loop-scope-init g c = record { put = λ k. none_put (StateIn k c.args.dom.now) _ _; rises = omega arith }

pub loop-scope-preserved : goal.loop-scope-preserved
loop-scope-preserved g c = record {
  put = λ k.
      scope_put (StateIn k c.args.dom.now) c.args.scopes.now c.loop-scope.scope-index _ _ _ _ _ _ _ _ _ _ c.loop-scope-test.true
      (c.loop-scope.invariant.put k) (c.in_ok-own.ensures.puts k) (c.in_ok-own.ensures.counts k) c.in_ok-count.ensures;
  rises = omega (arith, c.loop-scope.invariant.rises, c.in_ok-own.ensures.counted);
}

pub returns-in_err-own-clause-puts : goal.returns-in_err-own-clause-puts
returns-in_err-own-clause-puts g c =
    let failed : c.from_residual.result ≡ Err c.in_err-own.field-0.0 = search rules in
    λ k.
    rw failed
    (scope_failed (StateIn k c.args.dom.now) c.args.scopes.now c.loop-scope.scope-index _ _ _ _ _ _ _ _ c.in_err-own.field-0.0
    c.loop-scope-test.true (c.loop-scope.invariant.put k) (c.in_err-own.ensures.puts k))

pub returns-in_err-own-clause-counted : goal.returns-in_err-own-clause-counted
returns-in_err-own-clause-counted g c = omega (arith, c.loop-scope.invariant.rises, c.in_err-own.ensures.counted)

pub returns-in_err-count-clause-puts : goal.returns-in_err-count-clause-puts
returns-in_err-count-clause-puts g c =
    let failed : c.from_residual-in_err-count.result ≡ Err faults.OutOfMemory = search rules in
    λ k.
    rw failed
    (scope_uncounted (StateIn k c.args.dom.now) c.args.scopes.now c.loop-scope.scope-index _ _ _ _ _ _ _ _ _ c.loop-scope-test.true
    (c.loop-scope.invariant.put k) (c.in_ok-own.ensures.puts k))

pub returns-in_err-count-clause-counted : goal.returns-in_err-count-clause-counted
returns-in_err-count-clause-counted g c = omega (arith, c.loop-scope.invariant.rises, c.in_ok-own.ensures.counted)

pub returns-clause-puts : goal.returns-clause-puts
returns-clause-puts g c = λ k.
    scopes_put (StateIn k c.args.dom.now) c.args.scopes.now c.loop-scope.scope-index _ _ _ _ _ c.loop-scope-test.false
    (c.loop-scope.invariant.put k)

pub returns-clause-counts : goal.returns-clause-counts
returns-clause-counts g c = λ k.
    scopes_counted (StateIn k c.args.dom.now) c.args.scopes.now c.loop-scope.scope-index _ _ _ _ _ c.loop-scope-test.false
    (c.loop-scope.invariant.put k)
