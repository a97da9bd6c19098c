-- One child scope more is told at the end, if there is one.
use Rattle.std.proofs.Common.{List, ◌++◌, ◌∙◌, ap, append-nil, arith, sym}
use Rattle.rt_values.specs.declared.names.ScopeId.{ScopeId}
use Rattle.rt_model.specs.Run.{drop_at}
use Rattle.rt_model.specs.State.{Drop}
use Rattle.run_work.proofs.Walking.{mapped}
use Rattle.rt_tree.specs.Counts.{one_if}
use Rattle.rt_tree.specs.Endings.{dropping, drops_left}
use Rattle.rt_tree.proofs.Counted.{one_longer}
use Rattle.rt_tree.proofs.patch.Patch.leave.Goals as goal

pub returns-in_ok-push_back-in-Some-clause-behind : goal.returns-in_ok-push_back-in-Some-clause-behind
returns-in_ok-push_back-in-Some-clause-behind g c =
    let more = one_longer c.args.self.now.drops.items c.push_back.new.self.items _ c.in_ok-push_back-in-Some.ensures.items in
    let one = ap one_if c.in-Some.ensures in
    omega (arith, more, one)

pub returns-in-None-clause-behind : goal.returns-in-None-clause-behind
returns-in-None-clause-behind g c =
    let none = ap one_if c.in-None.ensures in
    omega (arith, none)

pub returns-in_ok-push_back-in-Some-clause-dropped : goal.returns-in_ok-push_back-in-Some-clause-dropped
returns-in_ok-push_back-in-Some-clause-dropped g c = λ scope side.
    ap (λ (ts : List ScopeId). dropping scope side ts) c.in_ok-push_back-in-Some.ensures.items
    ∙ mapped (λ (t : ScopeId). Drop t.0 scope side) c.args.self.now.drops.items _
    ∙ ap (λ o. drops_left scope side c.args.self.now ++ drop_at scope side o) c.in-Some.ensures

pub returns-in-None-clause-dropped : goal.returns-in-None-clause-dropped
returns-in-None-clause-dropped g c = λ scope side.
    sym (append-nil (drops_left scope side c.args.self.now)) ∙ ap (λ o. drops_left scope side c.args.self.now ++ drop_at scope side o) c.in-None.ensures
