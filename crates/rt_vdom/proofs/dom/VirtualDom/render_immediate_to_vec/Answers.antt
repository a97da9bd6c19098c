use Rattle.std.proofs.lemmas.Result.{err_from_is_err_and}
use Rattle.rt_edits.specs.contracts.sinks.MutationsWriteMutations.TheImpl.{ghosts}
use Rattle.rt_vdom.proofs.Answered.{list_ok, list_err}
use Rattle.rt_vdom.proofs.dom.VirtualDom.render_immediate_to_vec.Goals as goal

pub returns-in_err-render_immediate-clause-runs : goal.returns-in_err-render_immediate-clause-runs
returns-in_err-render_immediate-clause-runs g c =
    let p = err_from_is_err_and c.from_residual.result c.from_residual.ensures.1 in
    rw (p.1, p.2)
    (list_err (λ app. g.A.App.meaning app) (λ to. ghosts.taken to) c.args.self.now c.render_immediate.new.self _ _ _ c.default_list-to.ensures.taken
    c.in_err-render_immediate.ensures.runs)

pub returns-clause-runs : goal.returns-clause-runs
returns-clause-runs g c =
    list_ok (λ app. g.A.App.meaning app) (λ to. ghosts.taken to) c.args.self.now c.render_immediate.new.self c.render_immediate.new.to
    c.in_ok-render_immediate.field-0 _ c.default_list-to.ensures.taken c.in_ok-render_immediate.ensures.runs
    c.in_ok-render_immediate.ensures.once
