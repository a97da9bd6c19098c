use Rattle.std.proofs.lemmas.Result.{err_from_is_err_and}
use Rattle.rt_edits.specs.contracts.sinks.MutationsWriteMutations.TheImpl.{ghosts}
use Rattle.rt_vdom.proofs.Answered.{build_ok, build_err}
use Rattle.rt_vdom.proofs.dom.VirtualDom.rebuild_to_vec.Goals as goal

pub returns-in_err-rebuild-clause-builds : goal.returns-in_err-rebuild-clause-builds
returns-in_err-rebuild-clause-builds g c =
    let p = err_from_is_err_and c.from_residual.result c.from_residual.ensures.1 in
    rw (p.1, p.2)
    (build_err (λ app. g.A.App.meaning app) (λ to. ghosts.taken to) c.args.self.now c.rebuild.new.self _ _ _ c.default_list-to.ensures.taken
    c.in_err-rebuild.ensures.builds)

pub returns-clause-builds : goal.returns-clause-builds
returns-clause-builds g c =
    build_ok (λ app. g.A.App.meaning app) (λ to. ghosts.taken to) c.args.self.now c.rebuild.new.self c.rebuild.new.to
    c.in_ok-rebuild.field-0 _ c.default_list-to.ensures.taken c.in_ok-rebuild.ensures.builds
