-- An error under the next number is thrown.
use Rattle.std.proofs.Common.{◌+◌, ◌∷◌, [], refl, ap, ◌∙◌, arith}
use Rattle.rt_model.specs.World.{Throw}
use Rattle.rt_model.specs.Run.{with_next}
use Rattle.rt_model.specs.Commands.{throw_error}
use Rattle.rt_model.specs.Asides.{Asked}
use Rattle.rt_scopes.proofs.Nexts.{next_back}
use Rattle.rt_vdom.specs.Calls.{thrown_by}
use Rattle.rt_vdom.specs.Doms.{StateIn}
use Rattle.rt_vdom.proofs.Standing.{stands_on}
use Rattle.rt_vdom.proofs.dom.VirtualDom.throw_in.Goals as goal

pub returns-in-Ok-clause-thrown : goal.returns-in-Ok-clause-thrown
returns-in-Ok-clause-thrown g c = λ props whole w s.
    let d = c.args.self.now in
    let text = c.args.text in
    stands_on (λ app. g.A.App.meaning app)
    (Asked c.args.scope (record (w.next) { errors = w.next.errors + 1 }) (Throw (record { serial = w.next.errors; text = text }) ∷ []))
    (λ x. thrown_by x c.args.scope text) d c.throw_asked.new.self props whole w
    (c.leads.ensures props whole) tt (g.met.A.App.lawful d.app)
    (record { cells = refl; contexts = refl; tasks = refl; elements = refl; errors = omega arith }) refl
    (
    λ h.
    c.in-Ok.ensures.thrown h
    ∙ ap
    (
    λ n.
    throw_error (with_next (StateIn h d) (record ((StateIn h d).next) { errors = n })) c.args.scope
    (record { serial = (StateIn h d).next.errors; text = text })
    )
    c.in-Some.ensures.next
    )
    s

-- a refusal leaves all: the number is there again
pub returns-in-Err-clause-kept : goal.returns-in-Err-clause-kept
returns-in-Err-clause-kept g c =
    let d = c.args.self.now in
    ap (λ x. record d { machine = record (d.machine) { scopes = record ((d.machine).scopes) { state = x } } })
    (next_back ((d.machine).scopes).state c.throw_asked.new.self _ (λ n. record n { errors = ((((d.machine).scopes).state).next).errors }) _ _ _ _ _ _ _ _ _ _ _ _ _ _ c.in-Err.ensures.err refl)
