use Rattle.std.proofs.Common.{◌≡◌, ◌+◌, ◌∷◌, [], inl, inr, refl, arith, sym, ap, ◌∙◌, true, false}
use Rattle.std.specs.Prelude.{None}
use Rattle.rt_model.specs.World.{Spawn}
use Rattle.rt_model.specs.Run.{with_next}
use Rattle.rt_model.specs.Commands.{spawned}
use Rattle.rt_model.specs.State.{is_live}
use Rattle.rt_model.specs.Asides.{Asked}
use Rattle.rt_scopes.proofs.Nexts.{next_back}
use Rattle.rt_vdom.specs.Calls.{spawned_by}
use Rattle.rt_vdom.specs.Doms.{StateIn}
use Rattle.rt_vdom.proofs.Standing.{stands_on, stands_still, spawned_is, spawned_not, task_is, task_not}
use Rattle.rt_vdom.proofs.dom.VirtualDom.spawn_in.Goals as goal

-- of a live scope: the next number is drawn, and the task is spawned
pub returns-in-Ok-clause-spawned : goal.returns-in-Ok-clause-spawned
returns-in-Ok-clause-spawned g c = λ props whole w s.
    let d = c.args.self.now in
    let t = c.args.task_state in
    let live : is_live w c.args.scope ≡ true = ap (λ x. is_live x c.args.scope) (sym s.is) ∙ sym (c.is_live.ensures s.kept) ∙ c.if-not-is_live.false in
    stands_on (λ app. g.A.App.meaning app)
    (Asked c.args.scope (record (w.next) { tasks = w.next.tasks + 1 }) (Spawn w.next.tasks t false c.args.isomorphic ∷ []))
    (λ x. spawned_by x c.args.scope t c.args.isomorphic) d c.spawn_asked.new.self props whole w
    (c.leads.ensures props whole) tt (g.met.A.App.lawful d.app)
    (record { cells = refl; contexts = refl; tasks = (refl, refl); elements = refl; errors = omega arith })
    (spawned_is w c.args.scope t c.args.isomorphic live)
    (
    λ h.
    c.in-Ok.ensures.spawned h
    ∙ ap (λ n. spawned (with_next (StateIn h d) (record ((StateIn h d).next) { tasks = n })) None c.args.scope (StateIn h d).next.tasks t c.args.isomorphic)
    c.in-Some.ensures.next
    ∙ sym (spawned_is (StateIn h d) c.args.scope t c.args.isomorphic (sym (c.is_live.ensures h) ∙ c.if-not-is_live.false))
    )
    s

-- of one that isn't live nothing is drawn
pub returns-then-not-is_live-clause-spawned : goal.returns-then-not-is_live-clause-spawned
returns-then-not-is_live-clause-spawned g c = λ props whole w s.
    let d = c.args.self.now in
    let gone : is_live w c.args.scope ≡ false = ap (λ x. is_live x c.args.scope) (sym s.is) ∙ sym (c.is_live.ensures s.kept) ∙ c.if-not-is_live.true in
    stands_still (λ app. g.A.App.meaning app) d props whole w (spawned_by w c.args.scope c.args.task_state c.args.isomorphic)
    (spawned_not w c.args.scope c.args.task_state c.args.isomorphic gone) s

-- the number of the task
pub returns-in-Ok-clause-number : goal.returns-in-Ok-clause-number
returns-in-Ok-clause-number g c = λ kept.
    sym (task_is (StateIn kept c.args.self.now) c.args.scope (sym (c.is_live.ensures kept) ∙ c.if-not-is_live.false))

pub returns-then-not-is_live-clause-number : goal.returns-then-not-is_live-clause-number
returns-then-not-is_live-clause-number g c = λ kept.
    sym (task_not (StateIn kept c.args.self.now) c.args.scope (sym (c.is_live.ensures kept) ∙ c.if-not-is_live.true))

-- a scope that isn't live is refused nothing
pub returns-in_default-clause-refused : goal.returns-in_default-clause-refused
returns-in_default-clause-refused g c =
    (λ kept. sym (c.is_live.ensures kept) ∙ c.if-not-is_live.false, inr (refl, c.in_default.ensures.end))

pub returns-in-Err-clause-refused : goal.returns-in-Err-clause-refused
returns-in-Err-clause-refused g c = (λ kept. sym (c.is_live.ensures kept) ∙ c.if-not-is_live.false, inl refl)

-- a refusal leaves all: the number is there again
pub returns-in-Err-clause-kept : goal.returns-in-Err-clause-kept
returns-in-Err-clause-kept g c =
    let d = c.args.self.now in
    ap (λ x. record d { machine = record (d.machine) { scopes = record ((d.machine).scopes) { state = x } } })
    (next_back ((d.machine).scopes).state c.spawn_asked.new.self _ (λ n. record n { tasks = ((((d.machine).scopes).state).next).tasks }) _ _ _ _ _ _ _ _ _ _ _ _ _ _ c.in-Err.ensures.err refl)
