-- An edit that was left over, or the marks that were passed and what is behind them.
use Rattle.std.proofs.Common.{[], ◌≡◌, ◌≢◌, ◌+◌, ◌-◌, ◌^◌, ap, length, map, refl, sym, subst, rules, ◌∙◌}
use Rattle.std.proofs.lemmas.Result.{err_from_is_err_and}
use Rattle.rt_model.specs.OneLog.{types}
use Rattle.rt_model.specs.World.{Application}
use Rattle.tree_edits.specs.Documents.{edit_of}
use Rattle.run_met.specs.Mets.{mark_of, marks_of}
use Rattle.run_places.specs.Places.{side_of}
use Rattle.rt_tree.specs.declared.step.PatchStep.TheVariants as s
use Rattle.rt_tree.specs.Awaits.{awaited, no_answer}
use Rattle.rt_tree.specs.Counts.{deeds, other_in, other_of, others}
use Rattle.rt_tree.specs.Does.{Does, StillFor}
use Rattle.rt_tree.specs.Endings.{LeavesBy}
use Rattle.rt_tree.specs.Served.{Keeps, Leaves, Silent, Turned}
use Rattle.rt_tree.specs.Told.{IfDrawn}
use Rattle.rt_tree.proofs.Coming.{draws_next, not_behind, not_left, only_drawn}
use Rattle.rt_tree.proofs.Counted.{none_left, one_dropped, one_told, turned_none, turned_step}
use Rattle.rt_tree.proofs.Ending.{tells_drop, tells_gone, tells_none}
use Rattle.rt_tree.proofs.Quiet.{stays_as}
use Rattle.rt_tree.proofs.Serving.{left_by, none_passed, rests_by, one_passed, served_end, served_first, served_turn}
use Rattle.rt_tree.proofs.Told.{none_holds, some_holds}
use Rattle.rt_tree.proofs.patch.Patch.next.Goals as goal

pub returns-in-Some-clause-served : goal.returns-in-Some-clause-served
returns-in-Some-clause-served g c = λ app.
    let after = record c.args.self.now { edits = c.pop_front.new.self } in
    served_first app c.args.self.now after c.in-Some.edit c.in-Some.ensures.items refl refl (record { drops = refl; gone = refl })

pub returns-in-Some-clause-leaves : goal.returns-in-Some-clause-leaves
returns-in-Some-clause-leaves g c = record { old = refl; given = refl; shown = refl }

pub returns-in-Some-clause-fewer : goal.returns-in-Some-clause-fewer
returns-in-Some-clause-fewer g c =
    let after = record c.args.self.now { edits = c.pop_front.new.self } in
    none_left c.args.self.now c.args.self.now after refl refl refl refl

pub loop-met-init : goal.loop-met-init
loop-met-init g c =
    let now = record c.args.self.now { edits = c.pop_front.new.self } in record {
      free = c.requires.free;
      spent = search rules;
      tree = refl;
      undrawn = refl;
      none = search rules;
      fewer = refl;
      passed = none_passed c.args.self.now now refl (stays_as c.args.self.now now refl refl refl refl) (record { drops = refl; gone = refl });
    }

-- `taken` is what is left once the mark was taken off the plan
pub loop-met-preserved : goal.loop-met-preserved
loop-met-preserved g c =
    let now = c.loop-met.self in
    let was = c.loop-met.invariant in
    let met = c.in-Some-pop_front.met in
    let front = c.in-Some-pop_front.ensures.items in
    let taken = record now { plan = c.pop_front-in-loop-met.new.self } in
    let after = c.turn.new.self in
    let told = c.in_ok-step.field-0 in
    let none = c.in_default-2.is in
    let says = c.in_ok-step.ensures in
    let silent = none_holds ((app : Application (types _ _ _ _ _ _ _)) → Silent app (mark_of met) taken after) told none says.none in
    let keeps = none_holds (Keeps taken after) told none says.keeps in
    let plan = none_holds (after.plan.items ≡ taken.plan.items) told none says.plan in
    let still = subst (λ o. StillFor (side_of taken.old).children o (mark_of met)) none says.still in
    let leaves = subst (λ o. LeavesBy o (mark_of met) taken after) none says.ends in
    let fewer = subst (λ o. deeds (side_of taken.old).children (mark_of met) + others taken ≡ other_of o + others after) none says.fewer in record {
      free = none_holds (awaited after.phase ≡ no_answer) told none says.free;
      spent = none_holds (after.edits.items ≡ []) told none says.spent;
      tree = says.tree ∙ was.tree;
      undrawn = none_holds (c.turn.new.ids ≡ c.loop-met.ids) told none says.untouched ∙ was.undrawn;
      none = was.none;
      fewer = turned_none c.args.self.now now taken after met was.fewer front refl refl fewer;
      passed = one_passed c.args.self.now now taken after met was.passed front (stays_as now taken refl refl refl refl) silent keeps plan still (record { drops = refl; gone = refl }) leaves;
    }

pub returns-in-Some-2-clause-served : goal.returns-in-Some-2-clause-served
returns-in-Some-2-clause-served g c = λ app.
    let now = c.loop-met.self in
    let was = c.loop-met.invariant in
    let met = c.in-Some-pop_front.met in
    let taken = record now { plan = c.pop_front-in-loop-met.new.self } in
    let after = c.turn.new.self in
    let told = c.in_ok-step.field-0 in
    let step = c.in-Some-2.step in
    let is = c.in-Some-2.is in
    let says = c.in_ok-step.ensures in
    served_turn app c.args.self.now now was.passed (ap (λ es. map edit_of es) was.none)
    taken after met c.in-Some-pop_front.ensures.items (stays_as now taken refl refl refl refl) (record { drops = refl; gone = refl }) step
    (some_holds (λ one. (app : Application (types _ _ _ _ _ _ _)) → Turned app (mark_of met) taken one after) told step is says.some app)
    (some_holds (λ one. Does (mark_of met) taken one after) told step is says.does)
    (subst (λ o. StillFor (side_of taken.old).children o (mark_of met)) is says.still) (subst (λ o. LeavesBy o (mark_of met) taken after) is says.ends)

pub returns-in-Some-2-clause-leaves : goal.returns-in-Some-2-clause-leaves
returns-in-Some-2-clause-leaves g c =
    let taken = record c.loop-met.self { plan = c.pop_front-in-loop-met.new.self } in
    let stays = c.loop-met.invariant.passed.stays in
    let left = some_holds (λ one. Leaves taken c.turn.new.self) c.in_ok-step.field-0 c.in-Some-2.step c.in-Some-2.is c.in_ok-step.ensures.leaves in
    record { old = left.old ∙ stays.old; given = left.given ∙ stays.given; shown = left.shown ∙ stays.shown }

pub returns-in-Some-2-clause-fewer : goal.returns-in-Some-2-clause-fewer
returns-in-Some-2-clause-fewer g c =
    let now = c.loop-met.self in
    let met = c.in-Some-pop_front.met in
    let taken = record now { plan = c.pop_front-in-loop-met.new.self } in
    let after = c.turn.new.self in
    let fewer = subst (λ o. deeds (side_of taken.old).children (mark_of met) + others taken ≡ other_of o + others after) c.in-Some-2.is c.in_ok-step.ensures.fewer in
    turned_step c.args.self.now now taken after met c.in-Some-2.step c.loop-met.invariant.fewer c.in-Some-pop_front.ensures.items refl refl fewer

-- behind the plan
pub returns-in-Some-pop_front-2-clause-served : goal.returns-in-Some-pop_front-2-clause-served
returns-in-Some-pop_front-2-clause-served g c = λ app.
    let now = c.loop-met.self in
    let was = c.loop-met.invariant in
    let after = record now { plan = c.pop_front-in-loop-met.new.self; drops = c.pop_front-2.new.self } in
    served_end app c.args.self.now now was.passed (ap (λ es. map edit_of es) was.none) (s.Remove c.in-Some-pop_front-2.scope) after
    (ap marks_of (sym c.in_default-pop_front.ensures.items)) (ap (λ es. map edit_of es) was.spent) refl (rests_by c.args.self.now now after was.passed refl)
    (tells_drop was.passed.over c.args.self.now now after c.in-Some-pop_front-2.scope was.passed.piles c.in-Some-pop_front-2.ensures.items refl)

pub returns-in-Some-pop_front-2-clause-leaves : goal.returns-in-Some-pop_front-2-clause-leaves
returns-in-Some-pop_front-2-clause-leaves g c =
    let now = c.loop-met.self in
    let after = record now { plan = c.pop_front-in-loop-met.new.self; drops = c.pop_front-2.new.self } in
    left_by c.args.self.now now after c.loop-met.invariant.passed refl refl refl

pub returns-in-Some-pop_front-2-clause-fewer : goal.returns-in-Some-pop_front-2-clause-fewer
returns-in-Some-pop_front-2-clause-fewer g c =
    let now = c.loop-met.self in
    let after = record now { plan = c.pop_front-in-loop-met.new.self; drops = c.pop_front-2.new.self } in
    one_dropped c.args.self.now now after c.in-Some-pop_front-2.scope c.loop-met.invariant.fewer (sym c.in_default-pop_front.ensures.items) refl c.in-Some-pop_front-2.ensures.items refl

pub returns-in-Some-pop_front-3-clause-served : goal.returns-in-Some-pop_front-3-clause-served
returns-in-Some-pop_front-3-clause-served g c = λ app.
    let now = c.loop-met.self in
    let was = c.loop-met.invariant in
    let after = record now { plan = c.pop_front-in-loop-met.new.self; drops = c.pop_front-2.new.self; gone = c.pop_front-3.new.self } in
    served_end app c.args.self.now now was.passed (ap (λ es. map edit_of es) was.none) (s.Gone c.in-Some-pop_front-3.id) after
    (ap marks_of (sym c.in_default-pop_front.ensures.items)) (ap (λ es. map edit_of es) was.spent) refl (rests_by c.args.self.now now after was.passed refl)
    (tells_gone was.passed.over c.args.self.now now after c.in-Some-pop_front-3.id was.passed.piles (sym c.in_default-pop_front-2.ensures.items) c.in-Some-pop_front-3.ensures.items)

pub returns-in-Some-pop_front-3-clause-leaves : goal.returns-in-Some-pop_front-3-clause-leaves
returns-in-Some-pop_front-3-clause-leaves g c =
    let now = c.loop-met.self in
    let after = record now { plan = c.pop_front-in-loop-met.new.self; drops = c.pop_front-2.new.self; gone = c.pop_front-3.new.self } in
    left_by c.args.self.now now after c.loop-met.invariant.passed refl refl refl

pub returns-in-Some-pop_front-3-clause-fewer : goal.returns-in-Some-pop_front-3-clause-fewer
returns-in-Some-pop_front-3-clause-fewer g c =
    let now = c.loop-met.self in
    let after = record now { plan = c.pop_front-in-loop-met.new.self; drops = c.pop_front-2.new.self; gone = c.pop_front-3.new.self } in
    one_told c.args.self.now now after c.in-Some-pop_front-3.id c.loop-met.invariant.fewer (sym c.in_default-pop_front.ensures.items) refl (sym c.in_default-pop_front-2.ensures.items)
    c.in-Some-pop_front-3.ensures.items

pub returns-clause-served : goal.returns-clause-served
returns-clause-served g c = λ app.
    let now = c.loop-met.self in
    let was = c.loop-met.invariant in
    let after = record now { plan = c.pop_front-in-loop-met.new.self; drops = c.pop_front-2.new.self; gone = c.pop_front-3.new.self } in
    served_end app c.args.self.now now was.passed (ap (λ es. map edit_of es) was.none) s.Done after
    (ap marks_of (sym c.in_default-pop_front.ensures.items)) (ap (λ es. map edit_of es) was.spent) refl (rests_by c.args.self.now now after was.passed refl)
    (tells_none was.passed.over c.args.self.now now after s.Done was.passed.piles
    (record { drops = sym c.in_default-pop_front-2.ensures.items; gone = sym c.in_default-pop_front-3.ensures.items }) (λ scope side. refl) refl)

pub returns-clause-leaves : goal.returns-clause-leaves
returns-clause-leaves g c =
    let now = c.loop-met.self in
    let after = record now { plan = c.pop_front-in-loop-met.new.self; drops = c.pop_front-2.new.self; gone = c.pop_front-3.new.self } in
    left_by c.args.self.now now after c.loop-met.invariant.passed refl refl refl

pub returns-clause-fewer : goal.returns-clause-fewer
returns-clause-fewer g c =
    let now = c.loop-met.self in
    let after = record now { plan = c.pop_front-in-loop-met.new.self; drops = c.pop_front-2.new.self; gone = c.pop_front-3.new.self } in
    let drops = c.in_default-pop_front-2.ensures.items in
    let gone = c.in_default-pop_front-3.ensures.items in
    none_left c.args.self.now now after c.loop-met.invariant.fewer (sym c.in_default-pop_front.ensures.items) refl (λ t. length (sym drops t) + length (sym gone t))

-- a fault comes at the end of the numbers, where the mark in front is a node that comes
pub returns-in_err-step-clause-draws : goal.returns-in_err-step-clause-draws
returns-in_err-step-clause-draws g c =
    let stopped = err_from_is_err_and c.from_residual.result c.from_residual.ensures.1 in
    rw (stopped.1, stopped.2)
    (λ fault app.
    draws_next app c.args.self.now c.loop-met.self c.loop-met.invariant.passed c.in-Some-pop_front.met c.pop_front-in-loop-met.new.self.items c.in-Some-pop_front.ensures.items c.loop-met.invariant.none
    (c.in_err-step.ensures.coming fault))

-- where a number is drawn next no other step comes
pub returns-in-Some-clause-before_end : goal.returns-in-Some-clause-before_end
returns-in-Some-clause-before_end g c = λ app next. absurd (not_left app c.args.self.now c.in-Some.edit c.pop_front.new.self.items c.in-Some.ensures.items next)

pub returns-in-Some-2-clause-before_end : goal.returns-in-Some-2-clause-before_end
returns-in-Some-2-clause-before_end g c = λ app next.
    let now = c.loop-met.self in
    let was = c.loop-met.invariant in
    let met = c.in-Some-pop_front.met in
    let taken = record now { plan = c.pop_front-in-loop-met.new.self } in
    let after = c.turn.new.self in
    let told = c.in_ok-step.field-0 in
    let step = c.in-Some-2.step in
    let is = c.in-Some-2.is in
    let says = c.in_ok-step.ensures in
    let below = some_holds (λ one. IfDrawn one (λ id. c.loop-met.ids ≢ 2 ^ 64 - 1)) told step is says.before_end in
    let drawn : c.loop-met.ids ≢ 2 ^ 64 - 1 =
    only_drawn app c.args.self.now now was.passed met c.pop_front-in-loop-met.new.self.items c.in-Some-pop_front.ensures.items taken after step (c.loop-met.ids ≢ 2 ^ 64 - 1)
    (stays_as now taken refl refl refl refl)
    (some_holds (λ one. (app : Application (types _ _ _ _ _ _ _)) → Turned app (mark_of met) taken one after) told step is says.some app)
    (some_holds (λ one. Does (mark_of met) taken one after) told step is says.does) (some_holds (λ one. Leaves taken after) told step is says.leaves)
    (subst (λ o. LeavesBy o (mark_of met) taken after) is says.ends) below next in
    λ end. drawn (was.undrawn ∙ end)

pub returns-in-Some-pop_front-2-clause-before_end : goal.returns-in-Some-pop_front-2-clause-before_end
returns-in-Some-pop_front-2-clause-before_end g c = λ app next.
    let none : c.loop-met.self.plan.items ≡ [] = search rules in
    absurd (not_behind app c.args.self.now c.loop-met.self c.loop-met.invariant.passed none next)

pub returns-in-Some-pop_front-3-clause-before_end : goal.returns-in-Some-pop_front-3-clause-before_end
returns-in-Some-pop_front-3-clause-before_end g c = λ app next.
    let none : c.loop-met.self.plan.items ≡ [] = search rules in
    absurd (not_behind app c.args.self.now c.loop-met.self c.loop-met.invariant.passed none next)

pub returns-clause-before_end : goal.returns-clause-before_end
returns-clause-before_end g c = λ app next.
    let none : c.loop-met.self.plan.items ≡ [] = search rules in
    absurd (not_behind app c.args.self.now c.loop-met.self c.loop-met.invariant.passed none next)
