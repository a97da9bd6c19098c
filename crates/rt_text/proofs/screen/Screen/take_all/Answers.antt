-- One edit on, the end, and a refusal.
use Rattle.std.proofs.Common.{rules, ◌≡◌, Err, ◌∙◌}
use Rattle.rt_text.proofs.Leads.{leads_back, leads_on, leads_end, refused_wants}
use Rattle.rt_text.specs.Screens.{nodes_of}
use Rattle.rt_text.proofs.screen.Screen.take_all.Goals as goal

pub loop-edit-preserved : goal.loop-edit-preserved
loop-edit-preserved c = record {
  back = λ next rest. c.loop-edit.invariant.back next (leads_back c.args.edits.now c.loop-edit.edit-index c.edit-item.result _ _ next c.loop-edit-test.true c.edit-item.is c.in_ok-take.ensures.ok rest);
  on = λ next led. leads_on c.args.edits.now c.loop-edit.edit-index c.edit-item.result _ _ next c.loop-edit-test.true c.edit-item.is c.in_ok-take.ensures.ok (c.loop-edit.invariant.on next led);
  rows = (c.take.ensures.rows).0 ∙ c.loop-edit.invariant.rows;
  size = (((c.take.ensures.rows).1).0 ∙ (c.loop-edit.invariant.size).0, ((c.take.ensures.rows).1).1 ∙ (c.loop-edit.invariant.size).1);
}

pub returns-in_err-take-clause-refused : goal.returns-in_err-take-clause-refused
returns-in_err-take-clause-refused c =
    let failed : c.from_residual.result ≡ Err c.in_err-take.field-0.0 = search rules in
    λ next led. rw failed (refused_wants c.args.edits.now c.loop-edit.edit-index c.edit-item.result _ next c.in_err-take.field-0.0 c.loop-edit-test.true c.edit-item.is (c.loop-edit.invariant.on next led) c.in_err-take.ensures.cause)

pub returns-in_err-take-clause-rows : goal.returns-in_err-take-clause-rows
returns-in_err-take-clause-rows c =
    ((c.take.ensures.rows).0 ∙ c.loop-edit.invariant.rows, (((c.take.ensures.rows).1).0 ∙ (c.loop-edit.invariant.size).0, ((c.take.ensures.rows).1).1 ∙ (c.loop-edit.invariant.size).1))

pub returns-clause-ok : goal.returns-clause-ok
returns-clause-ok c = c.loop-edit.invariant.back (nodes_of c.loop-edit.self) (leads_end c.args.edits.now c.loop-edit.edit-index (nodes_of c.loop-edit.self) c.loop-edit-test.false)

pub returns-clause-rows : goal.returns-clause-rows
returns-clause-rows c = (c.loop-edit.invariant.rows, c.loop-edit.invariant.size)
