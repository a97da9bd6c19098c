-- Nothing is put before the first line; then one more, or none after it.
use Rattle.std.proofs.Common.{rules, ◌≡◌, Err}
use Rattle.show_streams.proofs.OnePut.{writes_none}
use Rattle.show_words.proofs.Puts.{edit_put, edit_failed, edits_put}
use Rattle.show_words.proofs.writing.put_edits.Goals as goal

pub loop-edit-init : goal.loop-edit-init
loop-edit-init g c = writes_none _ _

pub loop-edit-preserved : goal.loop-edit-preserved
loop-edit-preserved g c = edit_put c.args.edits.now c.loop-edit.edit-index c.edit-item.result _ _ _ _ _ _ c.loop-edit-test.true c.edit-item.is c.loop-edit.invariant c.in_ok-put_edit.ensures.writes

pub returns-in_err-put_edit : goal.returns-in_err-put_edit
returns-in_err-put_edit g c =
    let failed : c.from_residual.result ≡ Err c.in_err-put_edit.field-0.0 = search rules in
    record {
      writes = rw failed (edit_failed c.args.edits.now c.loop-edit.edit-index c.edit-item.result _ _ _ _ _ _ _ c.loop-edit-test.true c.edit-item.is c.loop-edit.invariant c.in_err-put_edit.ensures.writes);
    }

pub returns : goal.returns
returns g c = record { writes = edits_put c.args.edits.now c.loop-edit.edit-index _ _ _ _ c.loop-edit-test.false c.loop-edit.invariant }
