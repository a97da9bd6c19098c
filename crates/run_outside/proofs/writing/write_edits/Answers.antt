use Rattle.std.proofs.Common.{◌∙◌, ◌∷◌, [], ◌++◌, ◌+◌, refl, ap, sym, drop, arith, append_assoc, append-nil}
use Rattle.std.proofs.Math.ListN.{drop_of_length-le}
use Rattle.rt_edits.specs.Sinks.{grown}
use Rattle.std.proofs.lemmas.Result.{err_from_is_err_and}
use Rattle.run_outside.proofs.Parts.{wrote_before}
use Rattle.run_outside.proofs.Sinks.{grown-none, grown-twice, took-none, took-more, took-ends, ends-low}
use Rattle.run_outside.proofs.Waiting.{next_drop}
use Rattle.run_outside.proofs.writing.write_edits.Goals as goal

pub loop-edit-init : goal.loop-edit-init
loop-edit-init g c = (took-none _ _, omega arith, ([], refl, grown-none (g.M.WriteMutations.taken c.args.sink.now)))

pub returns-in_err-write_edit-clause-err : goal.returns-in_err-write_edit-clause-err
returns-in_err-write_edit-clause-err g c =
    let p = err_from_is_err_and c.from_residual.result c.from_residual.ensures.1 in
    rw (p.1, p.2)
    (λ limits. ends-low limits _ _ _ _ _ _ (took-ends limits _ _ _ _ _ _ _ 0 _ c.loop-edit.invariant.0 (c.in_err-write_edit.ensures.err limits)))

pub returns-in_err-write_edit-clause-part : goal.returns-in_err-write_edit-clause-part
returns-in_err-write_edit-clause-part g c =
    let p = err_from_is_err_and c.from_residual.result c.from_residual.ensures.1 in
    let on = c.loop-edit.invariant.2 in
    rw (p.1, p.2)
    (wrote_before c.args.edits.now on.0 (drop (c.loop-edit.edit-index + 1) c.args.edits.now) c.edit-item.result
    (g.M.WriteMutations.taken c.args.sink.now) (g.M.WriteMutations.taken c.loop-edit.sink) (g.M.WriteMutations.taken c.write_edit.new.sink) c.in_err-write_edit.field-0.0
    (ap (λ xs. on.0 ++ xs) (sym (next_drop c.args.edits.now c.loop-edit.edit-index c.edit-item.result c.loop-edit-test.true c.edit-item.is)) ∙ on.1)
    on.2 c.in_err-write_edit.ensures.left)

pub loop-edit-preserved : goal.loop-edit-preserved
loop-edit-preserved g c =
    let on = c.loop-edit.invariant.2 in (
      took-more _ _ _ _ _ _ _ _ c.loop-edit.invariant.0 c.in_ok-write_edit.ensures.ok,
      omega arith,
      (
        on.0 ++ c.edit-item.result ∷ [],
        append_assoc on.0 (c.edit-item.result ∷ []) (drop (c.loop-edit.edit-index + 1) c.args.edits.now)
            ∙ ap (λ xs. on.0 ++ xs) (sym (next_drop c.args.edits.now c.loop-edit.edit-index c.edit-item.result c.loop-edit-test.true c.edit-item.is))
            ∙ on.1,
        c.in_ok-write_edit.ensures.told ∙ ap (λ o. grown o (c.edit-item.result ∷ [])) on.2 ∙ grown-twice (g.M.WriteMutations.taken c.args.sink.now) on.0 (c.edit-item.result ∷ []),
      ),
    )

pub returns-clause-told : goal.returns-clause-told
returns-clause-told g c =
    let on = c.loop-edit.invariant.2 in
    on.2
    ∙ ap (λ xs. grown (g.M.WriteMutations.taken c.args.sink.now) xs)
    (sym (append-nil on.0) ∙ ap (λ xs. on.0 ++ xs) (sym (drop_of_length-le c.args.edits.now c.loop-edit-test.false)) ∙ on.1)
