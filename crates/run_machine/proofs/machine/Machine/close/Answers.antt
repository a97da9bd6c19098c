use Rattle.std.proofs.Common.{[], refl, sym, ap, ◌∙◌, subst, map}
use Rattle.std.proofs.lemmas.Result.{err_from_is_err_and}
use Rattle.run_reports.specs.Seen.{entry_of}
use Rattle.tree_edits.specs.Documents.{edit_of}
use Rattle.run_outside.specs.Short.{PartBy}
use Rattle.run_machine.specs.Writings.{AreEdits}
use Rattle.run_outside.proofs.Said.{if_ok_and, if_err}
use Rattle.run_outside.proofs.Sinks.{ends-run, grown-none}
use Rattle.run_machine.proofs.machine.Machine.close.Goals as goal

pub returns-in_err-edits-clause-err : goal.returns-in_err-edits-clause-err
returns-in_err-edits-clause-err g c =
    let p = err_from_is_err_and c.from_residual.result c.from_residual.ensures.1 in rw (p.1, p.2) (λ limits. ends-run limits _ _ _)

pub returns-clause-closes : goal.returns-clause-closes
returns-clause-closes g c =
    if_ok_and c.write_edits.result c.write_edits.ensures.count c.write_edits.ensures.told
    (
    λ count counted told.
    record {
      wrote = c.as_slice.result.now;
      told = told;
      counted = sym counted;
      are = subst (λ es. AreEdits (entry_of c.args.first) c.args.self.now es) (sym c.as_slice.ensures.items) c.in_ok-edits.ensures.edits;
    }
    )

pub returns-in_err-edits-clause-part : goal.returns-in_err-edits-clause-part
returns-in_err-edits-clause-part g c =
    let p = err_from_is_err_and c.from_residual.result c.from_residual.ensures.1 in
    rw (p.1, p.2) (record { wrote = []; told = grown-none (g.M.WriteMutations.taken c.args.sink.now); part = λ app lawful kept w remembers orderly. (_, refl) })

pub returns-clause-part : goal.returns-clause-part
returns-clause-part g c =
    if_err c.write_edits.result c.write_edits.ensures.part
    (
    λ ended h.
    record {
      wrote = h.wrote;
      told = h.told;
      part =
          λ app lawful kept w remembers orderly.
          subst (λ es. PartBy ended (map edit_of h.wrote) es)
          (ap (λ es. map edit_of es) c.as_slice.ensures.items ∙ c.in_ok-edits.ensures.edits app lawful kept w remembers orderly) h.part;
    }
    )
