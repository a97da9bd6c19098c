use Rattle.std.proofs.Common.{[], refl, sym, ap, ◌∙◌, subst, map}
use Rattle.std.proofs.lemmas.Result.{err_from_is_err_and}
use Rattle.run_work.specs.Items.{item_of}
use Rattle.tree_edits.specs.Documents.{edit_of}
use Rattle.run_outside.specs.Short.{PartBy}
use Rattle.run_machine.specs.Writings.{AreEditsUntil}
use Rattle.run_outside.proofs.Said.{on_ok, if_err}
use Rattle.run_outside.proofs.Sinks.{ends-run, grown-none}
use Rattle.run_machine.proofs.machine.Machine.write_until.Goals as goal

pub returns-in_err-edits-clause-err : goal.returns-in_err-edits-clause-err
returns-in_err-edits-clause-err g c =
    let p = err_from_is_err_and c.from_residual.result c.from_residual.ensures.1 in rw (p.1, p.2) (λ limits. ends-run limits _ _ _)

pub returns-clause-wrote : goal.returns-clause-wrote
returns-clause-wrote g c =
    on_ok c.write_edits.result c.write_edits.ensures.told
    (
    λ told.
    record {
      wrote = c.as_slice.result.now;
      told = told;
      are = subst (λ es. AreEditsUntil (item_of c.args.refused.now) c.args.self.now es) (sym c.as_slice.ensures.items) c.in_ok-edits.ensures;
    }
    )

pub returns-in_err-edits-clause-part : goal.returns-in_err-edits-clause-part
returns-in_err-edits-clause-part g c =
    let p = err_from_is_err_and c.from_residual.result c.from_residual.ensures.1 in
    rw (p.1, p.2) (record { wrote = []; told = grown-none (g.M.WriteMutations.taken c.args.sink.now); part = λ app lawful first at kept w remembers. (_, refl) })

pub returns-clause-part : goal.returns-clause-part
returns-clause-part g c =
    if_err c.write_edits.result c.write_edits.ensures.part
    (
    λ ended h.
    record {
      wrote = h.wrote;
      told = h.told;
      part =
          λ app lawful first at kept w remembers.
          subst (λ es. PartBy ended (map edit_of h.wrote) es)
          (ap (λ es. map edit_of es) c.as_slice.ensures.items ∙ c.in_ok-edits.ensures first at app lawful kept w remembers) h.part;
    }
    )
