use Rattle.std.proofs.Common.{◌∙◌, ◌∷◌, [], Err, length, ap, sym}
use Rattle.std.specs.Prelude.{Some}
use Rattle.std.proofs.lemmas.Result.{err_from_is_err_and}
use Rattle.run_reports.specs.Seen.{entry_of}
use Rattle.run_state.specs.Names.{work_of as model_work}
use Rattle.run_state.specs.Mirror.{state_of}
use Rattle.law_moves.specs.Turn.{entry_for, unit_of}
use Rattle.run_work.specs.Items.{work_of}
use Rattle.run_turns.proofs.Arms.{noted_any, noted_one_as}
use Rattle.run_standing.proofs.Framed.{length_each}
use Rattle.run_machine.proofs.Stacks.{stack_is}
use Rattle.run_machine.proofs.Steps.{did_cut, begun_remembers, done_state}
use Rattle.run_machine.proofs.machine.Machine.begin_unit.Goals as goal

pub returns-in_err-items-clause-begins : goal.returns-in_err-items-clause-begins
returns-in_err-items-clause-begins g c =
    λ kept.
    let came = c.in_err-items.ensures.done kept in
    let p = err_from_is_err_and c.from_residual-in_err-items.result c.from_residual-in_err-items.ensures.1 in
    rw (p.1, p.2)
    (did_cut (g.A.App.meaning c.args.app.now) (unit_of (g.A.App.meaning c.args.app.now) (state_of kept c.args.self.now.scopes.state) (model_work c.args.work)) (entry_for (model_work c.args.work) ∷ []) c.args.self.now
    (record c.args.self.now { scopes = c.first_step.new.scopes; course = c.note.new.self; first = Some c.entry_for-entry.result; stood = c.first_kept.new.stood; lived = length c.as_slice.result.now })
    came.0 c.in_err-items.field-0.0 came.1
    (noted_any {A = Unit {0}} c.args.self.now.course.entries c.note.new.self.entries (entry_for (model_work c.args.work) ∷ []) (Err c.in_err-items.field-0.0) (noted_one_as _ _ _ _ c.in_ok-note.ensures.ok (ap (λ e. e ∷ []) (sym c.entry_for-entry.ensures.entry)))))

pub returns-clause-begins : goal.returns-clause-begins
returns-clause-begins g c =
    λ kept.
    let came = c.in_ok-items.ensures.done kept in
    record {
      kept = came.0;
      work = work_of c.in_ok-items.items;
      done = came.1;
      open_is = stack_is _ _ c.in_ok-items.items c.in_ok-stack.ensures;
      logged = noted_one_as _ _ _ _ c.in_ok-note.ensures.ok (ap (λ e. e ∷ []) (sym c.entry_for-entry.ensures.entry));
    }

pub returns-clause-first : goal.returns-clause-first
returns-clause-first g c = ap (λ e. Some e) c.entry_for-entry.ensures.entry

pub returns-clause-remembers : goal.returns-clause-remembers
returns-clause-remembers g c =
    λ kept.
    let came = c.in_ok-items.ensures.done kept in
    begun_remembers (g.A.App.meaning c.args.app.now) (model_work c.args.work) (entry_of c.entry_for-entry.result) c.args.self.now
    (record c.args.self.now { scopes = c.first_step.new.scopes; course = c.note.new.self; stood = c.first_kept.new.stood; lived = length c.as_slice.result.now; first = Some c.entry_for-entry.result; work = c.stack.new.onto })
    kept came.0 c.entry_for-entry.ensures.entry c.in_ok-first_kept.ensures
    (ap (λ xs. length xs) c.as_slice.ensures.rows ∙ sym (length_each _)) (done_state _ _ _ came.1)

pub returns-clause-counted : goal.returns-clause-counted
returns-clause-counted g c = c.in_ok-items.ensures.counted
