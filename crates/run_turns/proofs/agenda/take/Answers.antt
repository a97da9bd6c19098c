use Rattle.std.proofs.Common.{rules, []}
use Rattle.std.proofs.lemmas.Result.{err_from_is_err_and}
use Rattle.rt_model.specs.Removal.{removed}
use Rattle.rt_model.specs.State.{Drop}
use Rattle.run_places.specs.Places.{side_name_of}
use Rattle.run_state.specs.Mirror.{state_of}
use Rattle.law_moves.specs.Turn.{turn_of}
use Rattle.run_turns.proofs.Counting.{change_as, on_done, take_calls}
use Rattle.run_turns.proofs.Arms.{noted_any, noted_one_as, take_cut, take_done, gone_entry}
use Rattle.run_turns.proofs.agenda.take.Goals as goal

pub returns-in_err-remove_leaf-clause-turned : goal.returns-in_err-remove_leaf-clause-turned
returns-in_err-remove_leaf-clause-turned g c =
    λ kept.
    let cut = c.in_err-remove_leaf.ensures.removed kept in
    let p = err_from_is_err_and c.from_residual-in_err-remove_leaf.result c.from_residual-in_err-remove_leaf.ensures.1 in
    rw (p.1, p.2) (cut.0, take_cut (g.A.App.meaning c.args.app.now) (state_of kept c.args.scopes.now.state) c.args.child c.args.scope (side_name_of c.args.side) c.args.leaf _ _ (c.requires.leaf kept) cut.1)

pub returns-in_err-remove_leaf-clause-noted : goal.returns-in_err-remove_leaf-clause-noted
returns-in_err-remove_leaf-clause-noted g c =
    λ kept.
    noted_any c.args.course.now.entries c.note.new.self.entries _ c.from_residual-in_err-remove_leaf.result
    (noted_one_as _ _ _ _ c.in_ok-note.ensures.ok (gone_entry (state_of kept c.args.scopes.now.state) c.args.child c.args.leaf (c.requires.leaf kept)))

pub returns-clause-turned : goal.returns-clause-turned
returns-clause-turned g c =
    λ kept.
    let done = c.in_ok-remove_leaf.ensures.removed kept in (
      done.0,
      take_done (g.A.App.meaning c.args.app.now) (state_of kept c.args.scopes.now.state) c.args.child c.args.scope (side_name_of c.args.side) c.args.leaf _ _ (c.requires.leaf kept) done.1 c.in_ok-drop_again.ensures,
    )

pub returns-clause-noted : goal.returns-clause-noted
returns-clause-noted g c =
    λ kept. noted_one_as _ _ _ _ c.in_ok-note.ensures.ok (gone_entry (state_of kept c.args.scopes.now.state) c.args.child c.args.leaf (c.requires.leaf kept))

pub returns-in_err-note-clause-turned : goal.returns-in_err-note-clause-turned
returns-in_err-note-clause-turned g c = λ kept. (kept, search rules)

pub returns-in_err-drop_again-clause-turned : goal.returns-in_err-drop_again-clause-turned
returns-in_err-drop_again-clause-turned g c = λ kept. (kept, search rules)

pub returns-clause-counted : goal.returns-clause-counted
returns-clause-counted g c =
    let app = g.A.App.meaning c.args.app.now in
    change_as (λ w. turn_of app w (Drop c.args.child c.args.scope (side_name_of c.args.side))) (λ w. removed app w c.args.leaf)
    c.args.scopes.now.state c.args.scopes.now.state c.args.calls.now c.remove_leaf.new.calls
    (λ kept. take_calls app (state_of kept c.args.scopes.now.state) c.args.child c.args.scope (side_name_of c.args.side) c.args.leaf (c.requires.leaf kept))
    (on_done (λ w. removed app w c.args.leaf) c.args.scopes.now.state c.remove_leaf.new.self.state c.args.calls.now c.remove_leaf.new.calls [] c.in_ok-remove_leaf.ensures.removed)
