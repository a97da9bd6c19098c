use Rattle.std.proofs.Common.{◌∙◌, ◌++◌, ap, sym, map}
use Rattle.std.specs.Prelude.{Some}
use Rattle.run_reports.specs.Seen.{entry_of}
use Rattle.rt_model.specs.State as model
use Rattle.tree_mirror.specs.Sealed.{component_of}
use Rattle.run_state.specs.Mirror.{state_of}
use Rattle.run_work.specs.Items.{work_of}
use Rattle.run_turns.specs.Counting.{calls_after}
use Rattle.run_turns.specs.Fed.{fed_entries, fed_outcome}
use Rattle.run_turns.proofs.Arms.{came_as, noted_as, noted_none}
use Rattle.run_turns.proofs.Counting.{change_silent, on_as}
use Rattle.run_turns.proofs.agenda.feed.Goals as goal

pub returns-in-Some-clause-fed : goal.returns-in-Some-clause-fed
returns-in-Some-clause-fed g c =
    λ kept.
    let came = c.hand.ensures.handed kept in
    (came.0, came_as _ _ _ _ _ (ap (λ o. fed_outcome (g.A.App.meaning c.args.app.now) (state_of kept c.args.scopes.now.state) (component_of c.args.component.now) o) c.in-Some.is) came.1)

pub returns-in-Some-clause-noted : goal.returns-in-Some-clause-noted
returns-in-Some-clause-noted g c =
    noted_as c.args.course.now.entries c.hand.new.course.entries _ _ c.hand.result (ap (λ o. fed_entries o) c.in-Some.is) c.hand.ensures.noted

pub returns-in-None-clause-fed : goal.returns-in-None-clause-fed
returns-in-None-clause-fed g c =
    λ kept. (
      kept,
      ap (λ o. fed_outcome (g.A.App.meaning c.args.app.now) (state_of kept c.args.scopes.now.state) (component_of c.args.component.now) o) c.in-None.is
          ∙ ap (λ xs. model.Done (state_of kept c.args.scopes.now.state) (work_of xs)) (sym c.new.ensures.empty),
    )

pub returns-in-None-clause-noted : goal.returns-in-None-clause-noted
returns-in-None-clause-noted g c =
    noted_none c.args.course.now.entries
    ∙ ap (λ xs. map entry_of c.args.course.now.entries ++ xs) (sym (ap (λ o. fed_entries o) c.in-None.is))

pub returns-in-Some-clause-counted : goal.returns-in-Some-clause-counted
returns-in-Some-clause-counted g c =
    let app = g.A.App.meaning c.args.app.now in
    on_as (λ w. fed_outcome app w (component_of c.args.component.now) c.args.fed) (λ w. fed_outcome app w (component_of c.args.component.now) (Some (c.in-Some.fed.0, c.in-Some.fed.1)))
    c.args.scopes.now.state c.args.scopes.now.state c.args.calls.now c.hand.new.calls c.hand.result
    (λ kept. sym (ap (λ o. fed_outcome app (state_of kept c.args.scopes.now.state) (component_of c.args.component.now) o) c.in-Some.is))
    c.hand.ensures.counted

pub returns-in-None-clause-counted : goal.returns-in-None-clause-counted
returns-in-None-clause-counted g c =
    let app = g.A.App.meaning c.args.app.now in
    change_silent (λ w. fed_outcome app w (component_of c.args.component.now) c.args.fed) c.args.scopes.now.state c.args.calls.now
    (λ kept. ap (λ o. calls_after (fed_outcome app (state_of kept c.args.scopes.now.state) (component_of c.args.component.now) o)) c.in-None.is)
