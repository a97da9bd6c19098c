-- The same text, or another one.
use Rattle.std.proofs.Common.{◌∙◌, ap, map, sym}
use Rattle.std.proofs.lemmas.Bool.{true≢false}
use Rattle.std.proofs.lemmas.Result.{IfOk-weaker}
use Rattle.tree_edits.specs.Documents.{edit_of}
use Rattle.rt_model.specs.Heard.{number_at}
use Rattle.rt_model.specs.Tree.{a_text}
use Rattle.run_places.specs.Places.{place_of, side_of}
use Rattle.run_places.proofs.Trails.{on_At}
use Rattle.rt_tree.proofs.MarkWrites.{other_text, same_text}
use Rattle.rt_tree.proofs.patch.Patch.text_changes.Goals as goal

pub returns-then-same : goal.returns-then-same
returns-then-same g c = λ app.
    ap (λ es. map edit_of es) c.new.ensures.empty
    ∙ same_text app c.args.self.now (place_of c.args.place.now) c.args.next.now c.args.was.now (c.same.ensures.same.0 c.if-same.true)

pub returns : goal.returns
returns g c =
    IfOk-weaker c.one_edit.result _ _
    (
    λ edits h app.
    ap (λ es. map edit_of es) h
    ∙ other_text app c.args.self.now (place_of c.args.place.now) c.args.next.now c.args.was.now c.in_ok-text.text c.number_on.result
    (λ same. true≢false (sym (c.same.ensures.same.1 same) ∙ c.if-same.false))
    (c.number_on.ensures ∙ ap (λ q. number_at (side_of c.args.self.now.old).numbers q a_text) (on_At _ ∙ ap place_of c.in_ok-steps.ensures.steps))
    c.in_ok-text.ensures.copy
    )
    c.one_edit.ensures
