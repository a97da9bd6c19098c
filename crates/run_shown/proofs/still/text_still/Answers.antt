-- One node, and its text where it is another one.
use Rattle.std.proofs.Common.{[], ◌∷◌, ap, refl, sym, ◌∙◌}
use Rattle.std.proofs.lemmas.Bool.{true≢false}
use Rattle.rt_model.specs.Document.{SetNodeText}
use Rattle.rt_model.specs.Tree.{a_text, node_at}
use Rattle.tree_nodes.specs.declared.vnode.DynamicNode.TheVariants as values
use Rattle.run_places.specs.Trails.{place_on}
use Rattle.run_shown.specs.Units.{slot_writes}
use Rattle.run_shown.proofs.SlotsWrite.{text_same}
use Rattle.run_shown.proofs.Stills.{one_still, text_still_other}
use Rattle.run_shown.proofs.still.text_still.Goals as goal

pub returns-then-same : goal.returns-then-same
returns-then-same g c =
    let b = c.args.sides.now in
    let place = place_on c.args.place.now in
    one_still b c.args.at c.in-Some.next place a_text (node_at place a_text ∷ []) c.args.edits.now (λ app. slot_writes app b place (values.Text c.args.text.now) (values.Text c.args.was.now)) c.in-Some.ensures.next refl
    (λ app. text_same app b place c.args.text.now c.args.was.now (c.same.ensures.same.0 c.if-same.true))

pub returns : goal.returns
returns g c =
    text_still_other c.args.sides.now c.args.at c.in-Some.next (place_on c.args.place.now) c.args.text.now c.args.was.now c.number_under-number.result _ c.args.edits.now c.push.new.self
    c.in-Some.ensures.next c.in-Some.ensures.apart (λ is. true≢false (sym (c.same.ensures.same.1 is) ∙ c.if-same.false)) c.number_under-number.ensures c.in_ok-push.ensures.ok
    (ap (λ copied. SetNodeText c.number_under-number.result copied) c.in_ok-copy.ensures.copy)
