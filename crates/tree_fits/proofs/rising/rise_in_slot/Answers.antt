-- One name more, or one that doesn't ascend.
use Rattle.std.proofs.Common.{rules, refl, ◌∙◌, sym, ap}
use Rattle.std.specs.Prelude.{option_map}
use Rattle.tree_fits.proofs.RisingLemmas.{slot-end, slot-rise, slot-stop}
use Rattle.tree_fits.proofs.rising.rise_in_slot.Goals as goal

pub loop-attribute-init : goal.loop-attribute-init
loop-attribute-init g c = (c.utf8.last, refl)

pub returns-in_err-last : goal.returns-in_err-last
returns-in_err-last g c =
    ap (option_map (λ last. last.now)) c.from_residual.ensures ∙
    sym (slot-stop c.args.slot.now _ c.loop-attribute.attribute-index _ c.loop-attribute-test.true c.attribute-item.is
    (sym c.rise_to.ensures ∙ ap (option_map (λ last. last.now)) c.in_err-last.was)) ∙
    c.loop-attribute.invariant.1

pub loop-attribute-preserved : goal.loop-attribute-preserved
loop-attribute-preserved g c = (
  search rules,
  sym (slot-rise c.args.slot.now _ _ c.loop-attribute.attribute-index _ c.loop-attribute-test.true c.attribute-item.is
      (sym c.rise_to.ensures ∙ ap (option_map (λ last. last.now)) c.in_ok-last.was)) ∙
      c.loop-attribute.invariant.1,
)

pub returns : goal.returns
returns g c = slot-end c.args.slot.now _ c.loop-attribute.attribute-index c.loop-attribute-test.false ∙ c.loop-attribute.invariant.1
