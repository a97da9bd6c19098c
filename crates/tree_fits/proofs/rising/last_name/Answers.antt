-- One attribute's names more, or one that doesn't ascend.
use Rattle.std.proofs.Common.{rules, refl, ◌∙◌, sym, ap}
use Rattle.std.specs.Prelude.{option_map}
use Rattle.tree_nodes.specs.Names.{slot_names}
use Rattle.tree_fits.proofs.RisingLemmas.{rise-end, rise-next, rise-stop}
use Rattle.tree_fits.proofs.rising.last_name.Goals as goal

pub loop-attr-init : goal.loop-attr-init
loop-attr-init g c = (search rules, refl)

pub returns-in_err-last : goal.returns-in_err-last
returns-in_err-last g c =
    ap (option_map (λ last. last.now)) c.from_residual.ensures ∙
    sym (rise-stop (slot_names c.args.slots.now) c.args.attrs.now _ c.loop-attr.attr-index _ c.loop-attr-test.true c.attr-item.is
    (sym c.rise.ensures ∙ ap (option_map (λ last. last.now)) c.in_err-last.was)) ∙
    c.loop-attr.invariant.1

pub loop-attr-preserved : goal.loop-attr-preserved
loop-attr-preserved g c = (
  search rules,
  sym (rise-next (slot_names c.args.slots.now) c.args.attrs.now _ _ c.loop-attr.attr-index _ c.loop-attr-test.true c.attr-item.is
      (sym c.rise.ensures ∙ ap (option_map (λ last. last.now)) c.in_ok-last.was)) ∙
      c.loop-attr.invariant.1,
)

pub returns : goal.returns
returns g c =
    rise-end (slot_names c.args.slots.now) c.args.attrs.now _ c.loop-attr.attr-index c.loop-attr-test.false ∙ c.loop-attr.invariant.1
