-- The attributes passed are fresh.
use Rattle.std.proofs.Common.{◌∙◌, sym}
use Rattle.std.proofs.lemmas.List.{take_rest}
use Rattle.tree_nodes.specs.Names.{slot_names}
use Rattle.tree_fits.proofs.NamesLemmas.{distinct-next, distinct-stop}
use Rattle.tree_fits.proofs.names.all_differ.Goals as goal

pub returns-then-not-is_fresh : goal.returns-then-not-is_fresh
returns-then-not-is_fresh g c =
    sym (c.loop-at.invariant ∙ distinct-stop (slot_names c.args.slots.now) c.args.attrs.now c.loop-at.at _ c.loop-at-test.true c.index-attrs-at.is (sym (rw take_rest at c.is_fresh.ensures) ∙ c.if-not-is_fresh.true))

pub loop-at-preserved : goal.loop-at-preserved
loop-at-preserved g c =
    c.loop-at.invariant ∙ distinct-next (slot_names c.args.slots.now) c.args.attrs.now c.loop-at.at _ c.loop-at-test.true c.index-attrs-at.is (sym (rw take_rest at c.is_fresh.ensures) ∙ c.if-not-is_fresh.false)
