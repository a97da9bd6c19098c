-- A tree fits where what stands in its slots does.
use Rattle.std.proofs.Common.{arith, ◌≡◌, ◌∙◌, ◌<◌, ◌-◌, sym, ap, length, map, get_or, true, false, []}
use Rattle.std.specs.Prelude.{◌&&◌}
use Rattle.tree_nodes.specs.NodeTest.{node_fits_within, slots_fit}
use Rattle.tree_fits.proofs.NodeTestLemmas.{fits-out, slots_fit-next, slots_fit-stop}
use Rattle.tree_fits.proofs.node_test.+fits.Goals as goal

pub tree_fits-loop-slot-init : goal.tree_fits-loop-slot-init
tree_fits-loop-slot-init g t c =
    fits-out c.args.tree.now c.args.levels ∙
    ap (λ b. b && slots_fit c.args.tree.now.template.node_paths 0 (map node_fits_within c.args.tree.now.dynamic_nodes) c.args.levels) (sym c.is_block.ensures ∙ c.if-not-is_block.false)

pub tree_fits-returns-then-not-node_fits : goal.tree_fits-returns-then-not-node_fits
tree_fits-returns-then-not-node_fits g t c =
    let within : c.loop-slot.slot < length c.args.tree.now.dynamic_nodes = omega (arith, ap length c.as_slice-node-items.ensures.items) in
    let read : c.node-item.result ≡ get_or c.args.tree.now.dynamic_nodes c.loop-slot.slot c.node-item.result = cc in
    let refused : node_fits_within c.node-item.result (c.args.levels - length (get_or c.args.tree.now.template.node_paths c.loop-slot.slot [])) ≡ false = cc in
    sym (c.loop-slot.invariant ∙ slots_fit-stop c.args.tree.now.template.node_paths c.args.tree.now.dynamic_nodes c.loop-slot.slot c.node-item.result c.args.levels within read refused)

pub tree_fits-loop-slot-preserved : goal.tree_fits-loop-slot-preserved
tree_fits-loop-slot-preserved g t c =
    let within : c.loop-slot.slot < length c.args.tree.now.dynamic_nodes = omega (arith, ap length c.as_slice-node-items.ensures.items) in
    let read : c.node-item.result ≡ get_or c.args.tree.now.dynamic_nodes c.loop-slot.slot c.node-item.result = cc in
    let taken : node_fits_within c.node-item.result (c.args.levels - length (get_or c.args.tree.now.template.node_paths c.loop-slot.slot [])) ≡ true = cc in
    c.loop-slot.invariant ∙ slots_fit-next c.args.tree.now.template.node_paths c.args.tree.now.dynamic_nodes c.loop-slot.slot c.node-item.result c.args.levels within read taken
