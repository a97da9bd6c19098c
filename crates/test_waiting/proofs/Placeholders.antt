-- A placeholder that a body answers, as the definitions have it.
use Rattle.std.proofs.Common.{◌≡◌, [], ◌∷◌, refl, sym, ap, ◌∙◌}
use Rattle.std.specs.Prelude.{Result, Ok}
use Rattle.tree_mirror.specs.Mirror as plain
use Rattle.tree_mirror.specs.Mirror.{element_of}
use Rattle.tree_mirror.specs.Sealed as mirror
use Rattle.tree_mirror.proofs.SealedNodes.{before_Dynamic}
use Rattle.tree_mirror.proofs.SealedTrees.{slot_Placeholder, tree_out}
use Rattle.rt_model.specs.OneLog.{types}
use Rattle.rt_model.specs.Tree as model
use Rattle.rt_model.specs.Tree.{no_nodes, block, more_slots, no_slots, rendered}
use Rattle.tree_nodes.specs.Shown.{placeholder_tree}
use Rattle.tree_nodes.specs.declared.vnode.VNode.{VNode}
use Rattle.tree_nodes.specs.declared.error.RenderError.{RenderError}

module _ {P C Q V H T E L : Type 0} where
  plainly : (t : VNode P C Q V H T E L) → mirror.tree_of t ≡ plain.tree_of t
  unfolding mirror.tree_of
  plainly t = refl

  -- the tree that is one placeholder
  mirrored : (t : VNode P C Q V H T E L) → t ≡ placeholder_tree → model.placeholder_tree {K = types C Q V H T E L} ≡ plain.tree_of t
  mirrored t is =
      let one : VNode P C Q V H T E L = placeholder_tree in
      sym
      ((λ i. plain.tree_of (is i))
      ∙ sym (plainly one)
      ∙ tree_out one
      ∙ (λ i. block (record { roots = before_Dynamic 0 no_nodes i; node_paths = (0 ∷ []) ∷ []; attribute_paths = [] }) [] (more_slots (slot_Placeholder P i) no_slots)))

  -- an answer that is this tree shows it
  pub shows_nothing : (e : Result (VNode P C Q V H T E L) RenderError) → e ≡ Ok placeholder_tree
      → rendered (model.placeholder_tree {K = types C Q V H T E L}) ≡ element_of e
  shows_nothing e is =
      let one : VNode P C Q V H T E L = placeholder_tree in
      ap (λ (t : model.Tree (types C Q V H T E L)). rendered t) (mirrored one refl) ∙ ap element_of (sym is)
