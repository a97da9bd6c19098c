-- A tree fits where it does without its slots, and what stands in them does.
use Rattle.std.proofs.Common.{◌≡◌, ℕ, suc, ◌+◌, ◌-◌, ◌<◌, List, [], ◌∷◌, length, get_or, drop, map, true, false, sym, ◌∙◌, ap, add-one, drop-cons}
use Rattle.std.proofs.lemmas.List.{length-map}
use Rattle.std.specs.Prelude.{◌&&◌}
use Rattle.tree_nodes.specs.BlockTest.{block_fits}
use Rattle.tree_nodes.specs.NodeTest.{Test, fits_within, node_fits_within, slots_fit, node_step, component_step, error_boundary_step, fragment_step, suspense_boundary_step, tree_step}
use Rattle.tree_nodes.specs.declared.vnode.VNode.{VNode}
use Rattle.tree_nodes.specs.declared.vnode.DynamicNode.{DynamicNode}
use Rattle.tree_nodes.specs.declared.vnode.DynamicNode.TheFolds.{fold_out-VNode}

module _ {P Component Props Value Handler TaskState Effect Payload : Type 0} where
  -- a tree fits where it does without its slots, and what stands in them does
  pub fits-out : (tree : VNode P Component Props Value Handler TaskState Effect Payload) (levels : ℕ) → fits_within tree levels ≡
      (block_fits tree.template (length tree.dynamic_nodes) tree.dynamic_attrs levels && slots_fit tree.template.node_paths 0 (map node_fits_within tree.dynamic_nodes) levels)
  fits-out tree levels = let h = fold_out-VNode P Component Props Value Handler TaskState Effect Payload Test Test Test Test Test Test node_step component_step error_boundary_step fragment_step suspense_boundary_step tree_step tree in
      ap (λ (f : Test). f levels) h ∙
      ap (λ n. block_fits tree.template n tree.dynamic_attrs levels && slots_fit tree.template.node_paths 0 (map node_fits_within tree.dynamic_nodes) levels) (length-map tree.dynamic_nodes node_fits_within)

  slots_fit-drop : (paths : List (List ℕ)) (nodes : List (DynamicNode P Component Props Value Handler TaskState Effect Payload)) (k : ℕ) (x : DynamicNode P Component Props Value Handler TaskState Effect Payload) (levels : ℕ)
      → k < length nodes → x ≡ get_or nodes k x
      → slots_fit paths k (map node_fits_within (drop k nodes)) levels ≡
      (node_fits_within x (levels - length (get_or paths k [])) && slots_fit paths (k + 1) (map node_fits_within (drop (k + 1) nodes)) levels)
  slots_fit-drop paths nodes k x levels within read =
      let e : drop k nodes ≡ x ∷ drop (k + 1) nodes = rw (add-one, drop-cons nodes k x) (ap (λ y. y ∷ drop (suc k) nodes) (sym read)) in
      ap (λ ns. slots_fit paths k (map node_fits_within ns) levels) e

  -- the value of a slot that does not fit
  pub slots_fit-stop : (paths : List (List ℕ)) (nodes : List (DynamicNode P Component Props Value Handler TaskState Effect Payload)) (k : ℕ) (x : DynamicNode P Component Props Value Handler TaskState Effect Payload) (levels : ℕ)
      → k < length nodes → x ≡ get_or nodes k x → node_fits_within x (levels - length (get_or paths k [])) ≡ false
      → slots_fit paths k (map node_fits_within (drop k nodes)) levels ≡ false
  slots_fit-stop paths nodes k x levels within read one =
      slots_fit-drop paths nodes k x levels within read ∙ ap (λ b. b && slots_fit paths (k + 1) (map node_fits_within (drop (k + 1) nodes)) levels) one

  -- the value of a slot that fits
  pub slots_fit-next : (paths : List (List ℕ)) (nodes : List (DynamicNode P Component Props Value Handler TaskState Effect Payload)) (k : ℕ) (x : DynamicNode P Component Props Value Handler TaskState Effect Payload) (levels : ℕ)
      → k < length nodes → x ≡ get_or nodes k x → node_fits_within x (levels - length (get_or paths k [])) ≡ true
      → slots_fit paths k (map node_fits_within (drop k nodes)) levels ≡ slots_fit paths (k + 1) (map node_fits_within (drop (k + 1) nodes)) levels
  slots_fit-next paths nodes k x levels within read one =
      slots_fit-drop paths nodes k x levels within read ∙ ap (λ b. b && slots_fit paths (k + 1) (map node_fits_within (drop (k + 1) nodes)) levels) one
