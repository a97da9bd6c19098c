-- Trees of which the same comes have the same spots.
use Rattle.std.proofs.Common.{List, [], ◌∷◌, ◌≡◌, map, refl}
use Rattle.tree_nodes.specs.declared.vnode.VNode.{VNode}
use Rattle.rt_model.specs.OneLog.{types}
use Rattle.rt_model.specs.Tree.{Types, Spot, node_at, component_at, spots}
use Rattle.tree_mirror.specs.Sealed.{tree_of}
use Rattle.run_places.specs.Spots.{tree_spots}
use Rattle.tree_marks.specs.Marks.{come}
use Rattle.run_work.specs.declared.turning.Turn.TheVariants as turns
use Rattle.run_work.specs.Grounds.{tree_turn}

module _ {K : Types} where
  -- what comes tells where it stands
  come_apart : (xs ys : List (Spot K)) → map come xs ≡ map come ys → xs ≡ ys
  come_apart [] [] h = refl
  come_apart [] (y ∷ ys) h = cc h
  come_apart (x ∷ xs) [] h = cc h
  come_apart (node_at p k ∷ xs) (node_at q l ∷ ys) h =
      let first : ◌≡◌ {A = Spot K} (node_at p k) (node_at q l) = cc h in
      let others : map come xs ≡ map come ys = cc h in
      (λ t. first t ∷ come_apart xs ys others t)
  come_apart (node_at p k ∷ xs) (component_at q d ∷ ys) h = cc h
  come_apart (component_at p c ∷ xs) (node_at q l ∷ ys) h = cc h
  come_apart (component_at p c ∷ xs) (component_at q d ∷ ys) h =
      let first : ◌≡◌ {A = Spot K} (component_at p c) (component_at q d) = cc h in
      let others : map come xs ≡ map come ys = cc h in
      (λ t. first t ∷ come_apart xs ys others t)

module _ {P C Q V H T E L : Type 0} where
  -- trees of which the same comes at the root
  pub alike_spots : (old new : VNode P C Q V H T E L) → tree_turn turns.Comes [] old ≡ tree_turn turns.Comes [] new → spots [] (tree_of old) ≡ spots [] (tree_of new)
  unfolding tree_turn tree_spots
  alike_spots old new h = come_apart (spots [] (tree_of old)) (spots [] (tree_of new)) h
