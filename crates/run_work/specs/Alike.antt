-- Trees that stand alike: what comes of the one comes of the other, wherever they stand.
use Rattle.std.specs.Prelude.{List, [], ◌∷◌, ◌≡◌, ⊤}
use Rattle.tree_nodes.specs.declared.vnode.VNode.{VNode}
use Rattle.tree_nodes.specs.declared.vnode.DynamicNode.{DynamicNode}
use Rattle.rt_model.specs.Tree.{Place}
use Rattle.run_work.specs.declared.turning.Turn.TheVariants as turns
use Rattle.run_work.specs.Grounds.{tree_turn, value_turn}

module _ {P C Q V H T E L : Type 0} where
  -- two trees
  abbrev pub AlikeTree : VNode P C Q V H T E L → VNode P C Q V H T E L → Type 0
  AlikeTree old new = (above : Place) → tree_turn turns.Comes above old ≡ tree_turn turns.Comes above new

  -- as many trees, each like the other
  abbrev pub AlikeTrees : List (VNode P C Q V H T E L) → List (VNode P C Q V H T E L) → Type 0
  AlikeTrees [] [] = ⊤
  AlikeTrees (x ∷ xs) (y ∷ ys) = AlikeTree x y × AlikeTrees xs ys
  AlikeTrees _ _ = ⊥

  -- what stands in two slots
  abbrev pub AlikeValue : DynamicNode P C Q V H T E L → DynamicNode P C Q V H T E L → Type 0
  AlikeValue old new = (place : Place) → value_turn turns.Comes old place ≡ value_turn turns.Comes new place

  -- as many slots, each like the other
  abbrev pub AlikeValues : List (DynamicNode P C Q V H T E L) → List (DynamicNode P C Q V H T E L) → Type 0
  AlikeValues [] [] = ⊤
  AlikeValues (v ∷ vs) (w ∷ ws) = AlikeValue v w × AlikeValues vs ws
  AlikeValues _ _ = ⊥
