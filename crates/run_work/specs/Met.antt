-- What is met of trees of code; and states that come of one another by what is met.
use Rattle.std.specs.Prelude.{ℕ, List, [], ◌∷◌, map, take, drop, ◌≡◌}
use Rattle.tree_nodes.specs.declared.vnode.VNode.{VNode}
use Rattle.rt_model.specs.OneLog.{types}
use Rattle.rt_model.specs.World.{Application}
use Rattle.rt_model.specs.Laws.{Tests}
use Rattle.rt_model.specs.Tree.{Place}
use Rattle.tree_mirror.specs.Mirror.{attribute_of, trees_from}
use Rattle.tree_mirror.specs.Sealed.{template_of, tree_of}
use Rattle.tree_marks.specs.Marks.{Mark, given, come_in, go_out}

-- one state comes of another one by these marks, each by what one says that it makes of it
abbrev pub Follows : {M S : Type 0} → (M → S → S → Type 0) → List M → S → S → Type 0
Follows one [] a b = b ≡ a
Follows {S = S} one (m ∷ ms) a c = (b : S) × one m a b × Follows one ms b c

module _ {C Q V H T E L : Type 0} where
  -- so it is by some marks, which are these whatever the application
  abbrev pub Meets : {S : Type 0} → (Mark (types C Q V H T E L) → S → S → Type 0) → S → S
      → (Application (types C Q V H T E L) → List (Mark (types C Q V H T E L))) → Type 0
  Meets one before now marks =
      (met : List (Mark (types C Q V H T E L))) × Follows one met before now
      × ((app : Application (types C Q V H T E L)) → Tests C app.same_component → met ≡ marks app)

module _ {P C Q V H T E L : Type 0} where
  -- a template stays: what the attribute slots of a new tree and an old one give
  abbrev pub template_gives : Place → VNode P C Q V H T E L → VNode P C Q V H T E L → Mark (types C Q V H T E L)
  template_gives above new old =
      given above (template_of new.template) (map (map attribute_of) new.dynamic_attrs) (map (map attribute_of) old.dynamic_attrs)

  -- items from a position on come behind those in front of them
  abbrev pub items_in : Place → ℕ → List (VNode P C Q V H T E L) → Mark (types C Q V H T E L)
  items_in place i trees = come_in place (map tree_of (take i trees)) i (trees_from (map tree_of (drop i trees)))

  -- items from a position on go
  abbrev pub items_out : Place → ℕ → List (VNode P C Q V H T E L) → Mark (types C Q V H T E L)
  items_out place i trees = go_out place i (trees_from (map tree_of (drop i trees)))
