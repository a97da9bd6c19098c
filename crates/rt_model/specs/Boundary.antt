-- The steps of a suspense boundary's run.
use Rattle.std.specs.Prelude.{ℕ, Bool, true, false, List, [], ◌∷◌, ◌++◌, Option, Some, None, if◌then◌else◌}
use Rattle.rt_model.specs.Lists.{at, without, drop_number}
use Rattle.rt_model.specs.Tree.{Types, Tree, placeholder_tree, VComponent, Own, Root, Fragment, ErrorBoundary, SuspenseBoundary, Element, rendered, failed, suspended, Place, Spot, node_at, component_at}
use Rattle.rt_model.specs.World.{Application}
use Rattle.rt_model.specs.State.{SideName, ChildrenSide, FallbackSide, RowStep, PatchChildren, MadeChildren, RunFallback, ShowFallback, ShowChildren, DropFallback, Resolve, Side, Scope, State, Item, Drop, Outcome, Done, onward, empty_side, is_live, change, is_held}
use Rattle.rt_model.specs.Run.{spots_of, child_at, raised, row_items, acted, after_hooks, call_body, start_agenda}

module _ {K : Types} where
  -- the tree of an element, or one placeholder
  abbrev pub tree_or_placeholder : Element K → Tree K
  tree_or_placeholder (rendered tree) = tree
  tree_or_placeholder (failed error) = placeholder_tree
  tree_or_placeholder (suspended origin task) = placeholder_tree

  -- the tree of a suspense boundary's children
  abbrev pub children_of : VComponent K → Tree K
  children_of (SuspenseBoundary children fallback) = tree_or_placeholder children
  children_of (Own component props) = placeholder_tree
  children_of (Root component props) = placeholder_tree
  children_of (Fragment children) = placeholder_tree
  children_of (ErrorBoundary children handler) = placeholder_tree

  -- a tree that a fallback with a component answers raises the render count
  abbrev pub counts_render : VComponent K → Element K → Bool
  counts_render (SuspenseBoundary children (Some f)) (rendered tree) = true
  counts_render _ _ = false

  -- a child scope, where there is one and it is live
  abbrev pub live_child : State K → Option ℕ → List ℕ
  live_child w None = []
  live_child w (Some t) = if is_live w t then t ∷ [] else []

  -- the child scopes of these spots, in tree order
  abbrev pub children_among : State K → List (Place × ℕ) → List (Spot K) → List ℕ
  children_among w children [] = []
  children_among w children (node_at p k ∷ ss) = children_among w children ss
  children_among w children (component_at p c ∷ ss) = live_child w (child_at children p) ++ children_among w children ss

  -- the child scopes of a side in tree order
  abbrev pub side_scopes : State K → Side K → List ℕ
  side_scopes w side = children_among w side.children (spots_of side.output)

  -- each child of a side is dropped
  abbrev pub drop_items : ℕ → SideName → List ℕ → List (Item K)
  drop_items b side [] = []
  drop_items b side (t ∷ ts) = Drop t b side ∷ drop_items b side ts

module _ {K : Types} (app : Application K) where
  -- the render count rises, or stays
  abbrev pub counted_render : State K → ℕ → Bool → Outcome K
  counted_render w b true = raised w b
  counted_render w b false = Done w []

  -- the fallback's answer is neither thrown nor held
  abbrev pub fallback_answered : State K → ℕ → VComponent K → Element K → Outcome K
  fallback_answered w b c answer =
      onward
      (onward (counted_render w b (counts_render c answer)) (λ v. after_hooks app v b))
      (λ v. start_agenda app v b FallbackSide (tree_or_placeholder answer))

  -- the resolved callbacks in order of registration, each in its scope; those of scopes that are gone are passed over
  abbrev pub called_back : State K → List (ℕ × K.Effect) → Outcome K
  called_back w [] = Done w []
  called_back w (e ∷ es) = (if is_live w e.0 then onward (acted app w e.0 e.1 false) (λ v. called_back v es) else called_back w es)

  -- what one step of a boundary's run does
  abbrev pub row_step : State K → ℕ → Scope K → RowStep → Outcome K
  row_step w b x PatchChildren = start_agenda app w b ChildrenSide (children_of x.component)
  row_step w b x MadeChildren =
      Done w (row_items b (if is_held x then RunFallback ∷ ShowFallback ∷ [] else ShowChildren ∷ Resolve ∷ []))
  row_step w b x RunFallback = call_body app w b x.component (λ v answer. fallback_answered v b x.component answer)
  row_step w b x ShowFallback =
      Done (change (record w { resolved = drop_number w.resolved b }) b (λ y. record y { shows = Some FallbackSide })) []
  row_step w b x ShowChildren =
      Done
      (change (record w { last_calls = without w.last_calls b }) b (λ y. record y { shows = Some ChildrenSide; reads = [] }))
      []
  row_step w b x DropFallback =
      Done (change w b (λ y. record y { fallback_side = empty_side })) (drop_items b FallbackSide (side_scopes w x.fallback_side))
  row_step w b x Resolve =
      called_back (change (record w { resolved = w.resolved ++ b ∷ [] }) b (λ y. record y { callbacks = [] })) x.callbacks

  -- one step of a boundary's run, with the work that comes before the rest of the run
  abbrev pub boundary_step : State K → ℕ → RowStep → Outcome K
  boundary_step w b step = elim (at w.scopes b) [ None ↦ Done w [] | Some x ↦ row_step w b x step ]
