-- What is seen of a live scope and of a boundary from outside, by the row that was found under its number.
use Rattle.std.specs.Prelude.{ℕ, Bool, false, List, [], Option, Some, None, Result, if◌then◌else◌}
use Rattle.tree_nodes.specs.declared.error.RenderError.{RenderError}
use Rattle.tree_nodes.specs.declared.vnode.VNode.{VNode}
use Rattle.tree_nodes.specs.declared.vnode.FragmentProps.{FragmentProps}
use Rattle.tree_nodes.specs.declared.vnode.DynamicNode.TheViews.{out-FragmentProps}
use Rattle.rt_model.specs.Tree.{Types, Tree}
use Rattle.rt_model.specs.State.{FallbackSide, Scope, is_held, is_side}

module _ {P C Q V H T E L : Type 0} where
  -- the children of a fragment
  abbrev pub children_in : FragmentProps P C Q V H T E L → Result (VNode P C Q V H T E L) RenderError
  children_in props = (out-FragmentProps P C Q V H T E L props).children

module _ {K : Types} where
  -- the children's kept output while the fallback shows, so that they are hidden
  abbrev pub hidden_output : Scope K → Option (Tree K)
  hidden_output x = if is_side x.shows FallbackSide then (x.children_side).output else None

  -- the hidden output of a boundary that was found
  abbrev pub hidden_in : Option (Scope K) → Option (Tree K)
  hidden_in None = None
  hidden_in (Some x) = hidden_output x

  -- a suspended render passes over what is below it
  abbrev pub frozen_in : Option (Scope K) → Bool
  frozen_in None = false
  frozen_in (Some x) = x.frozen

  -- some task holds it
  abbrev pub held_in : Option (Scope K) → Bool
  held_in None = false
  held_in (Some x) = is_held x

  -- what holds it in order of joining: each a task with its origin
  abbrev pub holders_in : Option (Scope K) → List (ℕ × ℕ)
  holders_in None = []
  holders_in (Some x) = x.holders
