-- A patch that goes on from its start over a full block to its end: both blocks meet, and so its edits make the one of the other.
use Rattle.std.specs.Prelude.{ℕ, true, List, [], Some, ◌≡◌}
use Rattle.tree_nodes.specs.declared.vnode.VNode.{VNode}
use Rattle.rt_model.specs.Caused.{Written}
use Rattle.rt_model.specs.Document.{Forest}
use Rattle.rt_model.specs.Fits.{fits_at}
use Rattle.rt_model.specs.Heard.{number_at}
use Rattle.rt_model.specs.OneLog.{types}
use Rattle.rt_model.specs.Run.{child_at, component_in, has_node, is_fed}
use Rattle.rt_model.specs.State as state
use Rattle.rt_model.specs.Tree.{Types, Place, Kind, Tree, spots}
use Rattle.rt_model.specs.View.{tree_view}
use Rattle.rt_model.specs.World.{Application}
use Rattle.law_moves.specs.Meets.{ChildBrings, HasNode, TreeMeets, tree_claims}
use Rattle.law_moves.specs.Settings.{Brings}
use Rattle.tree_marks.specs.Marks.{Mark, tree_marks}
use Rattle.tree_mirror.specs.Sealed.{tree_of}
use Rattle.run_places.specs.Places.{side_of}
use Rattle.rt_tree.specs.declared.patch.Patch.{Patch}
use Rattle.rt_tree.specs.declared.step.PatchStep.{PatchStep}
use Rattle.rt_tree.specs.Awaits.{awaited, no_answer}
use Rattle.rt_tree.specs.Plans.{KeepsBy}
use Rattle.rt_tree.specs.Runs.{Runs}
use Rattle.rt_tree.specs.Served.{edits_left, marks_left}
use Rattle.law_served.specs.RunWritten.{Ends, Shows, both_end, edits_with}
use Rattle.law_served.specs.Starting.{IsFull}

module _ {K : Types} where
  -- each child scope of a side shows a node
  abbrev pub ShowNodes : state.Side K → (ℕ → Forest) → Type 0
  ShowNodes side inner = (q : Place) (t : ℕ) → child_at side.children q ≡ Some t → HasNode (inner t)

  -- the component of the new tree there is fed to the child scope of the old one's
  abbrev pub IsFedAt : Application K → Tree K → Tree K → Place → Type 0
  IsFedAt app new old q = is_fed app (component_in (spots [] old) q) (component_in (spots [] new) q) ≡ true

  -- this is so of each child scope of the old side that is fed
  abbrev pub OfEachFed : Application K → state.Side K → Tree K → Tree K → (ℕ → Type 0) → Type 0
  OfEachFed app side new old child = (q : Place) (t : ℕ) → IsFedAt app new old q → child_at side.children q ≡ Some t → child t

module _ {P C Q V H T E L : Type 0} where
  -- a patch at its start over a full block: its marks are those of both trees, and its new block has what is kept of the old one
  pub record StartsOver (app : Application (types C Q V H T E L)) (p : Patch P C Q V H T E L) (new : VNode P C Q V H T E L)
      (old : Tree (types C Q V H T E L)) : Type 0 where
    pub free : awaited p.phase ≡ no_answer
    pub marks : marks_left p ≡ tree_marks app [] (tree_of new) old
    pub output : (side_of p.old).output ≡ Some old
    pub kept : KeepsBy app p.old new p.new.side
    pub full : IsFull (side_of p.old) old

  -- one at its end: no mark is left, and it waits for nothing
  pub record IsOver (r : Patch P C Q V H T E L) : Type 0 where
    pub marks : marks_left r ≡ []
    pub free : awaited r.phase ≡ no_answer

  -- the new block is the old one, renewed
  pub record Renews (app : Application (types C Q V H T E L)) (p r : Patch P C Q V H T E L) (ss : List (PatchStep P C Q V H T E L))
      (new old : Tree (types C Q V H T E L)) (before after : ℕ → Forest) (under : ℕ → Written) (claims : ℕ → ℕ → ℕ) : Type 0 where
    -- a node of both trees keeps its number
    pub numbers : (q : Place) (k : Kind) → has_node (spots [] old) q k ≡ true → has_node (spots [] new) q k ≡ true
        → number_at (side_of r.new.side).numbers q k ≡ number_at (side_of p.old).numbers q k
    -- a component that is fed keeps its child scope
    pub children : (q : Place) (t : ℕ) → IsFedAt app new old q → child_at (side_of p.old).children q ≡ Some t
        → child_at (side_of r.new.side).children q ≡ Some t
    -- the edits make what the new block shows of what the old one showed, in every setting
    pub brings :
        Brings
        (edits_with under ss)
        (tree_view (side_of p.old) before [] old)
        (tree_view (side_of r.new.side) after [] new)
        (λ n. tree_claims app (both_end r before after under) claims n [] new old)

module _ (P : Type 0) {C Q V H T E L : Type 0} where
  -- where both trees pass the node test, each child scope shows a node, and a fed one's edits make what it shows after
  abbrev pub BlocksMeet : Application (types C Q V H T E L) → Type 0
  BlocksMeet app =
      (p r : Patch P C Q V H T E L) (ss : List (PatchStep P C Q V H T E L))
      (met : List (Mark (types C Q V H T E L) × Patch P C Q V H T E L))
      (new : VNode P C Q V H T E L) (old : Tree (types C Q V H T E L)) (level other : ℕ)
      (before after : ℕ → Forest) (under : ℕ → Written) (claims : ℕ → ℕ → ℕ)
      → Runs app p ss met r
      → StartsOver app p new old
      → IsOver r
      → fits_at (tree_of new) level ≡ true
      → fits_at old other ≡ true
      → ShowNodes (side_of p.old) before
      → ShowNodes (side_of r.new.side) after
      → OfEachFed app (side_of p.old) (tree_of new) old (λ t. ChildBrings (both_end r before after under) claims t)
      → TreeMeets app (both_end r before after under) (λ t. ChildBrings (both_end r before after under) claims t) [] (tree_of new) old

  -- and so the new block is the old one renewed
  abbrev pub RunRenews : Application (types C Q V H T E L) → Type 0
  RunRenews app =
      (p r : Patch P C Q V H T E L) (ss : List (PatchStep P C Q V H T E L))
      (met : List (Mark (types C Q V H T E L) × Patch P C Q V H T E L))
      (new : VNode P C Q V H T E L) (old : Tree (types C Q V H T E L)) (level other : ℕ)
      (before after : ℕ → Forest) (under : ℕ → Written) (claims : ℕ → ℕ → ℕ)
      → Runs app p ss met r
      → StartsOver app p new old
      → p.shown ≡ true
      → edits_left p ≡ []
      → Ends r
      → awaited r.phase ≡ no_answer
      → Shows r before after under
      → fits_at (tree_of new) level ≡ true
      → fits_at old other ≡ true
      → ShowNodes (side_of p.old) before
      → ShowNodes (side_of r.new.side) after
      → OfEachFed app (side_of p.old) (tree_of new) old (λ t. ChildBrings (both_end r before after under) claims t)
      → Renews app p r ss (tree_of new) old before after under claims
