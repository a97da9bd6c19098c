-- What a given answer changes.
use Rattle.std.specs.Prelude.{List, [], ◌∷◌, ◌++◌, ◌≡◌}
use Rattle.rt_edits.specs.declared.doc_node.DocNode.{DocNode}
use Rattle.rt_values.specs.declared.names.ScopeId.{ScopeId}
use Rattle.rt_model.specs.State as state
use Rattle.rt_model.specs.Tree.{Types}
use Rattle.run_places.specs.Places.{place_of, side_of}
use Rattle.run_places.specs.Sides.{and_child}
use Rattle.rt_tree.specs.declared.patch.Patch.{Patch}
use Rattle.rt_tree.specs.declared.patch.Phase.{Phase}
use Rattle.rt_tree.specs.declared.patch.Phase.TheVariants as phase
use Rattle.rt_tree.specs.Served.{edits_left, marks_left}

module _ {K : Types} where
  -- a scope that was made is the child scope of its component; nodes alone change nothing of the new block
  abbrev pub SeatedBy : Phase → ScopeId → state.Side K → state.Side K → Type 0
  SeatedBy phase.Free scope before after = after ≡ before
  SeatedBy (phase.Make place) scope before after = after ≡ and_child before (place_of place, scope.0)
  SeatedBy (phase.Asked named) scope before after = after ≡ before

module _ {P C Q V H T E L : Type 0} where
  -- a patch is given a scope with its nodes: one row more, and its place if it was made
  pub record Gives (before : Patch P C Q V H T E L) (scope : ScopeId) (nodes : List DocNode) (after : Patch P C Q V H T E L) : Type 0 where
    pub rows : (after.given).rows ≡ (before.given).rows ++ (scope.0, nodes) ∷ []
    pub seated : SeatedBy before.phase scope (side_of before.new.side) (side_of after.new.side)
    pub marks : marks_left after ≡ marks_left before
    pub edits : edits_left after ≡ edits_left before
    pub old : after.old ≡ before.old
    pub shown : after.shown ≡ before.shown
    pub drops : after.drops ≡ before.drops
    pub gone : after.gone ≡ before.gone
