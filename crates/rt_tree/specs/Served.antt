-- What a step of a patch serves of the marks that are left.
use Rattle.std.specs.Prelude.{if◌then◌else◌, false, true, List, [], ◌∷◌, ◌++◌, map, Some, None, ◌≡◌}
use Rattle.rt_values.specs.declared.names.ScopeId.{ScopeId}
use Rattle.rt_edits.specs.declared.edit.Edit as code
use Rattle.rt_model.specs.Caused as caused
use Rattle.rt_model.specs.Caused.{Both}
use Rattle.rt_model.specs.Document.{Edit}
use Rattle.rt_model.specs.Lists.{joined}
use Rattle.rt_model.specs.OneLog.{types}
use Rattle.rt_model.specs.World.{Application}
use Rattle.tree_edits.specs.Documents.{edit_of}
use Rattle.tree_marks.specs.Marks.{Mark}
use Rattle.run_places.specs.Places.{side_of}
use Rattle.run_shown.specs.Given.{given_to}
use Rattle.run_met.specs.Mets.{marks_of}
use Rattle.rt_tree.specs.declared.patch.Patch.{Patch}
use Rattle.rt_tree.specs.declared.step.PatchStep.{PatchStep}
use Rattle.rt_tree.specs.declared.step.PatchStep.TheVariants as s
use Rattle.rt_tree.specs.declared.turning.Wrote.{Wrote}
use Rattle.rt_tree.specs.declared.turning.Wrote.TheVariants as w
use Rattle.rt_tree.specs.Asks.{AllKnown, IsKnown, asked_at}
use Rattle.rt_tree.specs.Does.{DoneBy}
use Rattle.rt_tree.specs.Endings.{Tells}
use Rattle.rt_tree.specs.Owns.{own_writes}

module _ {P C Q V H T E L : Type 0} where
  -- the marks that are left
  abbrev pub marks_left : Patch P C Q V H T E L → List (Mark (types C Q V H T E L))
  marks_left p = marks_of p.plan.items

  -- the edits of a mark that aren't given yet
  abbrev pub edits_left : Patch P C Q V H T E L → List Edit
  edits_left p = map edit_of p.edits.items

  -- both blocks as they are, with the nodes that were given for child scopes
  abbrev pub both_now : Patch P C Q V H T E L → Both (types C Q V H T E L)
  both_now p = record {
    old = side_of p.old;
    new = side_of p.new.side;
    old_child = λ t. given_to p.given t;
    new_child = λ t. given_to p.given t;
    under = λ t. caused.writes [];
    stop = None;
    on_way = λ t. false;
  }

  -- what is written at a mark by what the patch has; nothing where its block isn't shown
  abbrev pub writes_now : Application (types C Q V H T E L) → Patch P C Q V H T E L → Mark (types C Q V H T E L) → List Edit
  writes_now app p m = if p.shown then own_writes app (both_now p) m else []

  -- the edit of a step, if it is one
  abbrev pub edits_in : PatchStep P C Q V H T E L → List Edit
  edits_in (s.Edit edit) = edit_of edit ∷ []
  edits_in (s.Make component) = []
  edits_in (s.Feed scope component) = []
  edits_in (s.Nodes scope) = []
  edits_in (s.Remove scope) = []
  edits_in (s.Drawn id places path) = []
  edits_in (s.Gone id) = []
  edits_in s.Done = []

  -- a step passes marks, and gives the first of what was left over and is written at them
  pub record Serves (app : Application (types C Q V H T E L)) (before : Patch P C Q V H T E L) (step : PatchStep P C Q V H T E L)
      (after : Patch P C Q V H T E L) : Type 0 where
    pub passed : List (Mark (types C Q V H T E L))
    pub marks : marks_left before ≡ passed ++ marks_left after
    pub edits : edits_left before ++ joined (map (λ m. writes_now app before m) passed) ≡ edits_in step ++ edits_left after
    -- no scope has to be asked at a mark that is passed
    pub known : AllKnown before passed
    -- what else is done is that of the last one
    pub does : DoneBy passed before step after
    -- what they leave for the end is told in order
    pub tells : Tells passed before step after

  -- a mark is passed at which nothing is written
  pub record Silent (app : Application (types C Q V H T E L)) (m : Mark (types C Q V H T E L))
      (before after : Patch P C Q V H T E L) : Type 0 where
    pub marks : marks_left after ≡ marks_left before
    pub quiet : writes_now app before m ≡ []
    pub spent : edits_left after ≡ []
    pub known : IsKnown before m

  -- a mark is passed, and the first of its edits is given
  pub record Firsts (app : Application (types C Q V H T E L)) (m : Mark (types C Q V H T E L)) (before : Patch P C Q V H T E L)
      (edit : code.Edit)
      (after : Patch P C Q V H T E L) : Type 0 where
    pub marks : marks_left after ≡ marks_left before
    pub first : writes_now app before m ≡ edit_of edit ∷ edits_left after
    pub known : IsKnown before m

  -- a mark stays in front of the others, and a scope is asked for its nodes
  pub record Again (m : Mark (types C Q V H T E L)) (before : Patch P C Q V H T E L) (scope : ScopeId)
      (after : Patch P C Q V H T E L) : Type 0 where
    pub marks : marks_left after ≡ m ∷ marks_left before
    pub spent : edits_left after ≡ []
    pub asked : asked_at after m ≡ Some scope.0
    pub shown : before.shown ≡ true

  -- one mark that is only written
  abbrev pub Written : Application (types C Q V H T E L) → Mark (types C Q V H T E L) → Patch P C Q V H T E L → Wrote
      → Patch P C Q V H T E L → Type 0
  Written app m before (w.Asks scope) after = Again m before scope after
  Written app m before (w.First edit) after = Firsts app m before edit after
  Written app m before w.Nothing after = Silent app m before after

  -- the old block stays, what was given, and whether there are edits
  pub record Leaves (before after : Patch P C Q V H T E L) : Type 0 where
    pub old : after.old ≡ before.old
    pub given : after.given ≡ before.given
    pub shown : after.shown ≡ before.shown

  -- what a patch has of both blocks stays
  pub record Keeps (before after : Patch P C Q V H T E L) : Type 0 where
    pub old : after.old ≡ before.old
    pub new : after.new.side ≡ before.new.side
    pub given : after.given ≡ before.given
    pub shown : after.shown ≡ before.shown

  -- one mark, and the step that it leads to
  abbrev pub Turned : Application (types C Q V H T E L) → Mark (types C Q V H T E L) → Patch P C Q V H T E L → PatchStep P C Q V H T E L
      → Patch P C Q V H T E L → Type 0
  Turned app m before (s.Nodes scope) after = Again m before scope after
  Turned app m before (s.Edit edit) after = Firsts app m before edit after
  Turned app m before (s.Make component) after = Silent app m before after
  Turned app m before (s.Feed scope component) after = Silent app m before after
  Turned app m before (s.Remove scope) after = Silent app m before after
  Turned app m before (s.Drawn id places path) after = Silent app m before after
  Turned app m before (s.Gone id) after = Silent app m before after
  Turned app m before s.Done after = Silent app m before after

  -- the mark in front of those that are left asks this scope
  pub record FirstAsks (p : Patch P C Q V H T E L) (scope : ScopeId) : Type 0 where
    pub mark : Mark (types C Q V H T E L)
    pub rest : List (Mark (types C Q V H T E L))
    pub front : marks_left p ≡ mark ∷ rest
    pub asked : asked_at p mark ≡ Some scope.0
