-- How many steps of a patch are left that are neither an edit nor a question.
use Rattle.std.specs.Prelude.{ℕ, ◌+◌, List, [], ◌∷◌, length, Option, Some, None}
use Rattle.rt_model.specs.Run.{child_at}
use Rattle.rt_model.specs.Tree.{Types, Place}
use Rattle.tree_marks.specs.Marks.{Mark, stays, goes, comes, fed, left, made, given, worded, slot_goes, tree_goes, slot_way, tree_way, come_in, go_out, lone}
use Rattle.run_places.specs.Places.{side_of}
use Rattle.rt_tree.specs.declared.patch.Patch.{Patch}
use Rattle.rt_tree.specs.declared.step.PatchStep.{PatchStep}
use Rattle.rt_tree.specs.declared.step.PatchStep.TheVariants as s
use Rattle.rt_tree.specs.Served.{marks_left}

-- one where there is one
abbrev pub one_if : {A : Type 0} → Option A → ℕ
one_if None = 0
one_if (Some x) = 1

module _ {K : Types} (children : List (Place × ℕ)) where
  -- the steps that a mark leads to, at once or at the end, by the child scopes of the old block
  abbrev pub deeds : Mark K → ℕ
  deeds (stays p k) = 0
  deeds (goes p k) = 1
  deeds (comes p k) = 1
  deeds (fed p c d) = one_if (child_at children p)
  deeds (left p c) = one_if (child_at children p)
  deeds (made p d) = 1
  deeds (given above whole new old) = 0
  deeds (worded p new old) = 0
  deeds (slot_goes p old) = 0
  deeds (tree_goes above old) = 0
  deeds (slot_way p new old) = 0
  deeds (tree_way above new old) = 0
  deeds (come_in p front i new) = 0
  deeds (go_out p i old) = 0
  deeds (lone p new) = 0

  -- those that marks lead to
  abbrev pub all_deeds : List (Mark K) → ℕ
  all_deeds [] = 0
  all_deeds (m ∷ ms) = deeds m + all_deeds ms

module _ {P C Q V H T E L : Type 0} where
  -- what is told at the end: child scopes that go, and numbers
  abbrev pub at_end : Patch P C Q V H T E L → ℕ
  at_end p = length p.drops.items + length p.gone.items

  -- the steps of a patch that are neither an edit nor a question
  abbrev pub others : Patch P C Q V H T E L → ℕ
  others p = all_deeds (side_of p.old).children (marks_left p) + at_end p

  -- one for such a step
  abbrev pub other_in : PatchStep P C Q V H T E L → ℕ
  other_in (s.Make component) = 1
  other_in (s.Feed scope component) = 1
  other_in (s.Nodes scope) = 0
  other_in (s.Edit edit) = 0
  other_in (s.Remove scope) = 1
  other_in (s.Drawn id places path) = 1
  other_in (s.Gone id) = 1
  other_in s.Done = 0

  -- the same of a step, if there is one
  abbrev pub other_of : Option (PatchStep P C Q V H T E L) → ℕ
  other_of None = 0
  other_of (Some step) = other_in step
