-- What is written at a mark, by the two sides and what their child scopes show.
use Rattle.std.specs.Prelude.{ℕ, ◌+◌, if◌then◌else◌, List, [], ◌∷◌, ◌++◌, map}
use Rattle.rt_model.specs.Lists.{joined, same_numbers}
use Rattle.rt_model.specs.Tree.{Types, Tree, placeholder_slot, item, Place, a_text}
use Rattle.rt_model.specs.World.{Application}
use Rattle.rt_model.specs.Run.{child_at}
use Rattle.rt_model.specs.Heard.{number_at}
use Rattle.rt_model.specs.Document.{Edit, InsertNodesAfter, SetNodeText}
use Rattle.rt_model.specs.View.{tree_view, slot_view, items_view}
use Rattle.rt_model.specs.Caused.{Both, attributes_written, replaced_by, removals, last_of, child_written, slot_written}
use Rattle.tree_marks.specs.Marks.{Mark, stays, goes, comes, fed, left, made, given, worded, slot_goes, tree_goes, slot_way, tree_way, come_in, go_out, lone}

module _ {K : Types} (app : Application K) (b : Both K) where
  -- the number of the last new node of items from a position on, or the one that came before them
  abbrev pub last_among : Place → ℕ → ℕ → List (Tree K) → ℕ
  last_among place i last [] = last
  last_among place i last (y ∷ ys) =
      last_among place (i + 1) (last_of last (tree_view b.new b.new_child (place ++ item i ∷ []) y)) ys

  -- what is written at one mark; where something becomes of a place only a fed child scope writes
  abbrev pub mark_writes : Mark K → List Edit
  mark_writes (stays place kind) = []
  mark_writes (goes place kind) = []
  mark_writes (comes place kind) = []
  mark_writes (fed place before after) = (child_written app b place (child_at b.old.children place)).edits
  mark_writes (left place before) = []
  mark_writes (made place after) = []
  mark_writes (given above whole new old) = attributes_written b.old.numbers above whole new old
  mark_writes (worded place new old) =
      if same_numbers old new then [] else SetNodeText (number_at b.old.numbers place a_text) new ∷ []
  mark_writes (slot_goes place old) = []
  mark_writes (tree_goes above old) = []
  mark_writes (slot_way place new old) =
      replaced_by (slot_view b.old b.old_child old place) (slot_view b.new b.new_child new place)
  mark_writes (tree_way above new old) =
      replaced_by (tree_view b.old b.old_child above old) (tree_view b.new b.new_child above new)
  mark_writes (come_in place front i new) =
      InsertNodesAfter (last_among place 0 0 front) (items_view b.new b.new_child i place new) ∷ []
  mark_writes (go_out place i old) = removals (items_view b.old b.old_child i place old)
  mark_writes (lone place new) = (slot_written app b place new placeholder_slot).edits

  -- what is written at one mark after another
  abbrev pub all_written : List (Mark K) → List Edit
  all_written marks = joined (map mark_writes marks)
