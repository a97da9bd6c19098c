-- The edits that a unit writes, as two looks at the scopes see it, part by part.
use Rattle.std.specs.Prelude.{ℕ, zero, suc, ◌+◌, Bool, false, ◌&&◌, ◌||◌, length, take, drop, List, [], ◌∷◌, ◌++◌, map, Option, Some, if◌then◌else◌, is_some, ◌≡◌}
use Rattle.std.specs.Borrow.{Bor}
use Rattle.rt_edits.specs.declared.edit.Edit.{Edit}
use Rattle.tree_nodes.specs.declared.template.TemplateNode.{TemplateNode}
use Rattle.tree_nodes.specs.declared.vnode.VNode.{VNode}
use Rattle.tree_nodes.specs.declared.vnode.DynamicNode.{DynamicNode}
use Rattle.rt_model.specs.OneLog.{types}
use Rattle.rt_model.specs.Lists.{at}
use Rattle.rt_model.specs.World.{Application}
use Rattle.rt_model.specs.Laws.{Tests}
use Rattle.rt_model.specs.Tree.{Place, item, no_nodes, place_in}
use Rattle.rt_model.specs.State as state
use Rattle.rt_model.specs.Document.{InsertNodesAfter}
use Rattle.rt_model.specs.Caused as caused
use Rattle.rt_model.specs.Caused.{Way, Written, writes, halts, then_on, replaced_by, built_whole, is_around, last_of, slot_pass}
use Rattle.tree_edits.specs.Documents.{edit_of}
use Rattle.tree_mirror.specs.Mirror.{slots_from, trees_from}
use Rattle.tree_mirror.specs.Sealed.{node_before, tree_of, slot_of, template_of}
use Rattle.run_places.specs.declared.side.Side.{Side}
use Rattle.run_places.specs.declared.side.SideName.{SideName}
use Rattle.run_places.specs.Places.{output_of, side_name_of, side_of}
use Rattle.run_places.specs.Sides.{child_in}
use Rattle.run_shown.specs.declared.look.Look.{Look}
use Rattle.run_shown.specs.declared.edited.Edited.{Edited}
use Rattle.run_shown.specs.declared.calm.Sides.{Sides}
use Rattle.run_shown.specs.declared.sides.Unit.{Unit as CodeUnit}
use Rattle.run_shown.specs.Look.{look_is_shown, look_side, look_shows}
use Rattle.run_shown.specs.Seen.{seen_by, seen_within, scope_seen, value_in, tree_in, items_in}
use Rattle.run_shown.specs.declared.showing.Shown.{Shown}
use Rattle.run_shown.specs.Look.{ShowsScopes}
use Rattle.run_shown.specs.Touched.{is_touched}
use Rattle.run_shown.specs.Ways.{place_found, way_of}
use Rattle.run_shown.specs.Written.{edited_of}

-- whether one of n items from a position on is the refused place or holds it
abbrev pub around_from : Place → ℕ → Option Place → ℕ → Bool
around_from place i stop zero = false
around_from place i stop (suc n) = is_around (place ++ item i ∷ []) stop || around_from place (i + 1) stop n

module _ {P C Q V H T E L : Type 0} where
  -- a slot's old nodes give way to its new ones
  abbrev pub slot_replaces : Sides P C Q V H T E L → Place → DynamicNode P C Q V H T E L → DynamicNode P C Q V H T E L → Written
  slot_replaces b place new old =
      built_whole (place_found b.stop) place (replaced_by (value_in b.old.now old place) (value_in b.new.now new place))

  -- a tree's old nodes give way to its new ones
  abbrev pub tree_replaces : Sides P C Q V H T E L → Place → VNode P C Q V H T E L → VNode P C Q V H T E L → Written
  tree_replaces b above new old =
      built_whole (place_found b.stop) above (replaced_by (tree_in b.old.now old above) (tree_in b.new.now new above))

  -- the number of the last node of items, or the one that came before them
  abbrev pub last_among : Shown P C Q V H T E L → Place → ℕ → ℕ → List (VNode P C Q V H T E L) → ℕ
  last_among shown place i last [] = last
  last_among shown place i last (tree ∷ trees) =
      last_among shown place (i + 1) (last_of last (tree_in shown tree (place ++ item i ∷ []))) trees

  -- the items from a position on are new: they come after the last node before them
  abbrev pub items_inserts : Sides P C Q V H T E L → Place → ℕ → ℕ → List (VNode P C Q V H T E L) → Written
  items_inserts b place i last new =
      if around_from place i (place_found b.stop) (length new)
      then halts
      else writes (InsertNodesAfter last (items_in b.new.now i place new) ∷ [])

  module _ (app : Application (types C Q V H T E L)) where
    -- one side of a scope in two looks, with what its components show and write
    abbrev pub sides_at : Look P C Q V H T E L → Look P C Q V H T E L → Way → (ℕ → Written) → Side P C Q V H T E L → Side P C Q V H T E L
        → Option Place → caused.Both (types C Q V H T E L)
    sides_at before after way under old new stop =
        record {
          old = side_of old;
          new = side_of new;
          old_child = λ t. seen_within before before.scopes t;
          new_child = λ t. seen_within after after.scopes t;
          under = under;
          stop = stop;
          on_way = λ t. is_some (at way t);
        }

    -- what a side of a scope writes, where it is there in both looks
    abbrev pub side_writes : Look P C Q V H T E L → Look P C Q V H T E L → Way → (ℕ → Written) → ℕ → SideName
        → Option (Side P C Q V H T E L) → Option (Side P C Q V H T E L) → Written
    side_writes before after way under s name (Some old) (Some new) =
        caused.outputs_written app (sides_at before after way under old new (caused.stop_on (side_name_of name) (at way s)))
        (output_of new.output) (output_of old.output)
    side_writes before after way under s name _ _ = writes []

    -- the side that shows in both, or one side in place of the other
    abbrev pub shown_writes : Look P C Q V H T E L → Look P C Q V H T E L → Way → (ℕ → Written) → ℕ
        → (SideName → Option (Side P C Q V H T E L)) → (SideName → Option (Side P C Q V H T E L)) → Option SideName → Option SideName
        → Written
    shown_writes before after way under s olds news (Some a) (Some b) =
        if state.same_side (side_name_of a) (side_name_of b)
        then side_writes before after way under s a (olds a) (news a)
        else writes (replaced_by (scope_seen before before.scopes s) (scope_seen after after.scopes s))
    shown_writes before after way under s olds news _ _ = writes []

    -- what a scope writes, at most n scopes deep
    abbrev pub unit_within : Look P C Q V H T E L → Look P C Q V H T E L → Way → ℕ → ℕ → Written
    unit_within before after way zero s = writes []
    unit_within before after way (suc n) s =
        then_on
        (if look_is_shown before s && look_is_shown after s
        then shown_writes before after way (λ t. unit_within before after way n t) s (λ name. look_side before s name) (λ name.
        look_side after s name) (look_shows before s) (look_shows after s)
        else writes [])
        (if is_some (at way s) then halts else writes [])

    -- the same of a unit, as one word
    unfoldable pub unit_writes : CodeUnit P C Q V H T E L → ℕ → ℕ → Written
    unit_writes unit n s = unit_within unit.before.now unit.after.now (way_of unit.way.now) n s

    -- a scope that the unit can't have changed, with all below it, writes nothing
    unfoldable pub Passes : CodeUnit P C Q V H T E L → Type 0
    Passes unit = (n s : ℕ) → is_touched unit.touched s ≡ false → unit_writes unit n s ≡ writes []

    -- what the side that shows writes
    unfoldable pub scope_writes : CodeUnit P C Q V H T E L → ℕ → ℕ → Written
    scope_writes unit n s =
        shown_writes unit.before.now unit.after.now (way_of unit.way.now) (λ t.
        unit_within unit.before.now unit.after.now (way_of unit.way.now) n t) s
        (λ name. look_side unit.before.now s name) (λ name. look_side unit.after.now s name) (look_shows unit.before.now s)
        (look_shows unit.after.now s)

    -- the same of a scope that shows in both looks, nothing of another one
    unfoldable pub both_writes : CodeUnit P C Q V H T E L → ℕ → ℕ → Written
    both_writes unit n s =
        if look_is_shown unit.before.now s && look_is_shown unit.after.now s then scope_writes unit n s else writes []

    -- what a side of a scope writes
    unfoldable pub name_writes : CodeUnit P C Q V H T E L → ℕ → ℕ → SideName → Written
    name_writes unit n s name =
        side_writes unit.before.now unit.after.now (way_of unit.way.now) (λ t.
        unit_within unit.before.now unit.after.now (way_of unit.way.now) n t) s name
        (look_side unit.before.now s name) (look_side unit.after.now s name)

    -- the two sides that are compared
    abbrev pub both_of : Sides P C Q V H T E L → caused.Both (types C Q V H T E L)
    both_of b =
        record {
          old = side_of (b.old.now).side.now;
          new = side_of (b.new.now).side.now;
          old_child = λ t. seen_by (b.old.now).asked t;
          new_child = λ t. seen_by (b.new.now).asked t;
          under = λ t. unit_within (b.unit.now).before.now (b.unit.now).after.now (way_of (b.unit.now).way.now) b.depth t;
          stop = place_found b.stop;
          on_way = λ t. is_some (at (way_of (b.unit.now).way.now) t);
        }

    -- what an output writes where there was one before
    unfoldable pub output_writes : Sides P C Q V H T E L → Written
    output_writes b = caused.outputs_written app (both_of b) (output_of ((b.new.now).side.now).output)
        (output_of ((b.old.now).side.now).output)

    -- what a tree writes
    unfoldable pub tree_writes : Sides P C Q V H T E L → Place → VNode P C Q V H T E L → VNode P C Q V H T E L → Written
    tree_writes b above new old = caused.tree_written app (both_of b) above (tree_of new) (tree_of old)

    -- what a slot writes
    unfoldable pub slot_writes : Sides P C Q V H T E L → Place → DynamicNode P C Q V H T E L → DynamicNode P C Q V H T E L → Written
    slot_writes b place new old = caused.slot_written app (both_of b) place (slot_of new) (slot_of old)

    -- what a child scope writes
    unfoldable pub child_writes : Sides P C Q V H T E L → Place → Written
    child_writes b place = caused.child_written app (both_of b) place (child_in (b.old.now).side.now place)

    -- what the items of a fragment write, from a position on, where the last node before them has a number
    unfoldable pub items_writes : Sides P C Q V H T E L → Place → ℕ → ℕ → List (VNode P C Q V H T E L) → List (VNode P C Q V H T E L)
        → Written
    items_writes b place i last new old =
        caused.items_written app (both_of b) place i last (trees_from (map tree_of new)) (trees_from (map tree_of old))

    -- what a node of a tree's template writes
    unfoldable pub node_writes : Sides P C Q V H T E L → Place → VNode P C Q V H T E L → VNode P C Q V H T E L → List ℕ → ℕ
        → TemplateNode → Written
    node_writes b above new old up i node =
        slot_pass
        (λ k place. caused.slots_written app (both_of b) (slots_from (map slot_of new.dynamic_nodes))
        (slots_from (map slot_of old.dynamic_nodes)) k place)
        (place_in (template_of new.template) above) up i (node_before node no_nodes)

    -- what a row of nodes writes, one after another
    abbrev pub row_writes : Sides P C Q V H T E L → Place → VNode P C Q V H T E L → VNode P C Q V H T E L → List ℕ → ℕ
        → List TemplateNode → Written
    row_writes b above new old up i [] = writes []
    row_writes b above new old up i (node ∷ nodes) =
        then_on (node_writes b above new old up i node) (row_writes b above new old up (i + 1) nodes)

  -- what was written is this, whatever the application
  abbrev pub Writes : CodeUnit P C Q V H T E L → Edited → (Application (types C Q V H T E L) → Written) → Type 0
  Writes unit written what =
      (app : Application (types C Q V H T E L)) → Tests C app.same_component → Passes app unit → edited_of written ≡ what app

  -- the nodes so far, with what those that are left write, whatever the application
  abbrev pub RowLeft : Written → Sides P C Q V H T E L → Place → VNode P C Q V H T E L → VNode P C Q V H T E L → List ℕ → ℕ
      → List TemplateNode → List TemplateNode → Type 0
  RowLeft written b above new old up i left nodes =
      (app : Application (types C Q V H T E L)) → Tests C app.same_component → Passes app b.unit.now
      → then_on written (row_writes app b above new old up i left) ≡ row_writes app b above new old up 0 nodes

  -- the items so far, with what those that are left write, whatever the application
  abbrev pub ItemsLeft : Written → Sides P C Q V H T E L → Place → ℕ → List (VNode P C Q V H T E L) → List (VNode P C Q V H T E L) → Type 0
  ItemsLeft written b place i new old =
      (app : Application (types C Q V H T E L)) → Tests C app.same_component → Passes app b.unit.now
      → then_on written (items_writes app b place i (last_among b.new.now place 0 0 (take i new)) (drop i new) (drop i old))
      ≡ items_writes app b place 0 0 new old

  -- the edits are those of a scope on the way to a refusal, where those that aren't touched write nothing
  abbrev pub AreOnWay : List Edit → Look P C Q V H T E L → Look P C Q V H T E L → caused.Way → Option (Bor (List ℕ)) → ℕ → Type 0
  AreOnWay edits before after way touched s =
      (app : Application (types C Q V H T E L)) (w v : state.State (types C Q V H T E L))
      → Tests C app.same_component → ShowsScopes before w → ShowsScopes after v
      → ((n t : ℕ) → is_touched touched t ≡ false → caused.written_within app way w v n t ≡ writes [])
      → map edit_of edits ≡ (caused.written_within app way w v before.scopes s).edits
