-- What is written between two states with names is plain.
use Rattle.std.proofs.Common.{ℕ, zero, suc, ◌+◌, Bool, true, false, ◌&&◌, not, List, [], ◌∷◌, ◌++◌, length, ◌≡◌, refl}
use Rattle.std.specs.Prelude.{Option, Some, None, if◌then◌else◌, is_some}
use Rattle.std.specs.List.{AllByRecursion}
use Rattle.rt_model.specs.Lists.{at, same_numbers, same_option}
use Rattle.rt_model.specs.Tree.{Types, TemplateAttribute, fixed, from_slot, TemplateNodes, no_nodes, element_node, text_node, slot_node, Template, same_template, AttributeValue, text_value, no_value, listener, Attribute, Tree, block, template_of, attributes_of, slots_of, Slots, no_slots, more_slots, first_slot, rest_slots, Slot, text_slot, placeholder_slot, component_slot, fragment_slot, Trees, no_trees, more_trees, item, Place, Kind, an_element, a_text, place_in, attributes_in}
use Rattle.rt_model.specs.World.{Application}
use Rattle.rt_model.specs.Values.{is_same_component}
use Rattle.rt_model.specs.State.{SideName, same_side, Scope, State, Item, side_of, is_shown}
use Rattle.rt_model.specs.Run.{child_at}
use Rattle.rt_model.specs.Heard.{number_at}
use Rattle.rt_model.specs.Replay.{Entry, Build, Taken, Heard, Rerun, Poll, Effects, Made, Fed, Kept, Removed}
use Rattle.rt_model.specs.Document.{Forest, Empty, Node, Edit, InsertNodesAfter, SetNodeText, SetAttribute, CreateEventListener, RemoveEventListener}
use Rattle.rt_model.specs.View.{tree_view, slot_view, items_view, nodes_of}
use Rattle.rt_model.specs.Caused.{Written, writes, halts, then_on, is_around, is_place, built_whole, removals, replaced_by, last_of, slot_pass, element_pass, attribute_pass, text_under, listens_under, one_left, left, one_come, come, attributes_written, Both, Way, stop_on, way_to, any_around, child_written, slot_replaced, tree_written, slots_written, slot_written, items_written, outputs_written, side_written, sides_written, scope_written, written_within, caused, caused_until}
use Rattle.lang_lines.specs.Plain.{IsPlainForest, IsPlainEdit}
use Rattle.lang_lines.specs.Named.{NamedGiven, AllGiven, AllSlotsGiven, NamedTree, NamedSlots, NamedSlot, NamedTrees}
use Rattle.lang_lines.proofs.Names.{name_bytes, space_bytes}
use Rattle.lang_lines.proofs.NamedViews.{Small, zero_small, AllSmall, number_small, slot_given, tree_plain, slot_plain, items_plain, NamedOutput, NamedScope, NamedScopes, shown_plain}

-- these edits are plain
abbrev pub EditsPlain : List Edit → Type 0
EditsPlain edits = AllByRecursion (λ (e : Edit). IsPlainEdit e) edits

pub both_plain : (es fs : List Edit) → EditsPlain es → EditsPlain fs → EditsPlain (es ++ fs)
both_plain [] fs h k = k
both_plain (e ∷ es) fs h k = (h.0, both_plain es fs h.1 k)

plain_if : (b : Bool) (es fs : List Edit) → EditsPlain es → EditsPlain fs → EditsPlain (if b then es else fs)
plain_if true es fs h k = h
plain_if false es fs h k = k

-- what is written is plain
abbrev WritesPlain : Written → Type 0
WritesPlain w = EditsPlain w.edits

written_if : (b : Bool) (x y : Written) → WritesPlain x → WritesPlain y → WritesPlain (if b then x else y)
written_if true x y h k = h
written_if false x y h k = k

then_plain : (a b : Written) → WritesPlain a → WritesPlain b → WritesPlain (then_on a b)
then_plain a b h k = written_if a.stopped a (record { edits = a.edits ++ b.edits; stopped = b.stopped }) h (both_plain a.edits b.edits h k)

built_plain : (stop : Option Place) (p : Place) (edits : List Edit) → EditsPlain edits → WritesPlain (built_whole stop p edits)
built_plain stop p edits h = written_if (is_around p stop) halts (writes edits) tt h

removals_plain : (f : Forest) → IsPlainForest f → EditsPlain (removals f)
removals_plain Empty h = tt
removals_plain (Node id content children rest) h = (h.0, removals_plain rest h.4)

replaced_plain : (f g : Forest) → IsPlainForest f → IsPlainForest g → EditsPlain (replaced_by f g)
replaced_plain Empty g h k = tt
replaced_plain (Node id content children rest) g h k = ((h.0, k), removals_plain rest h.4)

last_small : (n : ℕ) (f : Forest) → Small n → IsPlainForest f → Small (last_of n f)
last_small n Empty small h = small
last_small n (Node id content children rest) small h = last_small id rest h.0 h.4

pass_plain : (of : ℕ → Place → Written) (place : List ℕ → ℕ → Place) (up : List ℕ) (i : ℕ) (nodes : TemplateNodes) → ((k : ℕ) (p : Place) → WritesPlain (of k p)) → WritesPlain (slot_pass of place up i nodes)
pass_plain of place up i no_nodes each = tt
pass_plain of place up i (element_node tag namespace attributes children rest) each =
    then_plain (slot_pass of place (up ++ i ∷ []) 0 children) (slot_pass of place up (i + 1) rest)
    (pass_plain of place (up ++ i ∷ []) 0 children each) (pass_plain of place up (i + 1) rest each)
pass_plain of place up i (text_node text rest) each = pass_plain of place up (i + 1) rest each
pass_plain of place up i (slot_node k rest) each =
    then_plain (of k (place up i)) (slot_pass of place up (i + 1) rest) (each k (place up i)) (pass_plain of place up (i + 1) rest each)

element_pass_plain : (of : ℕ → ℕ → List Edit) (number : ℕ) (attributes : List TemplateAttribute) → ((k n : ℕ) → Small n → EditsPlain (of k n)) → Small number → EditsPlain (element_pass of number attributes)
element_pass_plain of number [] each small = tt
element_pass_plain of number (fixed name namespace value ∷ rest) each small = element_pass_plain of number rest each small
element_pass_plain of number (from_slot k ∷ rest) each small =
    both_plain (of k number) (element_pass of number rest) (each k number small) (element_pass_plain of number rest each small)

attribute_pass_plain : (of : ℕ → ℕ → List Edit) (number : List ℕ → ℕ → ℕ) (up : List ℕ) (i : ℕ) (nodes : TemplateNodes) → ((k n : ℕ) → Small n → EditsPlain (of k n)) → ((path : List ℕ) (j : ℕ) → Small (number path j))
    → EditsPlain (attribute_pass of number up i nodes)
attribute_pass_plain of number up i no_nodes each small = tt
attribute_pass_plain of number up i (element_node tag namespace attributes children rest) each small =
    both_plain (element_pass of (number up i) attributes) (attribute_pass of number (up ++ i ∷ []) 0 children ++ attribute_pass of number up (i + 1) rest)
    (element_pass_plain of (number up i) attributes each (small up i))
    (both_plain (attribute_pass of number (up ++ i ∷ []) 0 children) (attribute_pass of number up (i + 1) rest)
    (attribute_pass_plain of number (up ++ i ∷ []) 0 children each small) (attribute_pass_plain of number up (i + 1) rest each small))
attribute_pass_plain of number up i (text_node text rest) each small = attribute_pass_plain of number up (i + 1) rest each small
attribute_pass_plain of number up i (slot_node k rest) each small = attribute_pass_plain of number up (i + 1) rest each small

module _ {K : Types} where
  one_left_plain : (number : ℕ) (new : List (Attribute K)) (a : Attribute K) (v : AttributeValue K) → Small number → NamedGiven a → EditsPlain (one_left number new a v)
  one_left_plain number new a (text_value text) small h =
      plain_if (is_some (text_under a new)) [] (SetAttribute number a.name a.namespace None ∷ []) tt ((small, space_bytes a.namespace h.0, name_bytes a.name h.1), tt)
  one_left_plain number new a no_value small h = tt
  one_left_plain number new a (listener origin handler) small h =
      plain_if (listens_under a new) [] (RemoveEventListener number a.name ∷ []) tt ((small, name_bytes a.name h.1), tt)

  left_plain : (old new : List (Attribute K)) (number : ℕ) → Small number → AllGiven old → EditsPlain (left old new number)
  left_plain [] new number small h = tt
  left_plain (a ∷ rest) new number small h =
      both_plain (one_left number new a a.value) (left rest new number) (one_left_plain number new a a.value small h.0) (left_plain rest new number small h.1)

  one_come_plain : (number : ℕ) (old : List (Attribute K)) (a : Attribute K) (v : AttributeValue K) → Small number → NamedGiven a → EditsPlain (one_come number old a v)
  one_come_plain number old a (text_value text) small h =
      plain_if (same_option same_numbers (text_under a old) (Some text)) [] (SetAttribute number a.name a.namespace (Some text) ∷ []) tt ((small, space_bytes a.namespace h.0, name_bytes a.name h.1), tt)
  one_come_plain number old a no_value small h = tt
  one_come_plain number old a (listener origin handler) small h =
      plain_if (listens_under a old) [] (CreateEventListener number a.name ∷ []) tt ((small, name_bytes a.name h.1), tt)

  come_plain : (new old : List (Attribute K)) (number : ℕ) → Small number → AllGiven new → EditsPlain (come new old number)
  come_plain [] old number small h = tt
  come_plain (a ∷ rest) old number small h =
      both_plain (one_come number old a a.value) (come rest old number) (one_come_plain number old a a.value small h.0) (come_plain rest old number small h.1)

  attributes_plain : (numbers : List (Place × Kind × ℕ)) (above : Place) (whole : Template) (new old : List (List (Attribute K))) → AllSmall numbers → AllSlotsGiven new → AllSlotsGiven old
      → EditsPlain (attributes_written numbers above whole new old)
  attributes_plain numbers above whole new old small g h =
      let number : List ℕ → ℕ → ℕ = λ up i. number_at numbers (place_in whole above up i) an_element in
      let lefts : ℕ → ℕ → List Edit = λ k n. left (attributes_in old k) (attributes_in new k) n in
      let comes : ℕ → ℕ → List Edit = λ k n. come (attributes_in new k) (attributes_in old k) n in
      both_plain (attribute_pass lefts number [] 0 whole.roots) (attribute_pass comes number [] 0 whole.roots)
      (attribute_pass_plain lefts number [] 0 whole.roots (λ k n s. left_plain (attributes_in old k) (attributes_in new k) n s (slot_given old k h)) (λ up i. number_small numbers (place_in whole above up i) an_element small))
      (attribute_pass_plain comes number [] 0 whole.roots (λ k n s. come_plain (attributes_in new k) (attributes_in old k) n s (slot_given new k g)) (λ up i. number_small numbers (place_in whole above up i) an_element small))

  old_given : (tree : Tree K) → NamedTree tree → AllSlotsGiven (attributes_of tree)
  old_given (block template given slots) h = h.1

  old_slots : (tree : Tree K) → NamedTree tree → NamedSlots (slots_of tree)
  old_slots (block template given slots) h = h.2

  first_named : (slots : Slots K) → NamedSlots slots → NamedSlot (first_slot slots)
  first_named no_slots h = tt
  first_named (more_slots v rest) h = h.0

  rest_named : (slots : Slots K) → NamedSlots slots → NamedSlots (rest_slots slots)
  rest_named no_slots h = tt
  rest_named (more_slots v rest) h = h.1

  -- one side of a scope in two states, both with small numbers, whose child scopes show and write what is plain
  record PlainBoth (b : Both K) : Type 0 where
    pub old : AllSmall b.old.numbers
    pub new : AllSmall b.new.numbers
    pub old_child : (t : ℕ) → IsPlainForest (b.old_child t)
    pub new_child : (t : ℕ) → IsPlainForest (b.new_child t)
    pub under : (t : ℕ) → WritesPlain (b.under t)

module _ {K : Types} (app : Application K) (b : Both K) (h : PlainBoth b) where
  child_written_plain : (place : Place) (o : Option ℕ) → WritesPlain (child_written app b place o)
  child_written_plain place None = tt
  child_written_plain place (Some t) = written_if (is_place place b.stop && not (b.on_way t)) halts (b.under t) tt (h.under t)

  replaced_slot_plain : (place : Place) (y x : Slot K) → NamedSlot y → NamedSlot x → WritesPlain (slot_replaced app b place y x)
  replaced_slot_plain place y x g k =
      built_plain b.stop place (replaced_by (slot_view b.old b.old_child x place) (slot_view b.new b.new_child y place))
      (replaced_plain (slot_view b.old b.old_child x place) (slot_view b.new b.new_child y place)
      (slot_plain b.old b.old_child h.old h.old_child x place k) (slot_plain b.new b.new_child h.new h.new_child y place g))

  mutual
    tree_written_plain : (above : Place) (y x : Tree K) → NamedTree y → NamedTree x → WritesPlain (tree_written app b above y x)
    tree_written_plain above (block template given slots) old g k =
        let pass : Written = slot_pass (λ n place. slots_written app b slots (slots_of old) n place) (place_in template above) [] 0 template.roots in
        let first : Written = writes (attributes_written b.old.numbers above template given (attributes_of old)) in
        let before : Forest = tree_view b.old b.old_child above old in
        let after : Forest = tree_view b.new b.new_child above (block template given slots) in
        written_if (same_template template (template_of old)) (then_on first pass) (built_whole b.stop above (replaced_by before after))
        (then_plain first pass (attributes_plain b.old.numbers above template given (attributes_of old) h.old g.1 (old_given old k))
        (pass_plain (λ n place. slots_written app b slots (slots_of old) n place) (place_in template above) [] 0 template.roots (λ n place. slots_written_plain slots (slots_of old) n place g.2 (old_slots old k))))
        (built_plain b.stop above (replaced_by before after)
        (replaced_plain before after (tree_plain b.old b.old_child h.old h.old_child above old k) (tree_plain b.new b.new_child h.new h.new_child above (block template given slots) g)))

    slots_written_plain : (ys xs : Slots K) (n : ℕ) (place : Place) → NamedSlots ys → NamedSlots xs → WritesPlain (slots_written app b ys xs n place)
    slots_written_plain no_slots old n place g k = tt
    slots_written_plain (more_slots v rest) old zero place g k = slot_written_plain place v (first_slot old) g.0 (first_named old k)
    slots_written_plain (more_slots v rest) old (suc n) place g k = slots_written_plain rest (rest_slots old) n place g.1 (rest_named old k)

    slot_written_plain : (place : Place) (y x : Slot K) → NamedSlot y → NamedSlot x → WritesPlain (slot_written app b place y x)
    slot_written_plain place (text_slot t) (text_slot u) g k =
        let edit : Edit = SetNodeText (number_at b.old.numbers place a_text) t in
        written_if (same_numbers u t) (writes []) (writes (edit ∷ [])) tt (number_small b.old.numbers place a_text h.old, tt)
    slot_written_plain place placeholder_slot placeholder_slot g k = tt
    slot_written_plain place (component_slot c) (component_slot d) g k =
        written_if (is_same_component app d c) (child_written app b place (child_at b.old.children place)) (slot_replaced app b place (component_slot c) (component_slot d))
        (child_written_plain place (child_at b.old.children place)) (replaced_slot_plain place (component_slot c) (component_slot d) g k)
    slot_written_plain place (fragment_slot no_trees) (fragment_slot no_trees) g k = tt
    slot_written_plain place (fragment_slot (more_trees y ys)) (fragment_slot (more_trees x xs)) g k = items_written_plain place 0 0 (more_trees y ys) (more_trees x xs) zero_small g k
    slot_written_plain place y x g k = replaced_slot_plain place y x g k

    items_written_plain : (place : Place) (i last : ℕ) (ys xs : Trees K) → Small last → NamedTrees ys → NamedTrees xs → WritesPlain (items_written app b place i last ys xs)
    items_written_plain place i last no_trees xs small g k =
        removals_plain (items_view b.old b.old_child i place xs) (items_plain b.old b.old_child h.old h.old_child i place xs k)
    items_written_plain place i last (more_trees y ys) no_trees small g k =
        let news : Forest = items_view b.new b.new_child i place (more_trees y ys) in
        written_if (any_around app place i b.stop (more_trees y ys)) halts (writes (InsertNodesAfter last news ∷ [])) tt
        ((small, items_plain b.new b.new_child h.new h.new_child i place (more_trees y ys) g), tt)
    items_written_plain place i last (more_trees y ys) (more_trees x xs) small g k =
        let one : Forest = tree_view b.new b.new_child (place ++ item i ∷ []) y in
        then_plain (tree_written app b (place ++ item i ∷ []) y x) (items_written app b place (i + 1) (last_of last one) ys xs)
        (tree_written_plain (place ++ item i ∷ []) y x g.0 k.0)
        (items_written_plain place (i + 1) (last_of last one) ys xs (last_small last one small (tree_plain b.new b.new_child h.new h.new_child (place ++ item i ∷ []) y g.0)) g.1 k.1)

  outputs_written_plain : (y x : Option (Tree K)) → NamedOutput y → NamedOutput x → WritesPlain (outputs_written app b y x)
  outputs_written_plain (Some y) (Some x) g k = tree_written_plain [] y x g k
  outputs_written_plain (Some y) None g k = tt
  outputs_written_plain None (Some x) g k = tt
  outputs_written_plain None None g k = tt

module _ {K : Types} (app : Application K) (w v : State K) (before : NamedScopes w) (after : NamedScopes v) where
  side_written_plain : (way : Way) (under : ℕ → Written) (s : ℕ) (old new : Scope K) (side : SideName) → ((t : ℕ) → WritesPlain (under t)) → NamedScope old → NamedScope new → WritesPlain (side_written app w v way under s old new side)
  side_written_plain way under s old new side each g k =
      outputs_written_plain app
      (record {
        old = side_of old side;
        new = side_of new side;
        old_child = λ t. nodes_of w t;
        new_child = λ t. nodes_of v t;
        under = under;
        stop = stop_on side (at way s);
        on_way = λ t. is_some (at way t);
      })
      (record {
        old = (g.sides side).small;
        new = (k.sides side).small;
        old_child = λ t. shown_plain w t before;
        new_child = λ t. shown_plain v t after;
        under = each;
      })
      (side_of new side).output (side_of old side).output (k.sides side).output (g.sides side).output

  sides_written_plain : (way : Way) (under : ℕ → Written) (s : ℕ) (old new : Scope K) (x y : Option SideName) → ((t : ℕ) → WritesPlain (under t)) → NamedScope old → NamedScope new
      → WritesPlain (sides_written app w v way under s old new x y)
  sides_written_plain way under s old new (Some a) (Some c) each g k =
      written_if (same_side a c) (side_written app w v way under s old new a) (writes (replaced_by (nodes_of w s) (nodes_of v s)))
      (side_written_plain way under s old new a each g k)
      (replaced_plain (nodes_of w s) (nodes_of v s) (shown_plain w s before) (shown_plain v s after))
  sides_written_plain way under s old new (Some a) None each g k = tt
  sides_written_plain way under s old new None (Some c) each g k = tt
  sides_written_plain way under s old new None None each g k = tt

  scope_written_plain : (way : Way) (under : ℕ → Written) (s : ℕ) (x y : Option (Scope K)) → at w.scopes s ≡ x → at v.scopes s ≡ y → ((t : ℕ) → WritesPlain (under t))
      → WritesPlain (scope_written app w v way under s x y)
  scope_written_plain way under s (Some old) (Some new) e f each = sides_written_plain way under s old new old.shows new.shows each (before s old e) (after s new f)
  scope_written_plain way under s (Some old) None e f each = tt
  scope_written_plain way under s None (Some new) e f each = tt
  scope_written_plain way under s None None e f each = tt

  within_written_plain : (way : Way) (n s : ℕ) → WritesPlain (written_within app way w v n s)
  within_written_plain way zero s = tt
  within_written_plain way (suc n) s =
      let one : Written = scope_written app w v way (λ t. written_within app way w v n t) s (at w.scopes s) (at v.scopes s) in
      then_plain (if is_shown w s && is_shown v s then one else writes []) (if is_some (at way s) then halts else writes [])
      (written_if (is_shown w s && is_shown v s) one (writes []) (scope_written_plain way (λ t. written_within app way w v n t) s (at w.scopes s) (at v.scopes s) refl refl (λ t. within_written_plain way n t)) tt)
      (written_if (is_some (at way s)) halts (writes []) tt tt)

  -- the edits that the build or a unit writes
  pub caused_plain : (e : Entry) → EditsPlain (caused app w v e)
  caused_plain Build = ((zero_small, shown_plain v 0 after), tt)
  caused_plain (Rerun s) = within_written_plain [] (length w.scopes) s
  caused_plain (Taken k) = tt
  caused_plain (Heard s) = tt
  caused_plain (Poll t) = tt
  caused_plain (Effects s) = tt
  caused_plain (Made s) = tt
  caused_plain (Fed s) = tt
  caused_plain (Kept s) = tt
  caused_plain (Removed s) = tt

  -- and those of one that was cut
  pub until_plain : (o : Option (Item K)) (e : Entry) → EditsPlain (caused_until app w v o e)
  until_plain None e = tt
  until_plain (Some refused) (Rerun s) = within_written_plain (way_to v (Some refused)) (length w.scopes) s
  until_plain (Some refused) Build = tt
  until_plain (Some refused) (Taken k) = tt
  until_plain (Some refused) (Heard s) = tt
  until_plain (Some refused) (Poll t) = tt
  until_plain (Some refused) (Effects s) = tt
  until_plain (Some refused) (Made s) = tt
  until_plain (Some refused) (Fed s) = tt
  until_plain (Some refused) (Kept s) = tt
  until_plain (Some refused) (Removed s) = tt
