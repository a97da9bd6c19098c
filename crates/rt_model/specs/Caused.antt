-- The edits that a unit writes, by comparing the states before and after it; a unit that a fault ended wrote those
-- before the refused place.
use Rattle.std.specs.Prelude.{ℕ, zero, suc, ◌+◌, Bool, true, false, ◌&&◌, ◌||◌, not, nat_eq, List, [], ◌∷◌, ◌++◌, length, Option, Some, None, if◌then◌else◌, is_some}
use Rattle.rt_model.specs.Lists.{Text, at, same_numbers, same_option}
use Rattle.rt_model.specs.Tree.{Types, TemplateAttribute, fixed, from_slot, TemplateNodes, no_nodes, element_node, text_node, slot_node, Template, same_template, AttributeValue, text_value, no_value, listener, Attribute, Tree, block, template_of, attributes_of, slots_of, Slots, no_slots, more_slots, first_slot, rest_slots, Slot, text_slot, placeholder_slot, component_slot, fragment_slot, Trees, no_trees, more_trees, item, same_step, same_place, Place, Kind, an_element, a_text, place_in, attributes_in}
use Rattle.rt_model.specs.World.{Application}
use Rattle.rt_model.specs.Values.{is_same_component}
use Rattle.rt_model.specs.State.{SideName, same_side, Side, Scope, State, Item, Draw, Row, Feed, Make, Drop, side_of, is_shown}
use Rattle.rt_model.specs.Run.{child_at}
use Rattle.rt_model.specs.Heard.{number_at}
use Rattle.rt_model.specs.Replay.{Entry, Build, Rerun}
use Rattle.rt_model.specs.Document.{Forest, Empty, Node, Edit, AppendChildren, ReplaceNodeWith, InsertNodesAfter, RemoveNode, SetNodeText, SetAttribute, CreateEventListener, RemoveEventListener}
use Rattle.rt_model.specs.View.{tree_view, slot_view, items_view, nodes_of, view}

-- edits, and whether the refused place was reached
pub record Written : Type 0 where
  pub edits : List Edit
  pub stopped : Bool

-- these edits, without a stop
abbrev pub writes : List Edit → Written
writes edits = record { edits = edits; stopped = false }

-- the refused place is reached, and nothing is written
abbrev pub halts : Written
halts = record { edits = []; stopped = true }

-- one part and then another one, which writes nothing where the first one was stopped
abbrev pub then_on : Written → Written → Written
then_on a b = if a.stopped then a else record { edits = a.edits ++ b.edits; stopped = b.stopped }

-- whether the first place is the other one or stands around it
abbrev pub is_front : Place → Place → Bool
is_front [] q = true
is_front (a ∷ steps) [] = false
is_front (a ∷ steps) (b ∷ others) = same_step a b && is_front steps others

-- the refused place, if there is one, is this one or within it
abbrev pub is_around : Place → Option Place → Bool
is_around p None = false
is_around p (Some q) = is_front p q

-- the refused place, if there is one, is this one
abbrev pub is_place : Place → Option Place → Bool
is_place p None = false
is_place p (Some q) = same_place p q

-- what is being built gives no edit where the refused place is this one or within it
abbrev pub built_whole : Option Place → Place → List Edit → Written
built_whole stop p edits = if is_around p stop then halts else writes edits

-- each node of a row is removed
abbrev pub removals : Forest → List Edit
removals Empty = []
removals (Node id content children rest) = RemoveNode id ∷ removals rest

-- the first old node is replaced by the new ones, the others are removed
abbrev pub replaced_by : Forest → Forest → List Edit
replaced_by Empty new = []
replaced_by (Node id content children rest) new = ReplaceNodeWith id new ∷ removals rest

-- the number of a row's last node, or the one that came before the row
abbrev pub last_of : ℕ → Forest → ℕ
last_of n Empty = n
last_of n (Node id content children rest) = last_of id rest

-- through the node slots of a template, depth first
abbrev pub slot_pass : (ℕ → Place → Written) → (List ℕ → ℕ → Place) → List ℕ → ℕ → TemplateNodes → Written
slot_pass of place up i no_nodes = writes []
slot_pass of place up i (element_node tag namespace attributes children rest) =
    then_on (slot_pass of place (up ++ i ∷ []) 0 children) (slot_pass of place up (i + 1) rest)
slot_pass of place up i (text_node text rest) = slot_pass of place up (i + 1) rest
slot_pass of place up i (slot_node k rest) = then_on (of k (place up i)) (slot_pass of place up (i + 1) rest)

-- through the attribute slots of a template, depth first; number gives that of an element
abbrev pub element_pass : (ℕ → ℕ → List Edit) → ℕ → List TemplateAttribute → List Edit
element_pass of number [] = []
element_pass of number (fixed name namespace value ∷ rest) = element_pass of number rest
element_pass of number (from_slot k ∷ rest) = of k number ++ element_pass of number rest

-- through the attribute slots of a row of nodes, depth first
abbrev pub attribute_pass : (ℕ → ℕ → List Edit) → (List ℕ → ℕ → ℕ) → List ℕ → ℕ → TemplateNodes → List Edit
attribute_pass of number up i no_nodes = []
attribute_pass of number up i (element_node tag namespace attributes children rest) =
    element_pass of (number up i) attributes
    ++
    (attribute_pass of number (up ++ i ∷ []) 0 children ++ attribute_pass of number up (i + 1) rest)
attribute_pass of number up i (text_node text rest) = attribute_pass of number up (i + 1) rest
attribute_pass of number up i (slot_node k rest) = attribute_pass of number up (i + 1) rest

-- the place of a child scope
abbrev pub place_of_child : List (Place × ℕ) → ℕ → Option Place
place_of_child [] t = None
place_of_child (e ∷ es) t = if nat_eq e.1 t then Some e.0 else place_of_child es t

module _ {K : Types} where
  -- two attributes have one name and namespace
  abbrev pub is_key : Attribute K → Attribute K → Bool
  is_key a b = same_numbers a.name b.name && same_option same_numbers a.namespace b.namespace

  -- the text that a slot gives under the name and namespace of an attribute
  abbrev pub text_if : Option Text → AttributeValue K → Option Text
  text_if later (text_value text) = Some text
  text_if later no_value = later
  text_if later (listener origin handler) = later

  -- that text among all that a slot gives
  abbrev pub text_under : Attribute K → List (Attribute K) → Option Text
  text_under a [] = None
  text_under a (b ∷ rest) = if is_key b a then text_if (text_under a rest) b.value else text_under a rest

  -- the value is a listener
  abbrev pub listens : AttributeValue K → Bool
  listens (listener origin handler) = true
  listens (text_value text) = false
  listens no_value = false

  -- a slot gives a listener under the name of an attribute
  abbrev pub listens_under : Attribute K → List (Attribute K) → Bool
  listens_under a [] = false
  listens_under a (b ∷ rest) = (is_key b a && listens b.value) || listens_under a rest

  -- the first pass: what is no longer there
  abbrev pub one_left : ℕ → List (Attribute K) → Attribute K → AttributeValue K → List Edit
  one_left number new a (text_value text) = if is_some (text_under a new) then [] else SetAttribute number a.name a.namespace None ∷ []
  one_left number new a no_value = []
  one_left number new a (listener origin handler) = if listens_under a new then [] else RemoveEventListener number a.name ∷ []

  -- what a slot no longer gives, in the old order
  abbrev pub left : List (Attribute K) → List (Attribute K) → ℕ → List Edit
  left [] new number = []
  left (a ∷ rest) new number = one_left number new a a.value ++ left rest new number

  -- the second pass: what is new or differs; a changed handler gives no edit
  abbrev pub one_come : ℕ → List (Attribute K) → Attribute K → AttributeValue K → List Edit
  one_come number old a (text_value text) =
      if same_option same_numbers (text_under a old) (Some text) then [] else SetAttribute number a.name a.namespace (Some text) ∷ []
  one_come number old a no_value = []
  one_come number old a (listener origin handler) = if listens_under a old then [] else CreateEventListener number a.name ∷ []

  -- what a slot gives anew, in the new order
  abbrev pub come : List (Attribute K) → List (Attribute K) → ℕ → List Edit
  come [] old number = []
  come (a ∷ rest) old number = one_come number old a a.value ++ come rest old number

  -- the attribute slots of a matched block, together
  abbrev pub attributes_written : List (Place × Kind × ℕ) → Place → Template → List (List (Attribute K)) → List (List (Attribute K))
      → List Edit
  attributes_written numbers above whole new old =
      let number : List ℕ → ℕ → ℕ = λ up i. number_at numbers (place_in whole above up i) an_element in
      attribute_pass (λ k n. left (attributes_in old k) (attributes_in new k) n) number [] 0 whole.roots
      ++
      attribute_pass (λ k n. come (attributes_in new k) (attributes_in old k) n) number [] 0 whole.roots

module _ (K : Types) where
  -- one side of a scope in the two states, the nodes of its child scopes there, what they write,
  -- the place that was refused there, and the scopes on the way to the refusal
  pub record Both : Type 0 where
    -- the side before the unit
    pub old : Side K
    -- the side after it
    pub new : Side K
    -- the nodes of a child scope before
    pub old_child : ℕ → Forest
    -- the nodes of a child scope after
    pub new_child : ℕ → Forest
    -- what a child scope writes
    pub under : ℕ → Written
    -- the refused place, or the way to it
    pub stop : Option Place
    -- whether a scope is on the way to the refusal
    pub on_way : ℕ → Bool

-- each scope on the way to a refusal, with the side and the place that is served there; no place where all are passed
abbrev pub Way : Type 0
Way = List (ℕ × (Option SideName × Option Place))

-- the place on this side that is refused or leads to the refusal
abbrev pub stop_on : SideName → Option (Option SideName × Option Place) → Option Place
stop_on side None = None
stop_on side (Some (None, place)) = None
stop_on side (Some (Some other, place)) = if same_side other side then place else None

module _ {K : Types} where
  -- the way goes on at the parent, where there is one
  abbrev pub way_from : State K → (ℕ → ℕ → SideName → Way) → ℕ → Option (Scope K) → Way
  way_from v go s None = []
  way_from v go s (Some x) = elim x.parent [ None ↦ [] | Some p ↦ go p s x.below ]

  -- where a scope stands in its parent's tree
  abbrev pub place_in_parent : State K → ℕ → SideName → ℕ → Option Place
  place_in_parent v p side s = elim (at v.scopes p) [ None ↦ None | Some x ↦ place_of_child (side_of x side).children s ]

  -- from a scope up to the root, at most n steps
  abbrev pub way_up : State K → ℕ → ℕ → Option SideName → Option Place → Way
  way_up v zero s side place = (s, (side, place)) ∷ []
  way_up v (suc n) s side place =
      (s, (side, place))
      ∷
      way_from v (λ p child below. way_up v n p (Some below) (place_in_parent v p below child)) s (at v.scopes s)

  -- the way to the item that was refused; none where the unit's own call was
  abbrev pub way_to : State K → Option (Item K) → Way
  way_to v None = []
  way_to v (Some (Draw s side p k)) = way_up v (length v.scopes) s (Some side) (Some p)
  way_to v (Some (Make s side p c)) = way_up v (length v.scopes) s (Some side) (Some p)
  way_to v (Some (Feed s side p c)) = way_up v (length v.scopes) s (Some side) (Some p)
  way_to v (Some (Row b step)) = way_up v (length v.scopes) b None None
  way_to v (Some (Drop t s side)) = way_up v (length v.scopes) s (Some side) None

module _ {K : Types} (app : Application K) where
  -- one of these items is the refused place or holds it
  abbrev pub any_around : Place → ℕ → Option Place → Trees K → Bool
  any_around place i stop no_trees = false
  any_around place i stop (more_trees t ts) = is_around (place ++ item i ∷ []) stop || any_around place (i + 1) stop ts

  -- what a matched child scope writes; nothing where it was to be fed and was refused
  abbrev pub child_written : Both K → Place → Option ℕ → Written
  child_written b place None = writes []
  child_written b place (Some t) = if is_place place b.stop && not (b.on_way t) then halts else b.under t

  -- a slot's old nodes give way to its new ones
  abbrev pub slot_replaced : Both K → Place → Slot K → Slot K → Written
  slot_replaced b place new old =
      built_whole b.stop place (replaced_by (slot_view b.old b.old_child old place) (slot_view b.new b.new_child new place))

  abbrev mutual
    -- what a matched tree writes: its attributes, then its slots; an unmatched one is replaced
    pub tree_written : Both K → Place → Tree K → Tree K → Written
    tree_written b above (block template given slots) old =
        if same_template template (template_of old)
        then
        then_on
        (writes (attributes_written b.old.numbers above template given (attributes_of old)))
        (slot_pass (λ k place. slots_written b slots (slots_of old) k place) (place_in template above) [] 0 template.roots)
        else
        built_whole
        b.stop
        above
        (replaced_by (tree_view b.old b.old_child above old) (tree_view b.new b.new_child above (block template given slots)))

    -- what the slot with a number writes
    pub slots_written : Both K → Slots K → Slots K → ℕ → Place → Written
    slots_written b no_slots old k place = writes []
    slots_written b (more_slots v rest) old zero place = slot_written b place v (first_slot old)
    slots_written b (more_slots v rest) old (suc k) place = slots_written b rest (rest_slots old) k place

    -- what a slot writes, by what stood in it and what stands there now
    pub slot_written : Both K → Place → Slot K → Slot K → Written
    slot_written b place (text_slot t) (text_slot u) =
        if same_numbers u t then writes [] else writes (SetNodeText (number_at b.old.numbers place a_text) t ∷ [])
    slot_written b place placeholder_slot placeholder_slot = writes []
    slot_written b place (component_slot c) (component_slot d) =
        if is_same_component app d c
        then child_written b place (child_at b.old.children place)
        else slot_replaced b place (component_slot c) (component_slot d)
    slot_written b place (fragment_slot no_trees) (fragment_slot no_trees) = writes []
    slot_written b place (fragment_slot (more_trees y ys)) (fragment_slot (more_trees x xs)) =
        items_written b place 0 0 (more_trees y ys) (more_trees x xs)
    slot_written b place new old = slot_replaced b place new old

    -- pairs in order, then what is new after the last node of the item before, or what is over is removed
    pub items_written : Both K → Place → ℕ → ℕ → Trees K → Trees K → Written
    items_written b place i last no_trees old = writes (removals (items_view b.old b.old_child i place old))
    items_written b place i last (more_trees y ys) no_trees =
        if any_around place i b.stop (more_trees y ys)
        then halts
        else writes (InsertNodesAfter last (items_view b.new b.new_child i place (more_trees y ys)) ∷ [])
    items_written b place i last (more_trees y ys) (more_trees x xs) =
        then_on
        (tree_written b (place ++ item i ∷ []) y x)
        (items_written b place (i + 1) (last_of last (tree_view b.new b.new_child (place ++ item i ∷ []) y)) ys xs)

  -- what an output writes where there was one before
  abbrev pub outputs_written : Both K → Option (Tree K) → Option (Tree K) → Written
  outputs_written b (Some new) (Some old) = tree_written b [] new old
  outputs_written b _ _ = writes []

  -- what a side of a scope writes
  abbrev pub side_written : State K → State K → Way → (ℕ → Written) → ℕ → Scope K → Scope K → SideName → Written
  side_written w v way under s old new side =
      outputs_written
      (record {
        old = side_of old side;
        new = side_of new side;
        old_child = λ t. nodes_of w t;
        new_child = λ t. nodes_of v t;
        under = under;
        stop = stop_on side (at way s);
        on_way = λ t. is_some (at way t);
      })
      (side_of new side).output
      (side_of old side).output

  -- the side that shows in both states, or one side in place of the other
  abbrev pub sides_written : State K → State K → Way → (ℕ → Written) → ℕ → Scope K → Scope K → Option SideName → Option SideName → Written
  sides_written w v way under s old new (Some a) (Some b) =
      if same_side a b then side_written w v way under s old new a else writes (replaced_by (nodes_of w s) (nodes_of v s))
  sides_written w v way under s old new _ _ = writes []

  -- after what a scope on the way to the refusal wrote nothing more is written
  abbrev pub scope_written : State K → State K → Way → (ℕ → Written) → ℕ → Option (Scope K) → Option (Scope K) → Written
  scope_written w v way under s (Some old) (Some new) = sides_written w v way under s old new old.shows new.shows
  scope_written w v way under s _ _ = writes []

  -- what a scope writes, at most n scopes deep; a scope that isn't shown in both states writes nothing
  abbrev pub written_within : Way → State K → State K → ℕ → ℕ → Written
  written_within way w v zero s = writes []
  written_within way w v (suc n) s =
      then_on
      (if is_shown w s && is_shown v s
      then scope_written w v way (λ t. written_within way w v n t) s (at w.scopes s) (at v.scopes s)
      else writes [])
      (if is_some (at way s) then halts else writes [])

  -- what a rerun of the scope writes
  abbrev pub written : State K → State K → ℕ → List Edit
  written w v s = (written_within [] w v (length w.scopes) s).edits

  -- what the build or a unit writes, by the entry that began it
  abbrev pub caused : State K → State K → Entry → List Edit
  caused w v Build = AppendChildren 0 (view v) ∷ []
  caused w v (Rerun s) = written w v s
  caused w v _ = []

  -- what was taken of a unit that ended in a fault; nothing where its own call was refused
  abbrev pub caused_until : State K → State K → Option (Item K) → Entry → List Edit
  caused_until w v (Some refused) (Rerun s) = (written_within (way_to v (Some refused)) w v (length w.scopes) s).edits
  caused_until w v _ _ = []
