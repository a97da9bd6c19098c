-- Rows of patches: a listener that moves between two slots, a fragment that grows, one that empties.
use Rattle.std.specs.Prelude.{ℕ, false, List, [], ◌∷◌, ◌++◌, None, codes, map, ◌≡◌}
use Rattle.rt_model.specs.Lists.{Text, joined}
use Rattle.rt_model.specs.Tree.{Types, from_slot, no_nodes, element_node, slot_node, Template, template_with, listener, Attribute, Tree, block, no_slots, more_slots, text_slot, fragment_slot, Trees, no_trees, more_trees, inside, item, Place, Kind, an_element, a_text, an_empty_fragment}
use Rattle.rt_model.specs.World.{Application}
use Rattle.rt_model.specs.Document.{DocElement, DocText, DocPlaceholder, Empty, Node, ReplaceNodeWith, InsertNodesAfter, RemoveNode, CreateEventListener, RemoveEventListener}
use Rattle.rt_model.specs.Caused.{Both, writes}
use Rattle.tree_marks.specs.Marks.{Mark, stays, comes, given, worded, come_in, tree_marks}
use Rattle.tree_marks.specs.Deeds.{gone_at}
use Rattle.tree_marks.specs.Writing.{all_written}

-- an element of two attribute slots
abbrev pub p_template : Template
p_template = template_with (element_node (codes "p") None (from_slot 0 ∷ from_slot 1 ∷ []) no_nodes no_nodes)

-- an element with a slot for its items
abbrev pub ul_template : Template
ul_template = template_with (element_node (codes "ul") None [] (slot_node 0 no_nodes) no_nodes)

-- an item with a slot for its text
abbrev pub li_template : Template
li_template = template_with (element_node (codes "li") None [] (slot_node 0 no_nodes) no_nodes)

-- the number of the first element
abbrev pub p_numbers : List (Place × Kind × ℕ)
p_numbers = (inside p_template (0 ∷ []) ∷ [], an_element, 1) ∷ []

-- a place in an item
abbrev pub in_ul : ℕ → List ℕ → Place
in_ul i path = inside ul_template (0 ∷ 0 ∷ []) ∷ item i ∷ inside li_template path ∷ []

-- the numbers of an item's element and text
abbrev pub li_numbers : ℕ → ℕ → ℕ → List (Place × Kind × ℕ)
li_numbers i element text = (in_ul i (0 ∷ []), an_element, element) ∷ (in_ul i (0 ∷ 0 ∷ []), a_text, text) ∷ []

-- the numbers of a list of no item
abbrev pub no_item : List (Place × Kind × ℕ)
no_item = (inside ul_template (0 ∷ []) ∷ [], an_element, 1) ∷ (inside ul_template (0 ∷ 0 ∷ []) ∷ [], an_empty_fragment, 8) ∷ []

-- of one
abbrev pub one_item : List (Place × Kind × ℕ)
one_item = (inside ul_template (0 ∷ []) ∷ [], an_element, 1) ∷ li_numbers 0 2 3

-- of two
abbrev pub two_items : List (Place × Kind × ℕ)
two_items = one_item ++ li_numbers 1 4 5

-- of three
abbrev pub three_items : List (Place × Kind × ℕ)
three_items = two_items ++ li_numbers 2 6 7

module _ {K : Types} where
  -- a listener
  abbrev pub clicks : K.Handler → Attribute K
  clicks handler = record { name = codes "onclick"; namespace = None; value = listener 0 handler }

  -- an item
  abbrev pub li : Text → Tree K
  li text = block li_template [] (more_slots (text_slot text) no_slots)

  -- a list of items
  abbrev pub ul : Trees K → Tree K
  ul items = block ul_template [] (more_slots (fragment_slot items) no_slots)

  -- a side with these numbers, and another one, with no child scope
  abbrev pub between : List (Place × Kind × ℕ) → List (Place × Kind × ℕ) → Both K
  between old new =
      record {
        old = record { output = None; numbers = old; children = [] };
        new = record { output = None; numbers = new; children = [] };
        old_child = λ t. Empty;
        new_child = λ t. Empty;
        under = λ t. writes [];
        stop = None;
        on_way = λ t. false;
      }

  module _ (app : Application K) where
    -- the listener moves from the first slot to the second
    abbrev pub moved : K.Handler → List (Mark K)
    moved handler =
        tree_marks app [] (block p_template ((clicks handler ∷ []) ∷ [] ∷ []) no_slots)
        (block p_template ([] ∷ (clicks handler ∷ []) ∷ []) no_slots)

    -- a list of one item has two
    abbrev pub grown : List (Mark K)
    grown =
        tree_marks app [] (ul (more_trees (li (codes "a")) (more_trees (li (codes "b")) no_trees)))
        (ul (more_trees (li (codes "a")) no_trees))

    -- a list of three items has none
    abbrev pub emptied : List (Mark K)
    emptied =
        tree_marks app [] (ul no_trees)
        (ul (more_trees (li (codes "0")) (more_trees (li (codes "1")) (more_trees (li (codes "2")) no_trees))))

-- unlisten #1 onclick; listen #1 onclick
abbrev pub RowMoves : {K : Types} → Application K → K.Handler → Type 0
RowMoves app handler =
    all_written app (between p_numbers p_numbers) (moved app handler)
    ≡ RemoveEventListener 1 (codes "onclick") ∷ CreateEventListener 1 (codes "onclick") ∷ []

-- drawn #4 0.1 0; drawn #5 0.1 0 0; after #2 (li#4 "b"#5)
pub record RowGrows {K : Types} (app : Application K) : Type 0 where
  -- what is written
  pub edits : all_written app (between one_item two_items) (grown app)
      ≡ InsertNodesAfter 2 (Node 4 (DocElement (codes "li") None [] []) (Node 5 (DocText (codes "b")) Empty Empty) Empty) ∷ []
  -- what is met
  pub marks : grown app
      ≡ given [] ul_template [] []
      ∷ stays (inside ul_template (0 ∷ []) ∷ []) an_element
      ∷ given (inside ul_template (0 ∷ 0 ∷ []) ∷ item 0 ∷ []) li_template [] []
      ∷ stays (in_ul 0 (0 ∷ [])) an_element
      ∷ stays (in_ul 0 (0 ∷ 0 ∷ [])) a_text
      ∷ worded (in_ul 0 (0 ∷ 0 ∷ [])) (codes "a") (codes "a")
      ∷ comes (in_ul 1 (0 ∷ [])) an_element
      ∷ comes (in_ul 1 (0 ∷ 0 ∷ [])) a_text
      ∷ come_in (inside ul_template (0 ∷ 0 ∷ []) ∷ []) (li (codes "a") ∷ []) 1 (more_trees (li (codes "b")) no_trees)
      ∷ []

-- replace #2 _#8; remove #4; remove #6; gone #2; gone #3; gone #4; gone #5; gone #6; gone #7
pub record RowEmpties {K : Types} (app : Application K) : Type 0 where
  -- what is written
  pub edits : all_written app (between three_items no_item) (emptied app)
      ≡ ReplaceNodeWith 2 (Node 8 DocPlaceholder Empty Empty) ∷ RemoveNode 4 ∷ RemoveNode 6 ∷ []
  -- the numbers that go
  pub gone : joined (map (gone_at three_items) (emptied app)) ≡ 2 ∷ 3 ∷ 4 ∷ 5 ∷ 6 ∷ 7 ∷ []
