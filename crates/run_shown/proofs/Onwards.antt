-- Where a number stands at one place of a side alone, it is found on the way there, step by step.
use Rattle.std.proofs.Common.{ℕ, zero, suc, ◌+◌, ◌<◌, Bool, true, false, List, [], ◌∷◌, ◌++◌, ◌≡◌, ◌≢◌, refl, sym, ap, ◌∙◌, map, length, get_or, nat_eq, arith}
use Rattle.std.specs.Prelude.{Option, Some, None, slice_get, if◌then◌else◌}
use Rattle.std.specs.Borrow.{Bor}
use Rattle.std.proofs.lemmas.List.{append_assoc}
use Rattle.tree_nodes.specs.declared.template.TemplateParts.{TemplateParts as CodeTemplate}
use Rattle.tree_nodes.specs.declared.template.TemplateAttribute.{TemplateAttribute}
use Rattle.tree_nodes.specs.declared.template.TemplateNode.{TemplateNode}
use Rattle.tree_nodes.specs.declared.template.TemplateNode.TheVariants as nodes
use Rattle.tree_nodes.specs.declared.template.TemplateNode.TheOpen.{TemplateNode-F}
use Rattle.tree_nodes.specs.declared.template.TemplateNode.TheViews.{out-TemplateNode}
use Rattle.tree_nodes.specs.declared.vnode.VNode.{VNode}
use Rattle.rt_model.specs.OneLog.{types}
use Rattle.rt_model.specs.Lists.{first_of, has}
use Rattle.rt_model.specs.Tree as model
use Rattle.rt_model.specs.Tree.{TemplateNodes, no_nodes, Template, Place, Step, inside, item, an_element, a_static_text}
use Rattle.rt_model.specs.Heard.{Climb, below_element, find_child, find_nodes, find_slots, number_at, slots_on}
use Rattle.rt_model.proofs.Maps.{pick_false}
use Rattle.tree_mirror.specs.Mirror.{all_before, attribute_in, before_step, slots_from}
use Rattle.tree_mirror.specs.Sealed.{node_before, nodes_of, slot_of, template_of, tree_of}
use Rattle.tree_mirror.proofs.SealedNodes.{before_out, below}
use Rattle.run_places.specs.declared.place.Step.{Step as CodeStep}
use Rattle.run_places.specs.declared.side.Side.{Side}
use Rattle.run_places.specs.Places.{at_path, side_of}
use Rattle.run_places.specs.Sides.{child_in, number_in}
use Rattle.run_places.specs.Trails.{place_on}
use Rattle.run_places.proofs.Keyed.{got_there}
use Rattle.run_shown.specs.declared.climb.Climbed.{Climbed}
use Rattle.run_shown.specs.declared.climb.Rooted.{Rooted}
use Rattle.run_shown.specs.declared.look.Look.{Look}
use Rattle.run_shown.specs.declared.sought.Sought.{Sought}
use Rattle.run_shown.specs.Climbs.{climb_within, entries_slots, items_climb, items_climb_in, node_climb, node_climb_in, row_climb, row_climb_in, scope_climb, slots_of, tree_climb, tree_climb_in}
use Rattle.run_shown.specs.Leading.{IsOnly, IsOnlyAlong, IsOnlyBelow, IsOnlyFrom, IsOnlyInside, LeadsTo, Misses}
use Rattle.run_shown.proofs.Children.{number_other}
use Rattle.run_shown.proofs.Climbing.{node_Element, nodes_in, row_is, slot_in}
use Rattle.run_shown.proofs.Elsewhere.{Lacks, LacksFrom, lacks_here, no_leaf, nodes_none, slots_none, tree_none}
use Rattle.run_shown.proofs.OneByOne.{nil-right}

-- one of a row alone gives something

module _ {A B : Type 0} (of : ℕ → A → Option B) (all : ℕ → List A → Option B)
    (empty : (i : ℕ) → all i [] ≡ None) (more : (i : ℕ) (x : A) (xs : List A) → all i (x ∷ xs) ≡ first_of (of i x) (all (i + 1) xs))
    (j : ℕ) (others : (i : ℕ) (x : A) → i ≢ j → of i x ≡ None) where
  none_past : (i : ℕ) (xs : List A) → j < i → all i xs ≡ None
  none_past i [] past = empty i
  none_past i (x ∷ xs) past =
      more i x xs
      ∙ ap (λ (o : Option B). first_of o (all (i + 1) xs)) (others i x (λ same. absurd (let wrong : ⊥ = omega (arith, same) in wrong)))
      ∙ none_past (i + 1) xs (omega arith)

  first_none : (o : Option B) → first_of o None ≡ o
  first_none None = refl
  first_none (Some x) = refl

  one_of_row : (i : ℕ) (xs : List A) (k : ℕ) (x : A) → i + k ≡ j → slice_get xs k ≡ Some x → all i xs ≡ of j x
  one_of_row i [] k x sum there = cc
  one_of_row i (y ∷ ys) zero x sum there =
      let here : i ≡ j = omega (arith, sum) in
      let same : y ≡ x = cc there in
      more i y ys
      ∙ ap (λ (o : Option B). first_of (of i y) o) (none_past (i + 1) ys (omega (arith, sum)))
      ∙ first_none (of i y)
      ∙ (λ t. of (here t) (same t))
  one_of_row i (y ∷ ys) (suc k) x sum there =
      more i y ys
      ∙ ap (λ (o : Option B). first_of o (all (i + 1) ys)) (others i y (λ same. absurd (let wrong : ⊥ = omega (arith, sum, same) in wrong)))
      ∙ one_of_row (i + 1) ys k x (omega (arith, sum)) there

-- what follows on one front is one
same_front : {A : Type 0} (front a b : List A) → front ++ a ≡ front ++ b → a ≡ b
same_front [] a b h = h
same_front (x ∷ front) a b h = same_front front a b (let rest : front ++ a ≡ front ++ b = cc h in rest)

same_head : {A : Type 0} (x y : A) (a b : List A) → x ∷ a ≡ y ∷ b → x ≡ y
same_head x y a b h = cc h

same_tail : {A : Type 0} (x y : A) (a b : List A) → x ∷ a ≡ y ∷ b → a ≡ b
same_tail x y a b h = cc h

not_nothing : {A : Type 0} (x : A) (xs : List A) → x ∷ xs ≡ [] → ⊥
not_nothing x xs h = let wrong : ⊥ = cc h in wrong

pub not_ended : (b : Bool) → b ≡ false → b ≡ true → ⊥
not_ended true h k = cc
not_ended false h k = cc

same_path : (t u : Template) (p q : List ℕ) (a b : Place) → inside t p ∷ a ≡ inside u q ∷ b → p ≡ q
same_path t u p q a b h = cc h

same_position : (i j : ℕ) (a b : Place) → item i ∷ a ≡ item j ∷ b → i ≡ j
same_position i j a b h = cc h

module _ {P C Q V H T E L : Type 0} where
  -- what is missed at a place is missed where it stands

  pub misses_at : (side : Side P C Q V H T E L) (sought : Sought) (p q : Place) → p ≡ q → Misses side sought q → Misses side sought p
  misses_at side sought p q same h = record {
    number = λ k. ap (λ (z : Place). nat_eq (number_in side z k) sought.number) same ∙ h.number k;
    child = λ t there. h.child t (sym (ap (λ (z : Place). child_in side z) same) ∙ there);
  }

  -- and found there is nothing

  within_none : (look : Look P C Q V H T E L) (number n t : ℕ) → scope_climb look number n t ≡ None → climb_within look number n t ≡ None
  unfolding scope_climb
  within_none look number n t h = h

  lacks_by : (look : Look P C Q V H T E L) (sought : Sought) (n : ℕ) (side : Side P C Q V H T E L) → LeadsTo look sought → (q : Place) → Misses side sought q
      → Lacks (side_of side) sought.number (λ t. climb_within look sought.number n t) q
  lacks_by look sought n side leads q misses = record { leaf = misses.number; child = by (child_in side q) refl }
    where
      by : (o : Option ℕ) → child_in side q ≡ o → find_child (λ t. climb_within look sought.number n t) o ≡ None
      by None is = refl
      by (Some t) is = within_none look sought.number n t (leads.others n t (misses.child t is))

  -- the way goes on

  pub below_root : (side : Side P C Q V H T E L) (sought : Sought) (p above rest : Place) → above ≡ [] → rest ≡ p → IsOnly side sought p → IsOnlyBelow side sought above rest
  below_root side sought p above rest top same only = λ x r apart.
      misses_at side sought (above ++ x ∷ r) (x ∷ r) (ap (λ (z : Place). z ++ x ∷ r) top) (only (x ∷ r) (λ e. apart (e ∙ sym same)))

  pub below_same : (side : Side P C Q V H T E L) (sought : Sought) (above rest other : Place) → rest ≡ other → IsOnlyBelow side sought above rest → IsOnlyBelow side sought above other
  below_same side sought above rest other same only = λ x r apart. only x r (λ e. apart (e ∙ same))

  pub from_same : (side : Side P C Q V H T E L) (sought : Sought) (place rest other : Place) → rest ≡ other → IsOnlyFrom side sought place rest → IsOnlyFrom side sought place other
  from_same side sought place rest other same only = λ r apart. only r (λ e. apart (e ∙ same))

  pub along_same : (side : Side P C Q V H T E L) (sought : Sought) (whole : Template) (above : Place) (goal other : List ℕ) (rest : Place) → goal ≡ other
      → IsOnlyAlong side sought whole above goal rest → IsOnlyAlong side sought whole above other rest
  along_same side sought whole above goal other rest same only = λ path r apart. only path r (λ e. apart (e ∙ same))

  -- inside a template
  pub inside_tree : (side : Side P C Q V H T E L) (sought : Sought) (whole template : Template) (above : Place) (path goal : List ℕ) (rest : Place) → goal ≡ path
      → IsOnlyBelow side sought above (inside template path ∷ rest) → IsOnlyAlong side sought whole above goal rest
  inside_tree side sought whole template above path goal rest same only = λ other r apart.
      misses_at side sought (at_path whole above other ++ r) (above ++ inside whole other ∷ r) (append_assoc above (inside whole other ∷ []) r)
      (only (inside whole other) r (λ e. apart (same_path whole template other path r rest e ∙ sym same) (same_tail (inside whole other) (inside template path) r rest e)))

  -- at the node with the path
  pub from_inside : (side : Side P C Q V H T E L) (sought : Sought) (whole : Template) (above : Place) (own path : List ℕ) (place rest : Place) → place ≡ at_path whole above own
      → IsOnlyAlong side sought whole above (own ++ path) rest → path ≡ [] → IsOnlyFrom side sought place rest
  from_inside side sought whole above own path place rest there only none = λ r apart.
      misses_at side sought (place ++ r) (at_path whole above own ++ r) (ap (λ (z : Place). z ++ r) there) (only own r (λ e. apart))

  -- in an item
  pub below_item : (side : Side P C Q V H T E L) (sought : Sought) (place above : Place) (position : ℕ) (rest : Place) → above ≡ place ++ item position ∷ []
      → IsOnlyFrom side sought place (item position ∷ rest) → IsOnlyBelow side sought above rest
  below_item side sought place above position rest there only = λ x r apart.
      misses_at side sought (above ++ x ∷ r) (place ++ item position ∷ x ∷ r)
      (ap (λ (z : Place). z ++ x ∷ r) there ∙ append_assoc place (item position ∷ []) (x ∷ r))
      (only (item position ∷ x ∷ r) (λ e. apart (same_tail (item position) (item position) (x ∷ r) rest e)))

  -- nothing is found where all is missed

  module _ (look : Look P C Q V H T E L) (sought : Sought) (n : ℕ) (side : Side P C Q V H T E L) (leads : LeadsTo look sought) where
    lacks_from : (place : Place) → ((r : Place) → Misses side sought (place ++ r)) → LacksFrom (side_of side) sought.number (λ t. climb_within look sought.number n t) place
    lacks_from place h r = lacks_by look sought n side leads (place ++ r) (h r)

    -- in a tree
    tree_missed : (tree : VNode P C Q V H T E L) (above : Place) → ((x : Step) (r : Place) → Misses side sought ((above ++ x ∷ []) ++ r)) → tree_climb look sought.number n side tree above ≡ None
    unfolding tree_climb
    tree_missed tree above h =
        tree_none (side_of side) sought.number (λ t. climb_within look sought.number n t) above (tree_of tree) (λ x. lacks_from (above ++ x ∷ []) (h x))

    module _ (tree : VNode P C Q V H T E L) (above : Place) where
      -- at a node with a path and at all below it
      abbrev MissesAll : List ℕ → Type 0
      MissesAll path = (r : Place) → Misses side sought (at_path (template_of tree.template) above path ++ r)

      own_lacks : (path : List ℕ) → MissesAll path → Lacks (side_of side) sought.number (λ t. climb_within look sought.number n t) (at_path (template_of tree.template) above path)
      own_lacks path h =
          lacks_here (side_of side) sought.number (λ t. climb_within look sought.number n t) (at_path (template_of tree.template) above path)
          (lacks_from (at_path (template_of tree.template) above path) h)

      slot_missed : (k : ℕ) (path : List ℕ) → MissesAll path → slot_in look sought.number n side tree k (at_path (template_of tree.template) above path) ≡ None
      slot_missed k path h =
          slots_none (side_of side) sought.number (λ t. climb_within look sought.number n t) (slots_from (map slot_of tree.dynamic_nodes)) k (at_path (template_of tree.template) above path)
          (lacks_from (at_path (template_of tree.template) above path) h)

      nodes_missed : (up : List ℕ) (i : ℕ) (ns : TemplateNodes) → ((j : ℕ) (path : List ℕ) → MissesAll (up ++ j ∷ path)) → nodes_in look sought.number n side tree above up i ns ≡ None
      nodes_missed up i ns h =
          nodes_none (side_of side) sought.number (λ t. climb_within look sought.number n t) (template_of tree.template) above (slots_of tree.dynamic_attrs)
          (λ k place. slot_in look sought.number n side tree k place) up i ns
          (λ j path. own_lacks (up ++ j ∷ path) (h j path))
          (λ k j path. slot_missed k (up ++ j ∷ path) (h j path))

      below_path : (up : List ℕ) (i : ℕ) → ((path : List ℕ) → MissesAll (up ++ i ∷ path)) → (j : ℕ) (path : List ℕ) → MissesAll ((up ++ i ∷ []) ++ j ∷ path)
      below_path up i h j path r =
          misses_at side sought (at_path (template_of tree.template) above ((up ++ i ∷ []) ++ j ∷ path) ++ r) (at_path (template_of tree.template) above (up ++ i ∷ j ∷ path) ++ r)
          (ap (λ (ps : List ℕ). at_path (template_of tree.template) above ps ++ r) (append_assoc up (i ∷ []) (j ∷ path)))
          (h (j ∷ path) r)

      level_missed : (up : List ℕ) (i : ℕ) (y : TemplateNode-F (TemplateNodes → TemplateNodes)) → ((path : List ℕ) → MissesAll (up ++ i ∷ path))
          → nodes_in look sought.number n side tree above up i (before_step y no_nodes) ≡ None
      level_missed up i (TemplateNode-F.Element tag namespace attrs children) h =
          let slots : List (List (model.Attribute (types C Q V H T E L))) = slots_on (slots_of tree.dynamic_attrs) (map attribute_in attrs) in
          let inner : Option (Climb (types C Q V H T E L)) = nodes_in look sought.number n side tree above (up ++ i ∷ []) 0 (all_before children no_nodes) in
          ap (λ (o : Option (Climb (types C Q V H T E L))). first_of o None)
          (
          pick_false (Some (slots ∷ [])) (below_element slots inner) ((own_lacks (up ++ i ∷ []) (h [])).leaf an_element)
          ∙ ap (λ (o : Option (Climb (types C Q V H T E L))). below_element slots o) (nodes_missed (up ++ i ∷ []) 0 (all_before children no_nodes) (below_path up i h))
          )
      level_missed up i (TemplateNode-F.Text text) h =
          ap (λ (o : Option (Climb (types C Q V H T E L))). first_of o None)
          (no_leaf (side_of side) sought.number (λ t. climb_within look sought.number n t) (number_in side (at_path (template_of tree.template) above (up ++ i ∷ [])) a_static_text)
          ((own_lacks (up ++ i ∷ []) (h [])).leaf a_static_text))
      level_missed up i (TemplateNode-F.Dynamic id) h =
          ap (λ (o : Option (Climb (types C Q V H T E L))). first_of o None) (slot_missed id (up ++ i ∷ []) (h []))

      -- in one node
      node_missed : (up : List ℕ) (i : ℕ) (node : TemplateNode) → ((path : List ℕ) → MissesAll (up ++ i ∷ path)) → node_climb look sought.number n side tree above up i node ≡ None
      unfolding node_climb
      node_missed up i node h = ap (λ ns. nodes_in look sought.number n side tree above up i ns) (before_out node no_nodes) ∙ level_missed up i (below (out-TemplateNode node)) h

      -- in a row of them
      row_missed : (up : List ℕ) (row : List TemplateNode) → ((j : ℕ) (path : List ℕ) → MissesAll (up ++ j ∷ path)) → row_climb look sought.number n side tree above up 0 row ≡ None
      row_missed up row h = row_is look sought.number n side tree above up 0 row ∙ nodes_missed up 0 (nodes_of row) h

  -- so of a template's nodes one alone leads on

  module _ (standing : Rooted P C Q V H T E L) (sought : Sought) (leads : LeadsTo (standing.shown.now).look.now sought) (up : List ℕ) (i : ℕ) (path : List ℕ) (rest : Place)
      (only : IsOnlyInside standing sought ((up ++ i ∷ []) ++ path) rest) where
    pub row_onward : (row : List TemplateNode) (node : TemplateNode) (found : Option (Climb (types C Q V H T E L))) → i < length row → node ≡ get_or row i node
        → found ≡ node_climb_in standing sought.number up i node → found ≡ row_climb_in standing sought.number up 0 row
    row_onward row node found low at_index is =
        let shown = standing.shown.now in
        let tree = standing.tree.now in
        let above = place_on standing.above.now in
        let start : 0 + i ≡ i = omega arith in
        is ∙ sym
        (one_of_row
        (λ j x. node_climb shown.look.now sought.number shown.depth shown.side.now tree above up j x)
        (λ j xs. row_climb shown.look.now sought.number shown.depth shown.side.now tree above up j xs)
        (λ j. refl) (λ j x xs. refl) i
        (
        λ j x apart.
        node_missed shown.look.now sought shown.depth shown.side.now leads tree above up j x
        (λ p r. only (up ++ j ∷ p) r (λ e. absurd (apart (same_head j i p path (same_front up (j ∷ p) (i ∷ path) (e ∙ append_assoc up (i ∷ []) path))))))
        )
        0 row i node start (got_there row i node low at_index))

    module _ (tag : List ℕ) (namespace : Option (List ℕ)) (attrs : List TemplateAttribute) (children : List TemplateNode) (node : TemplateNode) (is : node ≡ nodes.Element tag namespace attrs children)
        (slots : List (List (model.Attribute (types C Q V H T E L)))) (same : slots ≡ entries_slots (standing.tree.now).dynamic_attrs attrs) (found : Option (Climb (types C Q V H T E L))) where
      abbrev own_place : Place
      own_place = at_path (template_of (standing.tree.now).template) (place_on standing.above.now) (up ++ i ∷ [])

      node_is : node_climb_in standing sought.number up i node
          ≡ (if nat_eq (number_in (standing.shown.now).side.now own_place an_element) sought.number
          then Some (slots ∷ []) else below_element slots (row_climb_in standing sought.number (up ++ i ∷ []) 0 children))
      node_is =
          let shown = standing.shown.now in
          ap (λ x. node_climb_in standing sought.number up i x) is
          ∙ node_Element shown.look.now sought.number shown.depth shown.side.now standing.tree.now (place_on standing.above.now) up i tag namespace attrs children
          ∙ ap
          (λ z. if nat_eq (number_in shown.side.now own_place an_element) sought.number then Some (z ∷ []) else below_element z (row_climb_in standing sought.number (up ++ i ∷ []) 0 children))
          (sym same)

      -- at the end of the path the element itself has the number, or nothing has
      pub element_end : (place : Place) → path ≡ [] → place ≡ own_place
          → found ≡ (if nat_eq (number_in (standing.shown.now).side.now place an_element) sought.number then Some (slots ∷ []) else None)
          → found ≡ node_climb_in standing sought.number up i node
      element_end place end there own =
          let shown = standing.shown.now in
          own
          ∙ ap (λ (z : Place). if nat_eq (number_in shown.side.now z an_element) sought.number then Some (slots ∷ []) else None) there
          ∙ ap
          (λ (o : Option (Climb (types C Q V H T E L))). if nat_eq (number_in shown.side.now own_place an_element) sought.number then Some (slots ∷ []) else below_element slots o)
          (sym
          (row_missed shown.look.now sought shown.depth shown.side.now leads standing.tree.now (place_on standing.above.now) (up ++ i ∷ []) children
          (λ j p r. only ((up ++ i ∷ []) ++ j ∷ p) r (λ e. absurd (not_nothing j p (same_front (up ++ i ∷ []) (j ∷ p) path e ∙ end))))))
          ∙ sym node_is

      -- before it the element doesn't have it
      pub element_onward : (inner : Option (Climb (types C Q V H T E L))) (under : List ℕ) (row : List TemplateNode) → path ≢ [] → under ≡ up ++ i ∷ [] → row ≡ children
          → inner ≡ row_climb_in standing sought.number under 0 row → found ≡ below_element slots inner → found ≡ node_climb_in standing sought.number up i node
      element_onward inner under row some below_it whole within own =
          let shown = standing.shown.now in
          let missed : Misses shown.side.now sought own_place =
          misses_at shown.side.now sought own_place (own_place ++ []) (sym (nil-right own_place))
          (only (up ++ i ∷ []) [] (λ e. absurd (some (sym (same_front (up ++ i ∷ []) [] path (nil-right (up ++ i ∷ []) ∙ e)))))) in
          own
          ∙ ap (λ (o : Option (Climb (types C Q V H T E L))). below_element slots o) (within ∙ (λ t. row_climb_in standing sought.number (below_it t) 0 (whole t)))
          ∙ sym
          (node_is
          ∙ pick_false (Some (slots ∷ [])) (below_element slots (row_climb_in standing sought.number (up ++ i ∷ []) 0 children)) (missed.number an_element))

  -- and of a fragment's items
  pub items_onward : (shown : Climbed P C Q V H T E L) (sought : Sought) → LeadsTo shown.look.now sought → (place above : Place) (position : ℕ) (rest : Place) (trees : List (VNode P C Q V H T E L)) (tree : VNode P C Q V H T E L)
      (found : Option (Climb (types C Q V H T E L))) → IsOnlyFrom shown.side.now sought place (item position ∷ rest) → position < length trees → tree ≡ get_or trees position tree
      → above ≡ place ++ item position ∷ [] → found ≡ tree_climb_in shown sought.number tree above → found ≡ items_climb_in shown sought.number place trees
  items_onward shown sought leads place above position rest trees tree found only low at_position there is =
      let start : 0 + position ≡ position = omega arith in
      is ∙ ap (λ (z : Place). tree_climb_in shown sought.number tree z) there
      ∙ sym
      (one_of_row
      (λ j t. tree_climb shown.look.now sought.number shown.depth shown.side.now t (place ++ item j ∷ []))
      (λ j ts. items_climb shown.look.now sought.number shown.depth shown.side.now j place ts)
      (λ j. refl) (λ j t ts. refl) position
      (
      λ j t apart.
      tree_missed shown.look.now sought shown.depth shown.side.now leads t (place ++ item j ∷ [])
      (
      λ x r.
      misses_at shown.side.now sought (((place ++ item j ∷ []) ++ x ∷ []) ++ r) (place ++ item j ∷ x ∷ r)
      (append_assoc (place ++ item j ∷ []) (x ∷ []) r ∙ append_assoc place (item j ∷ []) (x ∷ r))
      (only (item j ∷ x ∷ r) (λ e. apart (same_position j position (x ∷ r) rest e)))
      )
      )
      0 trees position tree start (got_there trees position tree low at_position))
