-- What scopes, sides and trees write, part by part.
use Rattle.std.proofs.Common.{ℕ, zero, suc, ◌+◌, ◌-◌, true, false, ◌&&◌, List, [], ◌∷◌, ◌++◌, ◌≡◌, ◌≢◌, refl, sym, ap, ◌∙◌, map, arith}
use Rattle.std.specs.Prelude.{Option, Some, None, slice_get, if◌then◌else◌, is_some}
use Rattle.run_work.proofs.PairRules.{template_tested, template_untested}
use Rattle.tree_nodes.specs.declared.template.TemplateAttribute.{TemplateAttribute}
use Rattle.tree_nodes.specs.declared.template.TemplateNode.{TemplateNode}
use Rattle.tree_nodes.specs.declared.template.TemplateNode.TheVariants as nodes
use Rattle.tree_nodes.specs.declared.template.TemplateNode.TheOpen.{TemplateNode-F}
use Rattle.tree_nodes.specs.declared.template.TemplateNode.TheViews.{out-TemplateNode}
use Rattle.rt_edits.specs.declared.edit.Edit.{Edit}
use Rattle.tree_nodes.specs.declared.vnode.VNode.{VNode}
use Rattle.tree_nodes.specs.declared.vnode.DynamicNode.{DynamicNode}
use Rattle.tree_nodes.specs.declared.vnode.DynamicNode.TheVariants as values
use Rattle.rt_model.specs.OneLog.{types}
use Rattle.rt_model.specs.Lists.{at}
use Rattle.rt_model.specs.World.{Application}
use Rattle.rt_model.specs.Tree as model
use Rattle.rt_model.specs.Tree.{TemplateNodes, no_nodes, Place, same_template, place_in, placeholder_slot}
use Rattle.rt_model.specs.State as state
use Rattle.rt_model.specs.View.{tree_view}
use Rattle.rt_model.specs.Caused as caused
use Rattle.rt_model.specs.Caused.{Written, writes, halts, then_on, replaced_by, slot_pass}
use Rattle.tree_mirror.specs.Mirror.{all_before, attribute_of, before_step, slots_from}
use Rattle.tree_edits.specs.Documents.{edit_of}
use Rattle.tree_mirror.specs.Sealed.{node_before, nodes_of, slot_of, template_of}
use Rattle.tree_mirror.proofs.SealedTrees.{tree_out, slot_Placeholder}
use Rattle.tree_mirror.proofs.SealedNodes.{below, before_out, before_Element, before_Text, before_Dynamic}
use Rattle.run_places.specs.declared.side.Side.{Side}
use Rattle.run_places.specs.declared.side.SideName.{SideName}
use Rattle.run_places.specs.Places.{at_path, output_of, side_name_of, side_of}
use Rattle.run_attributes.specs.Given.{block_written}
use Rattle.run_attributes.proofs.Passes.{block_out}
use Rattle.run_shown.specs.declared.calm.Sides.{Sides}
use Rattle.run_shown.specs.declared.sides.Unit.{Unit as CodeUnit}
use Rattle.run_shown.specs.Look.{look_is_shown, look_side, look_shows}
use Rattle.run_shown.specs.Seen.{scope_seen, seen_by, seen_within, tree_seen}
use Rattle.run_shown.specs.Ways.{place_found, way_of}
use Rattle.run_shown.specs.Touched.{is_touched}
use Rattle.run_shown.specs.Units.{Passes, both_of, both_writes, shown_writes, side_writes, unit_within, unit_writes, scope_writes, name_writes, output_writes, tree_writes, slot_writes, node_writes, row_writes, tree_replaces}
use Rattle.run_shown.proofs.Parted.{then_nothing}

module _ {P C Q V H T E L : Type 0} (app : Application (types C Q V H T E L)) where
  -- a scope

  pub unit_out : (unit : CodeUnit P C Q V H T E L) (n s : ℕ) → n ≡ 0 → unit_writes app unit n s ≡ writes []
  unfolding unit_writes
  unit_out unit n s none = ap (λ m. unit_within app unit.before.now unit.after.now (way_of unit.way.now) m s) none

  pub unit_passed : (unit : CodeUnit P C Q V H T E L) (n s : ℕ) → Passes app unit → is_touched unit.touched s ≡ false → unit_writes app unit n s ≡ writes []
  unfolding Passes
  unit_passed unit n s passes out = passes n s out

  pub unit_shown : (unit : CodeUnit P C Q V H T E L) (n s : ℕ) → n ≢ 0 → (look_is_shown unit.before.now s && look_is_shown unit.after.now s) ≡ true
      → unit_writes app unit n s ≡ then_on (scope_writes app unit (n - 1) s) (if is_some (at (way_of unit.way.now) s) then halts else writes [])
  unfolding unit_writes scope_writes
  unit_shown unit zero s some shown = absurd (some refl)
  unit_shown unit (suc n) s some shown =
      ap (λ b. then_on (if b then scope_writes app unit n s else writes []) (if is_some (at (way_of unit.way.now) s) then halts else writes [])) shown ∙
      ap (λ m. then_on (scope_writes app unit m s) (if is_some (at (way_of unit.way.now) s) then halts else writes [])) (let e : n ≡ suc n - 1 = omega arith in e)

  pub unit_hidden : (unit : CodeUnit P C Q V H T E L) (n s : ℕ) → n ≢ 0 → (look_is_shown unit.before.now s && look_is_shown unit.after.now s) ≡ false
      → unit_writes app unit n s ≡ then_on (writes []) (if is_some (at (way_of unit.way.now) s) then halts else writes [])
  unfolding unit_writes scope_writes
  unit_hidden unit zero s some hidden = absurd (some refl)
  unit_hidden unit (suc n) s some hidden =
      ap (λ b. then_on (if b then scope_writes app unit n s else writes []) (if is_some (at (way_of unit.way.now) s) then halts else writes [])) hidden

  pub unit_both : (unit : CodeUnit P C Q V H T E L) (n s : ℕ) → n ≢ 0
      → unit_writes app unit n s ≡ then_on (both_writes app unit (n - 1) s) (if is_some (at (way_of unit.way.now) s) then halts else writes [])
  unfolding unit_writes scope_writes both_writes
  unit_both unit zero s some = absurd (some refl)
  unit_both unit (suc n) s some =
      ap (λ m. then_on (both_writes app unit m s) (if is_some (at (way_of unit.way.now) s) then halts else writes [])) (let e : n ≡ suc n - 1 = omega arith in e)

  pub both_hidden : (unit : CodeUnit P C Q V H T E L) (n s : ℕ) → false ≡ (look_is_shown unit.before.now s && look_is_shown unit.after.now s) → both_writes app unit n s ≡ writes []
  unfolding both_writes
  both_hidden unit n s hidden = sym (ap (λ b. if b then scope_writes app unit n s else writes []) hidden)

  pub both_shown : (unit : CodeUnit P C Q V H T E L) (n s : ℕ) → true ≡ (look_is_shown unit.before.now s && look_is_shown unit.after.now s) → both_writes app unit n s ≡ scope_writes app unit n s
  unfolding both_writes
  both_shown unit n s shown = sym (ap (λ b. if b then scope_writes app unit n s else writes []) shown)

  abbrev under : CodeUnit P C Q V H T E L → ℕ → ℕ → Written
  under unit n t = unit_within app unit.before.now unit.after.now (way_of unit.way.now) n t

  abbrev shows_writes : CodeUnit P C Q V H T E L → ℕ → ℕ → Option SideName → Option SideName → Written
  shows_writes unit n s a b = shown_writes app unit.before.now unit.after.now (way_of unit.way.now) (λ t. under unit n t) s (λ name. look_side unit.before.now s name) (λ name. look_side unit.after.now s name) a b

  after_none : (unit : CodeUnit P C Q V H T E L) (n s : ℕ) (a : Option SideName) → shows_writes unit n s a None ≡ writes []
  after_none unit n s None = refl
  after_none unit n s (Some a) = refl

  pub scope_none : (unit : CodeUnit P C Q V H T E L) (n s : ℕ) → look_shows unit.before.now s ≡ None → scope_writes app unit n s ≡ writes []
  unfolding scope_writes
  scope_none unit n s none = ap (λ a. shows_writes unit n s a (look_shows unit.after.now s)) none

  pub scope_some_none : (unit : CodeUnit P C Q V H T E L) (n s : ℕ) (a : SideName) → look_shows unit.before.now s ≡ Some a → look_shows unit.after.now s ≡ None → scope_writes app unit n s ≡ writes []
  unfolding scope_writes
  scope_some_none unit n s a some none = (λ k. shows_writes unit n s (some k) (none k))

  -- it isn't live in the second state
  pub scope_gone : (unit : CodeUnit P C Q V H T E L) (n s : ℕ) → look_shows unit.after.now s ≡ None → scope_writes app unit n s ≡ writes []
  unfolding scope_writes
  scope_gone unit n s gone = ap (λ b. shows_writes unit n s (look_shows unit.before.now s) b) gone ∙ after_none unit n s (look_shows unit.before.now s)

  pub scope_same : (unit : CodeUnit P C Q V H T E L) (n s : ℕ) (a b : SideName) → look_shows unit.before.now s ≡ Some a → look_shows unit.after.now s ≡ Some b
      → state.same_side (side_name_of a) (side_name_of b) ≡ true → scope_writes app unit n s ≡ name_writes app unit n s a
  unfolding scope_writes name_writes
  scope_same unit n s a b old new same =
      (λ k. shows_writes unit n s (old k) (new k)) ∙
      ap (λ c. if c then name_writes app unit n s a else writes (replaced_by (scope_seen unit.before.now (unit.before.now).scopes s) (scope_seen unit.after.now (unit.after.now).scopes s))) same

  pub scope_other : (unit : CodeUnit P C Q V H T E L) (n s : ℕ) (a b : SideName) → look_shows unit.before.now s ≡ Some a → look_shows unit.after.now s ≡ Some b
      → state.same_side (side_name_of a) (side_name_of b) ≡ false
      → scope_writes app unit n s ≡ writes (replaced_by (scope_seen unit.before.now (unit.before.now).scopes s) (scope_seen unit.after.now (unit.after.now).scopes s))
  unfolding scope_writes name_writes
  scope_other unit n s a b old new same =
      (λ k. shows_writes unit n s (old k) (new k)) ∙
      ap (λ c. if c then name_writes app unit n s a else writes (replaced_by (scope_seen unit.before.now (unit.before.now).scopes s) (scope_seen unit.after.now (unit.after.now).scopes s))) same

  -- a side

  abbrev named_writes : CodeUnit P C Q V H T E L → ℕ → ℕ → SideName → Option (Side P C Q V H T E L) → Option (Side P C Q V H T E L) → Written
  named_writes unit n s name a b = side_writes app unit.before.now unit.after.now (way_of unit.way.now) (λ t. under unit n t) s name a b

  pub name_none : (unit : CodeUnit P C Q V H T E L) (n s : ℕ) (name : SideName) → look_side unit.before.now s name ≡ None → name_writes app unit n s name ≡ writes []
  unfolding name_writes
  name_none unit n s name none = ap (λ a. named_writes unit n s name a (look_side unit.after.now s name)) none

  pub name_some_none : (unit : CodeUnit P C Q V H T E L) (n s : ℕ) (name : SideName) (old : Side P C Q V H T E L)
      → look_side unit.before.now s name ≡ Some old → look_side unit.after.now s name ≡ None → name_writes app unit n s name ≡ writes []
  unfolding name_writes
  name_some_none unit n s name old some none = (λ k. named_writes unit n s name (some k) (none k))

  -- the sides that are compared are those of the looks
  pub record AreSidesOf (b : Sides P C Q V H T E L) (unit : CodeUnit P C Q V H T E L) (n : ℕ) (old new : Side P C Q V H T E L) (stop : Option Place) : Type 0 where
    pub of_unit : b.unit.now ≡ unit
    pub deep : b.depth ≡ n
    pub old_side : (b.old.now).side.now ≡ old
    pub old_seen : (t : ℕ) → seen_by (b.old.now).asked t ≡ seen_within unit.before.now (unit.before.now).scopes t
    pub new_side : (b.new.now).side.now ≡ new
    pub new_seen : (t : ℕ) → seen_by (b.new.now).asked t ≡ seen_within unit.after.now (unit.after.now).scopes t
    pub stops : place_found b.stop ≡ stop

  pub name_some : (unit : CodeUnit P C Q V H T E L) (n s : ℕ) (name : SideName) (old new : Side P C Q V H T E L) (b : Sides P C Q V H T E L)
      → look_side unit.before.now s name ≡ Some old → look_side unit.after.now s name ≡ Some new
      → AreSidesOf b unit n old new (caused.stop_on (side_name_of name) (at (way_of unit.way.now) s))
      → output_writes app b ≡ name_writes app unit n s name
  unfolding name_writes output_writes
  name_some unit n s name old new b before after h =
      (λ k. caused.outputs_written app
      (record {
        old = side_of (h.old_side k);
        new = side_of (h.new_side k);
        old_child = λ t. h.old_seen t k;
        new_child = λ t. h.new_seen t k;
        under = λ t. under (h.of_unit k) (h.deep k) t;
        stop = h.stops k;
        on_way = λ t. is_some (at (way_of (h.of_unit k).way.now) t);
      })
      (output_of (h.new_side k).output) (output_of (h.old_side k).output)) ∙
      sym (λ k. named_writes unit n s name (before k) (after k))

  -- outputs

  pub output_new_none : (b : Sides P C Q V H T E L) → ((b.new.now).side.now).output ≡ None → output_writes app b ≡ writes []
  unfolding output_writes
  output_new_none b none = ap (λ o. caused.outputs_written app (both_of app b) (output_of o) (output_of ((b.old.now).side.now).output)) none

  pub output_old_none : (b : Sides P C Q V H T E L) (new : VNode P C Q V H T E L) → ((b.new.now).side.now).output ≡ Some new → ((b.old.now).side.now).output ≡ None → output_writes app b ≡ writes []
  unfolding output_writes
  output_old_none b new some none = (λ k. caused.outputs_written app (both_of app b) (output_of (some k)) (output_of (none k)))

  pub output_both : (b : Sides P C Q V H T E L) (new old : VNode P C Q V H T E L) → ((b.new.now).side.now).output ≡ Some new → ((b.old.now).side.now).output ≡ Some old
      → output_writes app b ≡ tree_writes app b [] new old
  unfolding output_writes tree_writes
  output_both b new old is was = (λ k. caused.outputs_written app (both_of app b) (output_of (is k)) (output_of (was k)))

  abbrev slots_in : Sides P C Q V H T E L → List (DynamicNode P C Q V H T E L) → List (DynamicNode P C Q V H T E L) → ℕ → Place → Written
  slots_in b new old k place = caused.slots_written app (both_of app b) (slots_from (map slot_of new)) (slots_from (map slot_of old)) k place

  slot_both : (b : Sides P C Q V H T E L) (new old : List (DynamicNode P C Q V H T E L)) (k : ℕ) (value was : DynamicNode P C Q V H T E L) (place : Place)
      → slice_get new k ≡ Some value → slice_get old k ≡ Some was → slots_in b new old k place ≡ slot_writes app b place value was
  unfolding slot_writes
  slot_both b [] old k value was place h g = cc
  slot_both b (v ∷ new) [] k value was place h g = cc
  slot_both b (v ∷ new) (u ∷ old) zero value was place h g =
      (λ k. caused.slot_written app (both_of app b) place (slot_of ((let e : v ≡ value = cc in e) k)) (slot_of ((let e : u ≡ was = cc in e) k)))
  slot_both b (v ∷ new) (u ∷ old) (suc k) value was place h g = slot_both b new old k value was place h g

  slot_new : (b : Sides P C Q V H T E L) (new old : List (DynamicNode P C Q V H T E L)) (k : ℕ) (value : DynamicNode P C Q V H T E L) (place : Place)
      → slice_get new k ≡ Some value → slice_get old k ≡ None → slots_in b new old k place ≡ slot_writes app b place value values.Placeholder
  unfolding slot_writes
  slot_new b [] old k value place h g = cc
  slot_new b (v ∷ new) [] zero value place h g =
      ap (λ x. caused.slot_written app (both_of app b) place (slot_of x) placeholder_slot) (let e : v ≡ value = cc in e) ∙
      ap (λ y. caused.slot_written app (both_of app b) place (slot_of value) y) (sym (slot_Placeholder P))
  slot_new b (v ∷ new) (u ∷ old) zero value place h g = cc
  slot_new b (v ∷ new) [] (suc k) value place h g = slot_new b new [] k value place h refl
  slot_new b (v ∷ new) (u ∷ old) (suc k) value place h g = slot_new b new old k value place h g

  slot_gone : (b : Sides P C Q V H T E L) (new old : List (DynamicNode P C Q V H T E L)) (k : ℕ) (place : Place) → slice_get new k ≡ None → slots_in b new old k place ≡ writes []
  slot_gone b [] old k place h = refl
  slot_gone b (v ∷ new) old zero place h = cc
  slot_gone b (v ∷ new) [] (suc k) place h = slot_gone b new [] k place h
  slot_gone b (v ∷ new) (u ∷ old) (suc k) place h = slot_gone b new old k place h

  -- nodes of a template

  -- one level of a template before others: what it writes, then what they write
  level_writes : (b : Sides P C Q V H T E L) (above : Place) (new old : VNode P C Q V H T E L) (y : TemplateNode-F (TemplateNodes → TemplateNodes)) (up : List ℕ) (i : ℕ) (rest : TemplateNodes)
      → slot_pass (λ k place. slots_in b new.dynamic_nodes old.dynamic_nodes k place) (place_in (template_of new.template) above) up i (before_step y rest)
      ≡ then_on (slot_pass (λ k place. slots_in b new.dynamic_nodes old.dynamic_nodes k place) (place_in (template_of new.template) above) up i (before_step y no_nodes))
      (slot_pass (λ k place. slots_in b new.dynamic_nodes old.dynamic_nodes k place) (place_in (template_of new.template) above) up (i + 1) rest)
  level_writes b above new old (TemplateNode-F.Element tag namespace attrs children) up i rest =
      let pass : List ℕ → ℕ → TemplateNodes → Written = λ u m ns. slot_pass (λ k place. slots_in b new.dynamic_nodes old.dynamic_nodes k place) (place_in (template_of new.template) above) u m ns in
      ap (λ w. then_on w (pass up (i + 1) rest)) (sym (then_nothing (pass (up ++ i ∷ []) 0 (all_before children no_nodes))))
  level_writes b above new old (TemplateNode-F.Text text) up i rest = refl
  level_writes b above new old (TemplateNode-F.Dynamic id) up i rest =
      let pass : List ℕ → ℕ → TemplateNodes → Written = λ u m ns. slot_pass (λ k place. slots_in b new.dynamic_nodes old.dynamic_nodes k place) (place_in (template_of new.template) above) u m ns in
      ap (λ w. then_on w (pass up (i + 1) rest)) (sym (then_nothing (slots_in b new.dynamic_nodes old.dynamic_nodes id (place_in (template_of new.template) above up i))))

  first_writes : (b : Sides P C Q V H T E L) (above : Place) (new old : VNode P C Q V H T E L) (up : List ℕ) (i : ℕ) (node : TemplateNode) (rest : TemplateNodes)
      → slot_pass (λ k place. slots_in b new.dynamic_nodes old.dynamic_nodes k place) (place_in (template_of new.template) above) up i (node_before node rest)
      ≡ then_on (node_writes app b above new old up i node) (slot_pass (λ k place. slots_in b new.dynamic_nodes old.dynamic_nodes k place) (place_in (template_of new.template) above) up (i + 1) rest)
  unfolding node_writes
  first_writes b above new old up i node rest =
      let pass : List ℕ → ℕ → TemplateNodes → Written = λ u m ns. slot_pass (λ k place. slots_in b new.dynamic_nodes old.dynamic_nodes k place) (place_in (template_of new.template) above) u m ns in
      ap (λ ns. pass up i ns) (before_out node rest) ∙ level_writes b above new old (below (out-TemplateNode node)) up i rest ∙
      ap (λ ns. then_on (pass up i ns) (pass up (i + 1) rest)) (sym (before_out node no_nodes))

  pub row_pass : (b : Sides P C Q V H T E L) (above : Place) (new old : VNode P C Q V H T E L) (up : List ℕ) (i : ℕ) (row : List TemplateNode)
      → row_writes app b above new old up i row ≡ slot_pass (λ k place. slots_in b new.dynamic_nodes old.dynamic_nodes k place) (place_in (template_of new.template) above) up i (nodes_of row)
  row_pass b above new old up i [] = refl
  row_pass b above new old up i (node ∷ row) =
      ap (λ w. then_on (node_writes app b above new old up i node) w) (row_pass b above new old up (i + 1) row) ∙ sym (first_writes b above new old up i node (nodes_of row))

  pub node_Element : (b : Sides P C Q V H T E L) (above : Place) (new old : VNode P C Q V H T E L) (up : List ℕ) (i : ℕ) (tag : List ℕ) (namespace : Option (List ℕ)) (attrs : List TemplateAttribute) (children : List TemplateNode)
      → node_writes app b above new old up i (nodes.Element tag namespace attrs children) ≡ row_writes app b above new old (up ++ i ∷ []) 0 children
  unfolding node_writes
  node_Element b above new old up i tag namespace attrs children =
      let pass : List ℕ → ℕ → TemplateNodes → Written = λ u m ns. slot_pass (λ k place. slots_in b new.dynamic_nodes old.dynamic_nodes k place) (place_in (template_of new.template) above) u m ns in
      ap (λ ns. pass up i ns) (before_Element tag namespace attrs children no_nodes) ∙ then_nothing (pass (up ++ i ∷ []) 0 (nodes_of children)) ∙ sym (row_pass b above new old (up ++ i ∷ []) 0 children)

  pub node_Text : (b : Sides P C Q V H T E L) (above : Place) (new old : VNode P C Q V H T E L) (up : List ℕ) (i : ℕ) (text : List ℕ) → node_writes app b above new old up i (nodes.Text text) ≡ writes []
  unfolding node_writes
  node_Text b above new old up i text =
      ap (λ ns. slot_pass (λ k place. slots_in b new.dynamic_nodes old.dynamic_nodes k place) (place_in (template_of new.template) above) up i ns) (before_Text text no_nodes)

  node_Dynamic : (b : Sides P C Q V H T E L) (above : Place) (new old : VNode P C Q V H T E L) (up : List ℕ) (i id : ℕ)
      → node_writes app b above new old up i (nodes.Dynamic id) ≡ slots_in b new.dynamic_nodes old.dynamic_nodes id (at_path (template_of new.template) above (up ++ i ∷ []))
  unfolding node_writes
  node_Dynamic b above new old up i id =
      ap (λ ns. slot_pass (λ k place. slots_in b new.dynamic_nodes old.dynamic_nodes k place) (place_in (template_of new.template) above) up i ns) (before_Dynamic id no_nodes)
      ∙ then_nothing (slots_in b new.dynamic_nodes old.dynamic_nodes id (at_path (template_of new.template) above (up ++ i ∷ [])))

  pub node_both : (b : Sides P C Q V H T E L) (above : Place) (new old : VNode P C Q V H T E L) (up : List ℕ) (i id : ℕ) (value was : DynamicNode P C Q V H T E L)
      → slice_get new.dynamic_nodes id ≡ Some value → slice_get old.dynamic_nodes id ≡ Some was
      → node_writes app b above new old up i (nodes.Dynamic id) ≡ slot_writes app b (at_path (template_of new.template) above (up ++ i ∷ [])) value was
  node_both b above new old up i id value was h g =
      node_Dynamic b above new old up i id ∙ slot_both b new.dynamic_nodes old.dynamic_nodes id value was (at_path (template_of new.template) above (up ++ i ∷ [])) h g

  pub node_new : (b : Sides P C Q V H T E L) (above : Place) (new old : VNode P C Q V H T E L) (up : List ℕ) (i id : ℕ) (value : DynamicNode P C Q V H T E L)
      → slice_get new.dynamic_nodes id ≡ Some value → slice_get old.dynamic_nodes id ≡ None
      → node_writes app b above new old up i (nodes.Dynamic id) ≡ slot_writes app b (at_path (template_of new.template) above (up ++ i ∷ [])) value values.Placeholder
  node_new b above new old up i id value h g =
      node_Dynamic b above new old up i id ∙ slot_new b new.dynamic_nodes old.dynamic_nodes id value (at_path (template_of new.template) above (up ++ i ∷ [])) h g

  pub node_gone : (b : Sides P C Q V H T E L) (above : Place) (new old : VNode P C Q V H T E L) (up : List ℕ) (i id : ℕ)
      → slice_get new.dynamic_nodes id ≡ None → node_writes app b above new old up i (nodes.Dynamic id) ≡ writes []
  node_gone b above new old up i id h =
      node_Dynamic b above new old up i id ∙ slot_gone b new.dynamic_nodes old.dynamic_nodes id (at_path (template_of new.template) above (up ++ i ∷ [])) h

  -- a tree by its parts
  abbrev parts_of : VNode P C Q V H T E L → model.Tree (types C Q V H T E L)
  parts_of tree = model.block (template_of tree.template) (map (map attribute_of) tree.dynamic_attrs) (slots_from (map slot_of tree.dynamic_nodes))

  abbrev matched_writes : Sides P C Q V H T E L → Place → VNode P C Q V H T E L → VNode P C Q V H T E L → Written
  matched_writes b above new old =
      then_on
      (writes (caused.attributes_written (side_of (b.old.now).side.now).numbers above (template_of new.template) (map (map attribute_of) new.dynamic_attrs) (map (map attribute_of) old.dynamic_attrs)))
      (slot_pass (λ k place. slots_in b new.dynamic_nodes old.dynamic_nodes k place) (place_in (template_of new.template) above) [] 0 (nodes_of new.template.roots))

  abbrev unmatched_writes : Sides P C Q V H T E L → Place → model.Tree (types C Q V H T E L) → model.Tree (types C Q V H T E L) → Written
  unmatched_writes b above new old =
      caused.built_whole (place_found b.stop) above
      (replaced_by
      (tree_view (side_of (b.old.now).side.now) (λ t. seen_by (b.old.now).asked t) above old)
      (tree_view (side_of (b.new.now).side.now) (λ t. seen_by (b.new.now).asked t) above new))

  tree_parts : (b : Sides P C Q V H T E L) (above : Place) (new old : VNode P C Q V H T E L)
      → tree_writes app b above new old
      ≡ (if same_template (template_of new.template) (template_of old.template) then matched_writes b above new old else unmatched_writes b above (parts_of new) (parts_of old))
  unfolding tree_writes
  tree_parts b above new old = (λ k. caused.tree_written app (both_of app b) above (tree_out new k) (tree_out old k))

  -- a matched tree writes its attributes, then its slots
  pub tree_matched : (b : Sides P C Q V H T E L) (above : Place) (new old : VNode P C Q V H T E L) (edits : List Edit)
      → new.template ≡ old.template
      → map edit_of edits ≡ block_written (side_of (b.old.now).side.now).numbers above new old
      → then_on (writes (map edit_of edits)) (row_writes app b above new old [] 0 new.template.roots) ≡ tree_writes app b above new old
  tree_matched b above new old edits same attributes =
      let first : map edit_of edits ≡ caused.attributes_written (side_of (b.old.now).side.now).numbers above (template_of new.template) (map (map attribute_of) new.dynamic_attrs) (map (map attribute_of) old.dynamic_attrs) =
      attributes ∙ block_out (side_of (b.old.now).side.now).numbers above new old in
      (λ k. then_on (writes (first k)) (row_pass b above new old [] 0 new.template.roots k)) ∙
      sym (ap (λ c. if c then matched_writes b above new old else unmatched_writes b above (parts_of new) (parts_of old)) (template_tested new.template old.template same)) ∙
      sym (tree_parts b above new old)

  -- an unmatched one is replaced
  pub tree_unmatched : (b : Sides P C Q V H T E L) (above : Place) (new old : VNode P C Q V H T E L) → (new.template ≡ old.template → ⊥) → tree_writes app b above new old ≡ tree_replaces b above new old
  unfolding tree_seen
  tree_unmatched b above new old other =
      tree_parts b above new old ∙
      ap (λ c. if c then matched_writes b above new old else unmatched_writes b above (parts_of new) (parts_of old)) (template_untested new.template old.template other) ∙
      sym (λ k. unmatched_writes b above (tree_out new k) (tree_out old k))
