-- Trees of code at the mirror, and what plans mean, slot by slot.
use Rattle.std.proofs.Common.{ℕ, zero, suc, List, [], ◌∷◌, ◌++◌, ◌≡◌, refl, sym, ap, subst, ◌∙◌, rules, map, ◌+◌, ◌-◌, ◌<◌, ◌≤◌, length, get_or, drop, arith}
use Rattle.std.proofs.Math.ListN.{drop_of_length-le}
use Rattle.std.proofs.lemmas.List.{append_assoc}
use Rattle.std.specs.Prelude.{Option, Some, None, option_map, is_none, pos, Result, Ok, if◌then◌else◌}
use Rattle.rt_lemmas.proofs.Lists.{next_drop}
pub use Rattle.rt_lemmas.proofs.Lists.{append_nil, map_append as map-append}
use Rattle.tree_nodes.specs.declared.error.RenderError.{RenderError}
use Rattle.tree_nodes.specs.declared.template.TemplateParts.{TemplateParts as Template}
use Rattle.tree_nodes.specs.declared.vnode.DynamicNode.TheVariants as nodes
use Rattle.tree_nodes.specs.declared.vnode.DynamicNode.TheOpen.{VComponent-F}
use Rattle.tree_nodes.specs.declared.vnode.DynamicNode.TheFolds.{fold-roll-VComponent, fold-roll-FragmentProps, fold-roll-ErrorBoundaryProps, fold-roll-SuspenseBoundaryProps}
use Rattle.tree_nodes.specs.declared.vnode.DynamicNode.TheViews.{roll-FragmentProps, roll-ErrorBoundaryProps, roll-SuspenseBoundaryProps}
use Rattle.tree_nodes.specs.declared.vnode.ErrorHandler.{ErrorHandler}
use Rattle.tree_nodes.specs.declared.vnode.Fallback.{Fallback}
use Rattle.tree_nodes.specs.declared.vnode.FragmentProps.{FragmentProps}
use Rattle.tree_nodes.specs.declared.vnode.ErrorBoundaryProps.{ErrorBoundaryProps}
use Rattle.tree_nodes.specs.declared.vnode.SuspenseBoundaryProps.{SuspenseBoundaryProps}
use Rattle.tree_nodes.specs.declared.vnode.VComponent.TheVariants as components
use Rattle.tree_nodes.specs.declared.vnode.VNode.{VNode}
use Rattle.tree_nodes.specs.Shown as shown
use Rattle.rt_model.specs.OneLog.{types}
use Rattle.rt_model.specs.Program.{Program, done, current_scope, Call}
use Rattle.rt_model.specs.Tree as model
use Rattle.rt_model.specs.Tree.{Tree, Slot, Trees, no_trees, more_trees, VComponent, Own, Fragment, ErrorBoundary, SuspenseBoundary, rendered, block, text_slot, placeholder_slot, component_slot, fragment_slot, listener}
use Rattle.rt_model.specs.World.{World}
use Rattle.tree_mirror.specs.Mirror.{trees_from, handler_of, fallback_of, slot_step, component_step, error_boundary_step, fragment_step, suspense_boundary_step, tree_step}
use Rattle.tree_mirror.specs.Sealed.{tree_of, slot_of, component_of}
use Rattle.tree_mirror.proofs.SealedComponents.{component_App}
use Rattle.tree_mirror.proofs.SealedNodes.{before_Dynamic}
use Rattle.tree_mirror.proofs.SealedTrees.{tree_out, slot_Text, slot_Placeholder, slot_Component, slot_Fragment}
use Rattle.rt_language.specs.Expressions.{Doing, TaskState, SourceTypes, Caller, evaluate, evaluate_all}
use Rattle.rt_language.specs.Sequence.{go_on}
use Rattle.rt_language.specs.Statements.{doing}
use Rattle.rt_language.specs.Values.{Value, NumberValue, is_true, text_of, item_count}
use Rattle.rt_language.specs.Views.{Filling, nothing_filled, filled_on, attribute_value, attribute_of, use_or_none, items_from, picked}
use Rattle.lang_syntax.specs.Mirror.{expression_of, arguments_of, use_of}
use Rattle.lang_syntax.specs.declared.expression.Expression.{Expression}
use Rattle.lang_syntax.specs.declared.view.ComponentUse.{ComponentUse}
use Rattle.run_records.specs.Records.{world_of}
use Rattle.author_calls.specs.Calls.{call_of}
use Rattle.author_programs.specs.Came.{Came, came, reached}
use Rattle.lang_script.specs.Fills.{filling_of}
use Rattle.author_bodies.specs.Comes.{Comes}
use Rattle.lang_script.specs.Seen.{ScriptCall, ScriptWorld}
use Rattle.lang_script.specs.declared.caller.Frame.{Frame}
use Rattle.lang_script.specs.declared.filling.Filling as code
use Rattle.lang_views.specs.Plans.{Held, Planned, planned, fill_of, slot_program, filled, tree_with, one_attribute, one_slot}
use Rattle.lang_views.specs.declared.plan.Plan.{Plan}
use Rattle.lang_views.specs.declared.plan.SlotPlan.{SlotPlan}
use Rattle.lang_views.specs.declared.plan.Fill.{Fill}
use Rattle.lang_views.specs.declared.plan.Fill.TheVariants as fills
use Rattle.lang_views.specs.declared.plan.SlotPlan.TheVariants as plans
use Rattle.lang_views.proofs.Plans.{fill-is-Attribute, fill-is-Listener, fill-is-Node, slot-is-TextOf, slot-is-UseOf, slot-is-ListOf, slot-is-PickOf, slot-is-FragmentOf, slot-is-ErrorBoundaryOf, slot-is-SuspenseBoundaryOf, slot-is-Hole, plan-is}
use Rattle.lang_script.specs.declared.script.Script.{Script}
use Rattle.lang_script.proofs.Expressions.{chosen_by}
use Rattle.author_programs.proofs.Steps.{on, at_done, at_scope}

-- built-in components round children
module _ {P C Q V H T E L : Type 0} where
  -- the props round children
  abbrev pub fragment_round : Result (VNode P C Q V H T E L) RenderError → FragmentProps P C Q V H T E L
  fragment_round e = roll-FragmentProps P C Q V H T E L (record { children = e })

  abbrev pub errors_round : Result (VNode P C Q V H T E L) RenderError → ErrorHandler P C Q V H T E L → ErrorBoundaryProps P C Q V H T E L
  errors_round e h = roll-ErrorBoundaryProps P C Q V H T E L (record { children = e; handle_error = h })

  abbrev pub waits_round : Result (VNode P C Q V H T E L) RenderError → Fallback P C Q V H T E L → SuspenseBoundaryProps P C Q V H T E L
  waits_round e h = roll-SuspenseBoundaryProps P C Q V H T E L (record { children = e; fallback = h })

  pub a-fragment : (t : VNode P C Q V H T E L) → component_of (components.Fragment (fragment_round (Ok t))) ≡ Fragment (rendered (tree_of t))
  unfolding component_of tree_of
  a-fragment t =
      let props : FragmentProps P C Q V H T E L = fragment_round (Ok t) in
      ap component_of (sym (components.rolls-Fragment props)) ∙
      fold-roll-VComponent P C Q V H T E L (Slot (types C Q V H T E L)) (VComponent (types C Q V H T E L)) (VComponent (types C Q V H T E L)) (VComponent (types C Q V H T E L)) (VComponent (types C Q V H T E L)) (Tree (types C Q V H T E L)) slot_step component_step error_boundary_step fragment_step suspense_boundary_step tree_step (VComponent-F.VComponent::Fragment props) ∙
      fold-roll-FragmentProps P C Q V H T E L (Slot (types C Q V H T E L)) (VComponent (types C Q V H T E L)) (VComponent (types C Q V H T E L)) (VComponent (types C Q V H T E L)) (VComponent (types C Q V H T E L)) (Tree (types C Q V H T E L)) slot_step component_step error_boundary_step fragment_step suspense_boundary_step tree_step (record { children = Ok t })

  pub an-error-boundary : (t : VNode P C Q V H T E L) (h : ErrorHandler P C Q V H T E L)
      → component_of (components.ErrorBoundary (errors_round (Ok t) h)) ≡ ErrorBoundary (rendered (tree_of t)) (handler_of h)
  unfolding component_of tree_of
  an-error-boundary t h =
      let props : ErrorBoundaryProps P C Q V H T E L = errors_round (Ok t) h in
      ap component_of (sym (components.rolls-ErrorBoundary props)) ∙
      fold-roll-VComponent P C Q V H T E L (Slot (types C Q V H T E L)) (VComponent (types C Q V H T E L)) (VComponent (types C Q V H T E L)) (VComponent (types C Q V H T E L)) (VComponent (types C Q V H T E L)) (Tree (types C Q V H T E L)) slot_step component_step error_boundary_step fragment_step suspense_boundary_step tree_step (VComponent-F.ErrorBoundary props) ∙
      fold-roll-ErrorBoundaryProps P C Q V H T E L (Slot (types C Q V H T E L)) (VComponent (types C Q V H T E L)) (VComponent (types C Q V H T E L)) (VComponent (types C Q V H T E L)) (VComponent (types C Q V H T E L)) (Tree (types C Q V H T E L)) slot_step component_step error_boundary_step fragment_step suspense_boundary_step tree_step (record { children = Ok t; handle_error = h })

  pub a-suspense-boundary : (t : VNode P C Q V H T E L) (h : Fallback P C Q V H T E L)
      → component_of (components.SuspenseBoundary (waits_round (Ok t) h)) ≡ SuspenseBoundary (rendered (tree_of t)) (fallback_of h)
  unfolding component_of tree_of
  a-suspense-boundary t h =
      let props : SuspenseBoundaryProps P C Q V H T E L = waits_round (Ok t) h in
      ap component_of (sym (components.rolls-SuspenseBoundary props)) ∙
      fold-roll-VComponent P C Q V H T E L (Slot (types C Q V H T E L)) (VComponent (types C Q V H T E L)) (VComponent (types C Q V H T E L)) (VComponent (types C Q V H T E L)) (VComponent (types C Q V H T E L)) (Tree (types C Q V H T E L)) slot_step component_step error_boundary_step fragment_step suspense_boundary_step tree_step (VComponent-F.SuspenseBoundary props) ∙
      fold-roll-SuspenseBoundaryProps P C Q V H T E L (Slot (types C Q V H T E L)) (VComponent (types C Q V H T E L)) (VComponent (types C Q V H T E L)) (VComponent (types C Q V H T E L)) (VComponent (types C Q V H T E L)) (Tree (types C Q V H T E L)) slot_step component_step error_boundary_step fragment_step suspense_boundary_step tree_step (record { children = Ok t; fallback = h })

-- a slot with a built-in component
module _ {P C Q V H T E L : Type 0} where
  pub slot-fragment : (e : Result (VNode P C Q V H T E L) RenderError) (t : VNode P C Q V H T E L) → e ≡ Ok t
      → slot_of (nodes.Component (components.Fragment (fragment_round e))) ≡ component_slot (Fragment (rendered (tree_of t)))
  slot-fragment e t is =
      ap (λ x. slot_of (nodes.Component (components.Fragment (fragment_round x)))) is ∙ slot_Component (components.Fragment (fragment_round (Ok t))) ∙ ap component_slot (a-fragment t)

  pub slot-error-boundary : (e : Result (VNode P C Q V H T E L) RenderError) (t : VNode P C Q V H T E L) (h : ErrorHandler P C Q V H T E L) (o : Option (C × Q)) → e ≡ Ok t → handler_of h ≡ o
      → slot_of (nodes.Component (components.ErrorBoundary (errors_round e h))) ≡ component_slot (ErrorBoundary (rendered (tree_of t)) o)
  slot-error-boundary e t h o is named =
      ap (λ x. slot_of (nodes.Component (components.ErrorBoundary (errors_round x h)))) is ∙ slot_Component (components.ErrorBoundary (errors_round (Ok t) h)) ∙ ap component_slot (an-error-boundary t h) ∙
      ap (λ x. component_slot (ErrorBoundary (rendered (tree_of t)) x)) named

  pub slot-suspense-boundary : (e : Result (VNode P C Q V H T E L) RenderError) (t : VNode P C Q V H T E L) (h : Fallback P C Q V H T E L) (o : Option (C × Q)) → e ≡ Ok t → fallback_of h ≡ o
      → slot_of (nodes.Component (components.SuspenseBoundary (waits_round e h))) ≡ component_slot (SuspenseBoundary (rendered (tree_of t)) o)
  slot-suspense-boundary e t h o is named =
      ap (λ x. slot_of (nodes.Component (components.SuspenseBoundary (waits_round x h)))) is ∙ slot_Component (components.SuspenseBoundary (waits_round (Ok t) h)) ∙ ap component_slot (a-suspense-boundary t h) ∙
      ap (λ x. component_slot (SuspenseBoundary (rendered (tree_of t)) x)) named

-- a tree of a script
abbrev ScriptTree : Type 0
ScriptTree = VNode Script ℕ (List Value) Value Doing TaskState Doing Value

-- the placeholder at the mirror
pub placeholder-is : tree_of {P = Script} {C = ℕ} {Q = List Value} {V = Value} {H = Doing} {T = TaskState} {E = Doing} {L = Value} shown.placeholder_tree ≡ model.placeholder_tree
placeholder-is =
    let t : ScriptTree = shown.placeholder_tree in
    tree_out t ∙
    (λ i. block (record { roots = before_Dynamic 0 model.no_nodes i; node_paths = t.template.node_paths; attribute_paths = [] }) [] (model.more_slots (slot_Placeholder Script i) model.no_slots))

pub is-empty : (plan : Plan) → (planned plan).is_empty ≡ is_none plan.template
is-empty plan = ap (λ (p : Planned). p.is_empty) (plan-is plan)

-- the tree of a template, after what is filled already
unfoldable pub then_tree : Option Template → Filling → Filling → Program SourceTypes (Tree SourceTypes)
then_tree template before f = done (tree_with template (filled_on before f))

module _ (by : Caller) (held : List Value) where
  pub fill-Attribute : (name : List ℕ) (value : Expression) → fill_of (fills.Attribute name value) by held
      ≡ go_on (evaluate by held (expression_of value)) (λ v. done (one_attribute (attribute_of name (attribute_value v))))
  fill-Attribute name value = ap (λ (f : Held Filling). f by held) (fill-is-Attribute name value)

  pub fill-Listener : (name : List ℕ) (action : ℕ) (arguments : List Expression) → fill_of (fills.Listener name action arguments) by held
      ≡ go_on (evaluate_all by held (arguments_of arguments)) (λ vs. current_scope (λ s. done (one_attribute (attribute_of name (listener s (doing action vs))))))
  fill-Listener name action arguments = ap (λ (f : Held Filling). f by held) (fill-is-Listener name action arguments)

  pub fill-Node : (slot : SlotPlan) → fill_of (fills.Node slot) by held ≡ go_on (slot_program slot by held) (λ v. done (one_slot v))
  fill-Node slot = ap (λ (f : Held Filling). f by held) (fill-is-Node slot)

  pub slot-TextOf : (e : Expression) → slot_program (plans.TextOf e) by held ≡ go_on (evaluate by held (expression_of e)) (λ v. done (text_slot (text_of v)))
  slot-TextOf e = ap (λ (f : Held (Slot SourceTypes)). f by held) (slot-is-TextOf e)

  pub slot-UseOf : (u : ComponentUse) → slot_program (plans.UseOf u) by held ≡ go_on (evaluate_all by held (arguments_of u.props)) (λ props. done (component_slot (Own u.component props)))
  slot-UseOf u = ap (λ (f : Held (Slot SourceTypes)). f by held) (slot-is-UseOf u)

  pub slot-ListOf : (count : Expression) (item : Plan) → slot_program (plans.ListOf count item) by held
      ≡ go_on (evaluate by held (expression_of count)) (λ v. go_on (items_from (λ i. (planned item).tree by (held ++ NumberValue (pos i) ∷ [])) 0 (item_count v)) (λ items. done (fragment_slot items)))
  slot-ListOf count item = ap (λ (f : Held (Slot SourceTypes)). f by held) (slot-is-ListOf count item)

  pub slot-PickOf : (test : Expression) (chosen other : Plan) → slot_program (plans.PickOf test chosen other) by held
      ≡ go_on (evaluate by held (expression_of test)) (λ v. if is_true v then picked (planned chosen).is_empty ((planned chosen).tree by held) else picked (planned other).is_empty ((planned other).tree by held))
  slot-PickOf test chosen other =
      ap (λ (f : Held (Slot SourceTypes)). f by held) (slot-is-PickOf test chosen other) ∙
      (λ i. go_on (evaluate by held (expression_of test)) (λ v. chosen_by (is_true v) (picked (planned chosen).is_empty ((planned chosen).tree by held)) (picked (planned other).is_empty ((planned other).tree by held)) i))

  pub slot-FragmentOf : (children : Plan) → slot_program (plans.FragmentOf children) by held ≡ go_on ((planned children).tree by held) (λ t. done (component_slot (Fragment (rendered t))))
  slot-FragmentOf children = ap (λ (f : Held (Slot SourceTypes)). f by held) (slot-is-FragmentOf children)

  pub slot-ErrorBoundaryOf : (kids : Plan) (handler : Option ComponentUse) → slot_program (plans.ErrorBoundaryOf kids handler) by held
      ≡ go_on ((planned kids).tree by held) (λ t. go_on (use_or_none by held (option_map use_of handler)) (λ h. done (component_slot (ErrorBoundary (rendered t) h))))
  slot-ErrorBoundaryOf kids handler = ap (λ (f : Held (Slot SourceTypes)). f by held) (slot-is-ErrorBoundaryOf kids handler)

  pub slot-SuspenseBoundaryOf : (kids : Plan) (fallback : Option ComponentUse) → slot_program (plans.SuspenseBoundaryOf kids fallback) by held
      ≡ go_on ((planned kids).tree by held) (λ t. go_on (use_or_none by held (option_map use_of fallback)) (λ h. done (component_slot (SuspenseBoundary (rendered t) h))))
  slot-SuspenseBoundaryOf kids fallback = ap (λ (f : Held (Slot SourceTypes)). f by held) (slot-is-SuspenseBoundaryOf kids fallback)

  pub slot-Hole : slot_program plans.Hole by held ≡ done placeholder_slot
  slot-Hole = ap (λ (f : Held (Slot SourceTypes)). f by held) slot-is-Hole

  pub tree-start : (plan : Plan) → (planned plan).tree by held ≡ go_on (filled (map fill_of plan.fills) by held) (then_tree plan.template nothing_filled)
  unfolding then_tree
  tree-start plan = ap (λ (p : Planned). p.tree by held) (plan-is plan)

  on_filled : (a b c : Filling) → filled_on a (filled_on b c) ≡ filled_on (filled_on a b) c
  on_filled a b c = λ i. record { attributes = sym (append_assoc a.attributes b.attributes c.attributes) i; slots = sym (append_assoc a.slots b.slots c.slots) i }

  first_filled : (w : World SourceTypes) (template : Option Template) (x : Fill) (xs : List Fill) (before after : Filling) (c d : Call SourceTypes)
      → came w (go_on (fill_of x by held) (λ more. done (filled_on before more))) c ≡ reached after d
      → came w (go_on (filled (map fill_of (x ∷ xs)) by held) (then_tree template before)) c ≡ came w (go_on (filled (map fill_of xs) by held) (then_tree template after)) d
  unfolding then_tree
  first_filled w template x xs before after c d h =
      let first : Came SourceTypes Filling = came w (fill_of x by held) c in
      let rest : Program SourceTypes Filling = filled (map fill_of xs) by held in
      let tail : Came SourceTypes Filling = came w rest first.call in
      let put : reached (filled_on before first.answer) first.call ≡ reached after d =
      sym (on w (fill_of x by held) (λ more. done (filled_on before more)) c ∙ at_done w (filled_on before first.answer) first.call) ∙ h in
      let whole : came w (filled (map fill_of (x ∷ xs)) by held) c ≡ reached (filled_on first.answer tail.answer) tail.call =
      on w (fill_of x by held) (λ f. go_on rest (λ after. done (filled_on f after))) c ∙
      on w rest (λ after. done (filled_on first.answer after)) first.call ∙
      at_done w (filled_on first.answer tail.answer) tail.call in
      on w (filled (map fill_of (x ∷ xs)) by held) (then_tree template before) c ∙
      ap (λ (y : Came SourceTypes Filling). came w (then_tree template before y.answer) y.call) whole ∙
      ap (λ (f : Filling). came w (done (tree_with template f)) tail.call) (on_filled before first.answer tail.answer) ∙
      sym (on w rest (then_tree template (filled_on before first.answer)) first.call) ∙
      ap (λ (y : Came SourceTypes Filling). came w (go_on rest (then_tree template y.answer)) y.call) put

-- one more slot is filled
pub tree-more : (w : World SourceTypes) (by : Caller) (held : List Value) (template : Option Template) (xs : List Fill) (i : ℕ) (x : Fill) (before after : Filling) (c d : Call SourceTypes)
    → i < length xs → x ≡ get_or xs i x
    → came w (go_on (fill_of x by held) (λ more. done (filled_on before more))) c ≡ reached after d
    → came w (go_on (filled (map fill_of (drop i xs)) by held) (then_tree template before)) c ≡ came w (go_on (filled (map fill_of (drop (i + 1) xs)) by held) (then_tree template after)) d
tree-more w by held template xs i x before after c d low is h =
    ap (λ (ys : List Fill). came w (go_on (filled (map fill_of ys) by held) (then_tree template before)) c) (next_drop xs i x low is) ∙
    first_filled by held w template x (drop (i + 1) xs) before after c d h

-- all slots are filled
pub tree-end : (w : World SourceTypes) (by : Caller) (held : List Value) (template : Option Template) (xs : List Fill) (i : ℕ) (all : Filling) (c : Call SourceTypes)
    → length xs ≤ i
    → came w (go_on (filled (map fill_of (drop i xs)) by held) (then_tree template all)) c ≡ reached (tree_with template all) c
unfolding then_tree go_on
tree-end w by held template xs i all c end =
    ap (λ (ys : List Fill). came w (go_on (filled (map fill_of ys) by held) (then_tree template all)) c) (drop_of_length-le xs end) ∙
    at_done w (tree_with template (filled_on all nothing_filled)) c ∙
    (λ i. reached (tree_with template (record { attributes = append_nil all.attributes i; slots = append_nil all.slots i })) c)

-- items, one after another

-- trees before others
abbrev trees_before : List (Tree SourceTypes) → Trees SourceTypes → Trees SourceTypes
trees_before [] rest = rest
trees_before (t ∷ ts) rest = more_trees t (trees_before ts rest)

trees_all : (ts : List (Tree SourceTypes)) → trees_before ts no_trees ≡ trees_from ts
trees_all [] = refl
trees_all (t ∷ ts) = ap (λ r. more_trees t r) (trees_all ts)

trees_one : (ts : List (Tree SourceTypes)) (t : Tree SourceTypes) (rest : Trees SourceTypes) → trees_before ts (more_trees t rest) ≡ trees_before (ts ++ t ∷ []) rest
trees_one [] t rest = refl
trees_one (u ∷ ts) t rest = ap (λ r. more_trees u r) (trees_one ts t rest)

-- the trees that are there, and then those to come
unfoldable pub then_trees : List (Tree SourceTypes) → Trees SourceTypes → Program SourceTypes (Trees SourceTypes)
then_trees there ts = done (trees_before there ts)

pub items-start : (w : World SourceTypes) (item : ℕ → Program SourceTypes (Tree SourceTypes)) (n : ℕ) (c : Call SourceTypes)
    → came w (items_from item 0 n) c ≡ came w (go_on (items_from item 0 n) (then_trees [])) c
unfolding then_trees
items-start w item n c =
    let x : Came SourceTypes (Trees SourceTypes) = came w (items_from item 0 n) c in
    sym (on w (items_from item 0 n) (then_trees []) c ∙ at_done w x.answer x.call)

next_item : (w : World SourceTypes) (item : ℕ → Program SourceTypes (Tree SourceTypes)) (i more : ℕ) (there longer : List (Tree SourceTypes)) (t : Tree SourceTypes) (c d : Call SourceTypes)
    → came w (item i) c ≡ reached t d
    → longer ≡ there ++ t ∷ []
    → came w (go_on (items_from item i (suc more)) (then_trees there)) c ≡ came w (go_on (items_from item (i + 1) more) (then_trees longer)) d
unfolding then_trees
next_item w item i more there longer t c d h long =
    let rest : Program SourceTypes (Trees SourceTypes) = items_from item (i + 1) more in
    let tail : Came SourceTypes (Trees SourceTypes) = came w rest d in
    let whole : came w (items_from item i (suc more)) c ≡ reached (more_trees t tail.answer) tail.call =
    on w (item i) (λ x. go_on rest (λ ts. done (more_trees x ts))) c ∙
    ap (λ (x : Came SourceTypes (Tree SourceTypes)). came w (go_on rest (λ ts. done (more_trees x.answer ts))) x.call) h ∙
    on w rest (λ ts. done (more_trees t ts)) d ∙
    at_done w (more_trees t tail.answer) tail.call in
    on w (items_from item i (suc more)) (then_trees there) c ∙
    ap (λ (x : Came SourceTypes (Trees SourceTypes)). came w (then_trees there x.answer) x.call) whole ∙
    ap (λ (ts : Trees SourceTypes). came w (done ts) tail.call) (trees_one there t tail.answer) ∙
    ap (λ (ts : List (Tree SourceTypes)). came w (done (trees_before ts tail.answer)) tail.call) (sym long) ∙
    sym (on w rest (then_trees longer) d)

-- one more item
pub items-more : (w : World SourceTypes) (item : ℕ → Program SourceTypes (Tree SourceTypes)) (i n : ℕ) (there longer : List (Tree SourceTypes)) (t : Tree SourceTypes) (c d : Call SourceTypes)
    → i < n
    → came w (item i) c ≡ reached t d
    → longer ≡ there ++ t ∷ []
    → came w (go_on (items_from item i (n - i)) (then_trees there)) c ≡ came w (go_on (items_from item (i + 1) (n - (i + 1))) (then_trees longer)) d
items-more w item i n there longer t c d low h long =
    let one : n - i ≡ suc (n - (i + 1)) = omega arith in
    ap (λ (k : ℕ). came w (go_on (items_from item i k) (then_trees there)) c) one ∙ next_item w item i (n - (i + 1)) there longer t c d h long

-- no item is left
pub items-end : (w : World SourceTypes) (item : ℕ → Program SourceTypes (Tree SourceTypes)) (i n : ℕ) (all : List (Tree SourceTypes)) (c : Call SourceTypes)
    → n ≤ i → came w (go_on (items_from item i (n - i)) (then_trees all)) c ≡ reached (trees_from all) c
unfolding then_trees go_on
items-end w item i n all c end =
    let none : n - i ≡ zero = omega arith in
    ap (λ (k : ℕ). came w (go_on (items_from item i k) (then_trees all)) c) none ∙ at_done w (trees_before all no_trees) c ∙ ap (λ ts. reached ts c) (trees_all all)

-- the tree of a plan with no template
pub tree-none : (template : Option Template) (f : Filling) (t : ScriptTree) → template ≡ None → t ≡ shown.placeholder_tree → tree_with template f ≡ tree_of t
tree-none template f t none is = ap (λ (o : Option Template). tree_with o f) none ∙ sym (ap tree_of is ∙ placeholder-is)

-- the tree of a template whose slots are filled
pub tree-some : (template : Option Template) (u v : Template) (g : code.Filling) → template ≡ Some u → v ≡ u
    → tree_with template (filling_of g) ≡ tree_of {P = Script} {C = ℕ} {Q = List Value} {V = Value} {H = Doing} {T = TaskState} {E = Doing} {L = Value} (record { template = v; dynamic_nodes = g.nodes; dynamic_attrs = g.attributes })
tree-some template u v g some is =
    let t : ScriptTree = record { template = v; dynamic_nodes = g.nodes; dynamic_attrs = g.attributes } in
    ap (λ (o : Option Template). tree_with o (filling_of g)) some ∙ ap (λ (x : Template). tree_with (Some x) (filling_of g)) (sym is) ∙ sym (tree_out t)

-- a list's slot
pub list-filled : (w : World SourceTypes) (by : Caller) (held : List Value) (slot : SlotPlan) (count : Expression) (item : Plan) (n : ℕ) (v : Value) (trees : List ScriptTree) (c d e : Call SourceTypes)
    → slot ≡ plans.ListOf count item
    → came w (evaluate by held (expression_of count)) c ≡ reached v d
    → n ≡ item_count v
    → came w (items_from (λ i. (planned item).tree by (held ++ NumberValue (pos i) ∷ [])) 0 n) d ≡ reached (trees_from (map tree_of trees)) e
    → came w (slot_program slot by held) c ≡ reached (slot_of (nodes.Fragment trees)) e
list-filled w by held slot count item n v trees c d e is h many k =
    let items : ℕ → Program SourceTypes (Trees SourceTypes) = λ m. items_from (λ i. (planned item).tree by (held ++ NumberValue (pos i) ∷ [])) 0 m in
    let shows : Trees SourceTypes → Program SourceTypes (Slot SourceTypes) = λ ts. done (fragment_slot ts) in
    ap (λ (s : SlotPlan). came w (slot_program s by held) c) is ∙
    ap (λ q. came w q c) (slot-ListOf by held count item) ∙
    on w (evaluate by held (expression_of count)) (λ x. go_on (items (item_count x)) shows) c ∙
    ap (λ (x : Came SourceTypes Value). came w (go_on (items (item_count x.answer)) shows) x.call) h ∙
    ap (λ (m : ℕ). came w (go_on (items m) shows) d) (sym many) ∙
    on w (items n) shows d ∙
    ap (λ (x : Came SourceTypes (Trees SourceTypes)). came w (shows x.answer) x.call) k ∙
    at_done w (fragment_slot (trees_from (map tree_of trees))) e ∙
    ap (λ s. reached s e) (sym (slot_Fragment trees))

-- a call and its frame by other names
pub moved-frame : {A : Type 0} (before after : ScriptCall) (v : ScriptWorld) (f g : Frame) (p : Frame → Program SourceTypes A) (x : A)
    → before.world ≡ v → f ≡ g
    → Comes before after (p f) x
    → came (world_of v) (p g) (call_of before) ≡ reached x (call_of after)
moved-frame before after v f g p x world frame h =
    subst (λ (y : Frame). came (world_of v) (p y) (call_of before) ≡ reached x (call_of after)) frame
    (subst (λ (u : ScriptWorld). came (world_of u) (p f) (call_of before) ≡ reached x (call_of after)) world h)

pub ruleset filling = (
  on,
  at_done,
  at_scope,
  map-append,
  append_nil,
  slot-fragment,
  slot-error-boundary,
  slot-suspense-boundary,
  component_App,
  slot_Text,
  slot_Placeholder,
  slot_Component,
  slot_Fragment,
  tree_out,
  placeholder-is,
  is-empty,
  fill-Attribute,
  fill-Listener,
  fill-Node,
  slot-TextOf,
  slot-UseOf,
  slot-ListOf,
  slot-PickOf,
  slot-FragmentOf,
  slot-ErrorBoundaryOf,
  slot-SuspenseBoundaryOf,
  slot-Hole,
  tree-start,
  items-start,
)
