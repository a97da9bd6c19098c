-- What the views of a source mean, node by node and slot by slot, as plans of them do.
use Rattle.std.proofs.Common.{ℕ, List, [], ◌∷◌, ◌++◌, ◌≡◌, refl, sym, ap, subst, ◌∙◌, map, ◌+◌, length, arith}
use Rattle.std.specs.Bool.{◌==◌}
use Rattle.std.specs.Prelude.{true, false, Option, Some, None, option_map, is_none}
use Rattle.tree_nodes.specs.declared.template.TemplateParts.{TemplateParts as Template}
use Rattle.rt_model.specs.Program.{done, current_scope}
use Rattle.rt_model.specs.Tree.{Slot, block, listener}
use Rattle.tree_mirror.specs.Sealed.{template_of}
use Rattle.rt_language.specs.Expressions.{SourceTypes, evaluate, evaluate_all}
use Rattle.rt_language.specs.Sequence.{go_on}
use Rattle.rt_language.specs.Statements.{doing}
use Rattle.rt_language.specs.Syntax as language
use Rattle.rt_language.specs.Syntax.{View, NoViews, TextView, ElementView, SlotView}
use Rattle.rt_language.specs.Views as views
use Rattle.rt_language.specs.Views.{Filling, fill, fill_slot, given_by, attribute_value, attribute_of, template_nodes, template_in_bytes, slots_from}
use Rattle.lang_syntax.specs.Mirror as source
use Rattle.lang_syntax.specs.Mirror.{node_before, view_of, expression_of, arguments_of}
use Rattle.lang_syntax.specs.declared.expression.Expression.{Expression}
use Rattle.lang_syntax.specs.declared.view.ComponentUse.{ComponentUse}
use Rattle.lang_syntax.specs.declared.view.ViewAttribute.{ViewAttribute}
use Rattle.lang_syntax.specs.declared.view.ViewAttribute.TheVariants as attributes
use Rattle.lang_syntax.specs.declared.view.ViewNode.{ViewNode}
use Rattle.lang_syntax.specs.declared.view.ViewNode.TheVariants as nodes
use Rattle.lang_syntax.specs.declared.view.ViewSlot.{ViewSlot}
use Rattle.lang_syntax.specs.declared.view.ViewSlot.TheVariants as slots
use Rattle.lang_views.specs.Plans.{Held, Planned, planned, fill_of, slot_program, fill_step, slot_step, plan_step, tree_with, one_attribute, one_slot}
use Rattle.lang_views.specs.Meant.{slot_of, then_filled, filled_by, view_filled, attributes_filled, slot_filled, view_meant}
use Rattle.lang_views.specs.declared.plan.Plan.{Plan}
use Rattle.lang_views.specs.declared.plan.Fill.TheFolds.{fold-roll-Plan}
use Rattle.lang_views.specs.declared.plan.Fill.TheViews.{roll-Plan}
use Rattle.lang_views.specs.declared.plan.SlotPlan.{SlotPlan}
use Rattle.lang_views.specs.declared.plan.SlotPlan.TheVariants as plans
use Rattle.lang_views.specs.declared.plan.Fill.{Fill}
use Rattle.lang_views.specs.declared.plan.Fill.TheVariants as fills
use Rattle.lang_views.specs.declared.plan.Fill.TheOpen.{SlotPlan-F}
use Rattle.lang_views.proofs.Sequence.{go_on-assoc}
use Rattle.lang_views.proofs.Filled.{then_on, both, after-both, then-assoc, then-no-view, no-fill-then, more-then}
use Rattle.lang_views.proofs.Plans.{fill-is-Attribute, fill-is-Listener, fill-is-Node, slot-is-TextOf, slot-is-UseOf, slot-is-ListOf, slot-is-PickOf, slot-is-FragmentOf, slot-is-ErrorBoundaryOf, slot-is-SuspenseBoundaryOf, slot-is-Hole}
use Rattle.lang_views.proofs.Nodes.{node-Text, node-Element, node-Slot, slot-TextOf, slot-UseOf, slot-ListOf, slot-PickOf, slot-FragmentOf, slot-ErrorBoundaryOf, slot-SuspenseBoundaryOf, slot-Hole, of-each-kind}

-- the slots of attributes

-- a slot of one attribute, before those of others
slot_attribute : (name : List ℕ) (value : Expression) (rest : List language.ViewAttribute)
    → then_filled (fill_of (fills.Attribute name value)) (attributes_filled rest) ≡ attributes_filled (language.SlotAttribute name (expression_of value) ∷ rest)
unfolding then_filled attributes_filled go_on
slot_attribute name value rest =
    ap (λ h. then_filled h (attributes_filled rest)) (fill-is-Attribute name value) ∙
    (λ i by held.
    (
    go_on-assoc (evaluate by held (expression_of value)) (λ v. done (one_attribute (attribute_of name (attribute_value v)))) (λ f. then_on f (attributes_filled rest by held)) ∙
    (λ j. go_on (evaluate by held (expression_of value)) (λ v. go_on-assoc (given_by by held rest) (λ own. done (record { attributes = own; slots = [] })) (λ g. done (views.filled_on (one_attribute (attribute_of name (attribute_value v))) g)) j)) ∙
    sym
    (
    go_on-assoc (evaluate by held (expression_of value)) (λ v. go_on (given_by by held rest) (λ more. done (views.with_attribute (attribute_of name (attribute_value v)) more))) (λ own. done (record { attributes = own; slots = [] })) ∙
    (λ j. go_on (evaluate by held (expression_of value)) (λ v. go_on-assoc (given_by by held rest) (λ more. done (views.with_attribute (attribute_of name (attribute_value v)) more)) (λ own. done (record { attributes = own; slots = [] })) j))
    )
    )
    i)

-- a slot of one listener, before those of others
slot_listener : (name : List ℕ) (action : ℕ) (arguments : List Expression) (rest : List language.ViewAttribute)
    → then_filled (fill_of (fills.Listener name action arguments)) (attributes_filled rest) ≡ attributes_filled (language.ListenerAttribute name action (arguments_of arguments) ∷ rest)
unfolding then_filled attributes_filled go_on
slot_listener name action arguments rest =
    ap (λ h. then_filled h (attributes_filled rest)) (fill-is-Listener name action arguments) ∙
    (λ i by held.
    (
    go_on-assoc (evaluate_all by held (arguments_of arguments)) (λ vs. current_scope (λ s. done (one_attribute (attribute_of name (listener s (doing action vs)))))) (λ f. then_on f (attributes_filled rest by held)) ∙
    (λ j. go_on (evaluate_all by held (arguments_of arguments)) (λ vs. current_scope (λ s. go_on-assoc (given_by by held rest) (λ own. done (record { attributes = own; slots = [] })) (λ g. done (views.filled_on (one_attribute (attribute_of name (listener s (doing action vs)))) g)) j))) ∙
    sym
    (
    go_on-assoc (evaluate_all by held (arguments_of arguments)) (λ vs. current_scope (λ s. go_on (given_by by held rest) (λ more. done (views.with_attribute (attribute_of name (listener s (doing action vs))) more)))) (λ own. done (record { attributes = own; slots = [] })) ∙
    (λ j. go_on (evaluate_all by held (arguments_of arguments)) (λ vs. current_scope (λ s. go_on-assoc (given_by by held rest) (λ more. done (views.with_attribute (attribute_of name (listener s (doing action vs))) more)) (λ own. done (record { attributes = own; slots = [] })) j)))
    )
    )
    i)

-- the slot of an attribute, before those of the others
pub attribute-Static : (given : ViewAttribute) (name value : List ℕ) (all : List Fill) (rest : List language.ViewAttribute) → given ≡ attributes.Static name value
    → then_filled (filled_by all) (attributes_filled rest) ≡ then_filled (filled_by all) (attributes_filled (source.attribute_of given ∷ rest))
unfolding attributes_filled
attribute-Static given name value all rest is = ap (λ a. then_filled (filled_by all) (attributes_filled (source.attribute_of a ∷ rest))) (sym is)

pub attribute-Slot : (given : ViewAttribute) (name : List ℕ) (value : Expression) (before after : List Fill) (rest : List language.ViewAttribute) → given ≡ attributes.Slot name value
    → after ≡ before ++ fills.Attribute name value ∷ []
    → then_filled (filled_by after) (attributes_filled rest) ≡ then_filled (filled_by before) (attributes_filled (source.attribute_of given ∷ rest))
attribute-Slot given name value before after rest is more =
    more-then before after (fills.Attribute name value) (attributes_filled rest) more ∙
    ap (λ h. then_filled (filled_by before) h) (slot_attribute name value rest) ∙
    ap (λ a. then_filled (filled_by before) (attributes_filled (source.attribute_of a ∷ rest))) (sym is)

pub attribute-Listener : (given : ViewAttribute) (name : List ℕ) (action : ℕ) (arguments : List Expression) (before after : List Fill) (rest : List language.ViewAttribute) → given ≡ attributes.Listener name action arguments
    → after ≡ before ++ fills.Listener name action arguments ∷ []
    → then_filled (filled_by after) (attributes_filled rest) ≡ then_filled (filled_by before) (attributes_filled (source.attribute_of given ∷ rest))
attribute-Listener given name action arguments before after rest is more =
    more-then before after (fills.Listener name action arguments) (attributes_filled rest) more ∙
    ap (λ h. then_filled (filled_by before) h) (slot_listener name action arguments rest) ∙
    ap (λ a. then_filled (filled_by before) (attributes_filled (source.attribute_of a ∷ rest))) (sym is)

-- the slots of no attribute
pub no-attributes : (a : Held Filling) → then_filled a (attributes_filled []) ≡ a
unfolding attributes_filled go_on view_filled fill
no-attributes a = then-no-view a

-- the slots of nodes

element_filled : (tag : List ℕ) (namespace : Option (List ℕ)) (given : List language.ViewAttribute) (kids rest : View)
    → view_filled (ElementView tag namespace given kids rest) ≡ then_filled (attributes_filled given) (then_filled (view_filled kids) (view_filled rest))
unfolding then_filled attributes_filled view_filled fill go_on
element_filled tag namespace given kids rest = λ i by held.
    sym
    (
    go_on-assoc (given_by by held given) (λ own. done (record { attributes = own; slots = [] })) (λ f. then_on f (both (fill by held kids) (fill by held rest))) ∙
    (λ j. go_on (given_by by held given) (λ own. after-both (record { attributes = own; slots = [] }) (fill by held kids) (fill by held rest) j))
    )
    i

slot_before : (slot : language.ViewSlot) (rest : View) (p : Held (Slot SourceTypes)) → p ≡ slot_filled slot
    → then_filled (λ by held. go_on (p by held) (λ v. done (one_slot v))) (view_filled rest) ≡ view_filled (SlotView slot rest)
unfolding then_filled view_filled fill go_on slot_filled
slot_before slot rest p is =
    ap (λ (q : Held (Slot SourceTypes)). then_filled (λ by held. go_on (q by held) (λ v. done (one_slot v))) (view_filled rest)) is ∙
    (λ i by held. go_on-assoc (fill_slot by held slot) (λ v. done (one_slot v)) (λ f. then_on f (fill by held rest)) i)

pub filled-Text : (node : ViewNode) (text : List ℕ) (all : List Fill) (rest : View) → node ≡ nodes.Text text
    → then_filled (filled_by all) (view_filled rest) ≡ then_filled (filled_by all) (view_filled (node_before node rest))
unfolding view_filled fill
filled-Text node text all rest is =
    ap (λ v. then_filled (filled_by all) (view_filled v)) (sym (node-Text text rest)) ∙
    ap (λ n. then_filled (filled_by all) (view_filled (node_before n rest))) (sym is)

pub filled-Element : (node : ViewNode) (tag : List ℕ) (namespace : Option (List ℕ)) (given : List ViewAttribute) (kids : List ViewNode) (before between after : List Fill) (rest : View)
    → node ≡ nodes.Element tag namespace given kids
    → filled_by between ≡ then_filled (filled_by before) (attributes_filled (map source.attribute_of given))
    → filled_by after ≡ then_filled (filled_by between) (view_filled (view_of kids))
    → then_filled (filled_by after) (view_filled rest) ≡ then_filled (filled_by before) (view_filled (node_before node rest))
filled-Element node tag namespace given kids before between after rest is own below =
    let shape : node_before node rest ≡ ElementView tag namespace (map source.attribute_of given) (view_of kids) rest =
    ap (λ n. node_before n rest) is ∙ node-Element tag namespace given kids rest in
    ap (λ h. then_filled h (view_filled rest)) below ∙
    then-assoc (filled_by between) (view_filled (view_of kids)) (view_filled rest) ∙
    ap (λ h. then_filled h (then_filled (view_filled (view_of kids)) (view_filled rest))) own ∙
    then-assoc (filled_by before) (attributes_filled (map source.attribute_of given)) (then_filled (view_filled (view_of kids)) (view_filled rest)) ∙
    ap (λ h. then_filled (filled_by before) h) (sym (element_filled tag namespace (map source.attribute_of given) (view_of kids) rest)) ∙
    ap (λ v. then_filled (filled_by before) (view_filled v)) (sym shape)

pub filled-Slot : (node : ViewNode) (slot : ViewSlot) (plan : SlotPlan) (before after : List Fill) (rest : View)
    → node ≡ nodes.Slot slot
    → slot_program plan ≡ slot_filled (slot_of slot)
    → after ≡ before ++ fills.Node plan ∷ []
    → then_filled (filled_by after) (view_filled rest) ≡ then_filled (filled_by before) (view_filled (node_before node rest))
filled-Slot node slot plan before after rest is means more =
    let shape : node_before node rest ≡ SlotView (slot_of slot) rest = ap (λ n. node_before n rest) is ∙ node-Slot slot rest in
    more-then before after (fills.Node plan) (view_filled rest) more ∙
    ap (λ h. then_filled (filled_by before) (then_filled h (view_filled rest))) (fill-is-Node plan) ∙
    ap (λ h. then_filled (filled_by before) h) (slot_before (slot_of slot) rest (slot_program plan) means) ∙
    ap (λ v. then_filled (filled_by before) (view_filled v)) (sym shape)

-- whether there is a node

some_node : (node : ViewNode) (rest : View) → views.is_empty (node_before node rest) ≡ false
some_node node rest =
    of-each-kind (λ n. views.is_empty (node_before n rest) ≡ false)
    (λ text. ap views.is_empty (node-Text text rest))
    (λ tag namespace given kids. ap views.is_empty (node-Element tag namespace given kids rest))
    (λ slot. ap views.is_empty (node-Slot slot rest))
    node

shows : (view : View) (f : Filling) → views.is_empty view ≡ false
    → views.tree_with view f ≡ block (template_in_bytes (template_nodes 0 0 view)) f.attributes (slots_from f.slots)
shows NoViews f h = cc
shows (TextView text rest) f h = refl
shows (ElementView tag namespace given kids rest) f h = refl
shows (SlotView slot rest) f h = refl

-- the template of nodes, where there are some

pub empty-none : (ns : List ViewNode) → ns ≡ [] → true ≡ views.is_empty (view_of ns)
empty-none ns is = ap (λ xs. views.is_empty (view_of xs)) (sym is)

pub some-nodes : (ns : List ViewNode) → false ≡ (length ns == 0) → ns ≡ [] → ⊥
some-nodes ns h none = let z : false ≡ (0 == 0) = subst (λ (xs : List ViewNode). false ≡ (length xs == 0)) none h in cc

pub empty-some : (ns : List ViewNode) → (ns ≡ [] → ⊥) → false ≡ views.is_empty (view_of ns)
empty-some [] some = absurd (some refl)
empty-some (n ∷ ns) some = sym (some_node n (view_of ns))

pub tree-none : (ns : List ViewNode) (f : Filling) → ns ≡ [] → tree_with None f ≡ views.tree_with (view_of ns) f
tree-none ns f is = ap (λ xs. views.tree_with (view_of xs) f) (sym is)

pub tree-some : (ns : List ViewNode) (t : Template) (f : Filling) → (ns ≡ [] → ⊥) → template_of t ≡ template_in_bytes (template_nodes 0 0 (view_of ns)) → tree_with (Some t) f ≡ views.tree_with (view_of ns) f
tree-some [] t f some is = absurd (some refl)
tree-some (n ∷ ns) t f some is =
    ap (λ u. block u f.attributes (slots_from f.slots)) is ∙ sym (shows (view_of (n ∷ ns)) f (some_node n (view_of ns)))

-- plans

plan_rolled : (template : Option Template) (all : List Fill) → planned (roll-Plan (record { template = template; fills = all })) ≡ plan_step (record { template = template; fills = map fill_of all })
unfolding planned fill_of
plan_rolled template all =
    fold-roll-Plan (Held Filling) (Held (Slot SourceTypes)) Planned fill_step slot_step plan_step (record { template = template; fills = all })

-- a plan that fills its template as the view does
pub plan-means : (template : Option Template) (all : List Fill) (view : View) (none : List Fill)
    → is_none template ≡ views.is_empty view
    → ((f : Filling) → tree_with template f ≡ views.tree_with view f)
    → none ≡ [] → filled_by all ≡ then_filled (filled_by none) (view_filled view)
    → planned (roll-Plan (record { template = template; fills = all })) ≡ view_meant view
unfolding filled_by view_filled view_meant
plan-means template all view none empty trees no_fill fills =
    let same : filled_by all ≡ view_filled view = fills ∙ ap (λ xs. then_filled (filled_by xs) (view_filled view)) no_fill ∙ no-fill-then (view_filled view) in
    plan_rolled template all ∙
    (λ i. record { is_empty = empty i; tree = λ by held. go_on (same i by held) (λ f. done (trees f i)) })

-- slots

pub means-TextOf : (slot : ViewSlot) (e : Expression) → slot ≡ slots.TextOf e → slot_program (plans.TextOf e) ≡ slot_filled (slot_of slot)
unfolding slot_filled fill_slot
means-TextOf slot e is = slot-is-TextOf e ∙ ap slot_filled (sym (ap slot_of is ∙ slot-TextOf e))

pub means-UseOf : (slot : ViewSlot) (u : ComponentUse) → slot ≡ slots.UseOf u → slot_program (plans.UseOf u) ≡ slot_filled (slot_of slot)
unfolding slot_filled fill_slot
means-UseOf slot u is = slot-is-UseOf u ∙ ap slot_filled (sym (ap slot_of is ∙ slot-UseOf u))

pub means-ListOf : (slot : ViewSlot) (count : Expression) (item : List ViewNode) (plan : Plan) → slot ≡ slots.ListOf count item
    → planned plan ≡ view_meant (view_of item)
    → slot_program (plans.ListOf count plan) ≡ slot_filled (slot_of slot)
unfolding slot_filled fill_slot view_meant
means-ListOf slot count item plan is means =
    let shape : slot_of slot ≡ language.ListOf (expression_of count) (view_of item) = ap slot_of is ∙ slot-ListOf count item in
    slot-is-ListOf count plan ∙
    ap (λ (p : Planned). slot_step (SlotPlan-F.ListOf count p)) means ∙
    ap slot_filled (sym shape)

pub means-PickOf : (slot : ViewSlot) (test : Expression) (chosen other : List ViewNode) (first second : Plan) → slot ≡ slots.PickOf test chosen other
    → planned first ≡ view_meant (view_of chosen) → planned second ≡ view_meant (view_of other)
    → slot_program (plans.PickOf test first second) ≡ slot_filled (slot_of slot)
unfolding slot_filled fill_slot view_meant
means-PickOf slot test chosen other first second is means also =
    let shape : slot_of slot ≡ language.PickOf (expression_of test) (view_of chosen) (view_of other) = ap slot_of is ∙ slot-PickOf test chosen other in
    slot-is-PickOf test first second ∙
    (λ i. slot_step (SlotPlan-F.PickOf test (means i) (also i))) ∙
    ap slot_filled (sym shape)

pub means-FragmentOf : (slot : ViewSlot) (children : List ViewNode) (plan : Plan) → slot ≡ slots.FragmentOf children
    → planned plan ≡ view_meant (view_of children)
    → slot_program (plans.FragmentOf plan) ≡ slot_filled (slot_of slot)
unfolding slot_filled fill_slot view_meant
means-FragmentOf slot children plan is means =
    let shape : slot_of slot ≡ language.FragmentOf (view_of children) = ap slot_of is ∙ slot-FragmentOf children in
    slot-is-FragmentOf plan ∙
    ap (λ (p : Planned). slot_step (SlotPlan-F.FragmentOf p)) means ∙
    ap slot_filled (sym shape)

pub means-ErrorBoundaryOf : (slot : ViewSlot) (kids : List ViewNode) (handler : Option ComponentUse) (plan : Plan) → slot ≡ slots.ErrorBoundaryOf kids handler
    → planned plan ≡ view_meant (view_of kids)
    → slot_program (plans.ErrorBoundaryOf plan handler) ≡ slot_filled (slot_of slot)
unfolding slot_filled fill_slot view_meant
means-ErrorBoundaryOf slot kids handler plan is means =
    let shape : slot_of slot ≡ language.ErrorBoundaryOf (view_of kids) (option_map source.use_of handler) = ap slot_of is ∙ slot-ErrorBoundaryOf kids handler in
    slot-is-ErrorBoundaryOf plan handler ∙
    ap (λ (p : Planned). slot_step (SlotPlan-F.ErrorBoundaryOf p handler)) means ∙
    ap slot_filled (sym shape)

pub means-SuspenseBoundaryOf : (slot : ViewSlot) (kids : List ViewNode) (fallback : Option ComponentUse) (plan : Plan) → slot ≡ slots.SuspenseBoundaryOf kids fallback
    → planned plan ≡ view_meant (view_of kids)
    → slot_program (plans.SuspenseBoundaryOf plan fallback) ≡ slot_filled (slot_of slot)
unfolding slot_filled fill_slot view_meant
means-SuspenseBoundaryOf slot kids fallback plan is means =
    let shape : slot_of slot ≡ language.SuspenseBoundaryOf (view_of kids) (option_map source.use_of fallback) = ap slot_of is ∙ slot-SuspenseBoundaryOf kids fallback in
    slot-is-SuspenseBoundaryOf plan fallback ∙
    ap (λ (p : Planned). slot_step (SlotPlan-F.SuspenseBoundaryOf p fallback)) means ∙
    ap slot_filled (sym shape)

pub means-Hole : (slot : ViewSlot) → slot ≡ slots.Hole → slot_program plans.Hole ≡ slot_filled (slot_of slot)
unfolding slot_filled fill_slot
means-Hole slot is = slot-is-Hole ∙ ap slot_filled (sym (ap slot_of is ∙ slot-Hole))
