-- The nodes and the slots of a source, one by one.
use Rattle.std.proofs.Common.{ℕ, List, ◌≡◌, ap, subst, sym, rules, map}
use Rattle.std.specs.Prelude.{Option, option_map}
use Rattle.rt_language.specs.Syntax as language
use Rattle.rt_language.specs.Syntax.{View, TextView, ElementView, SlotView}
use Rattle.lang_syntax.specs.Mirror.{node_before, node_step, view_of, attribute_of, expression_of, use_of}
use Rattle.lang_syntax.specs.declared.expression.Expression.{Expression}
use Rattle.lang_syntax.specs.declared.view.ComponentUse.{ComponentUse}
use Rattle.lang_syntax.specs.declared.view.ViewAttribute.{ViewAttribute}
use Rattle.lang_syntax.specs.declared.view.ViewNode.{ViewNode, the_lemmas}
use Rattle.lang_syntax.specs.declared.view.ViewNode.TheVariants as nodes
use Rattle.lang_syntax.specs.declared.view.ViewNode.TheOpen.{ViewNode-F}
use Rattle.lang_syntax.specs.declared.view.ViewNode.TheViews.{out-ViewNode, roll-ViewNode, roll-out-ViewNode}
use Rattle.lang_syntax.specs.declared.view.ViewSlot.{ViewSlot}
use Rattle.lang_syntax.specs.declared.view.ViewSlot.TheVariants as slots
use Rattle.lang_views.specs.Meant.{slot_of}

text_is : (text : List ℕ) → node_before (nodes.Text text) ≡ node_step (ViewNode-F.Text text)
text_is text = search (rules, the_lemmas)

element_is : (tag : List ℕ) (namespace : Option (List ℕ)) (attributes : List ViewAttribute) (kids : List ViewNode)
    → node_before (nodes.Element tag namespace attributes kids) ≡ node_step (ViewNode-F.Element tag namespace attributes (map node_before kids))
element_is tag namespace attributes kids = search (rules, the_lemmas)

slot_is : (slot : ViewSlot) → node_before (nodes.Slot slot) ≡ node_step (ViewNode-F.Slot (slot_of slot))
slot_is slot = search (rules, the_lemmas)

-- each kind of node, before those that come after it

pub node-Text : (text : List ℕ) (rest : View) → node_before (nodes.Text text) rest ≡ TextView text rest
node-Text text rest = ap (λ (f : View → View). f rest) (text_is text)

pub node-Element : (tag : List ℕ) (namespace : Option (List ℕ)) (attributes : List ViewAttribute) (kids : List ViewNode) (rest : View)
    → node_before (nodes.Element tag namespace attributes kids) rest ≡ ElementView tag namespace (map attribute_of attributes) (view_of kids) rest
node-Element tag namespace attributes kids rest = ap (λ (f : View → View). f rest) (element_is tag namespace attributes kids)

pub node-Slot : (slot : ViewSlot) (rest : View) → node_before (nodes.Slot slot) rest ≡ SlotView (slot_of slot) rest
node-Slot slot rest = ap (λ (f : View → View). f rest) (slot_is slot)

-- each kind of slot

pub slot-TextOf : (e : Expression) → slot_of (slots.TextOf e) ≡ language.TextOf (expression_of e)
slot-TextOf e = search (rules, the_lemmas)

pub slot-UseOf : (u : ComponentUse) → slot_of (slots.UseOf u) ≡ language.UseOf (use_of u)
slot-UseOf u = search (rules, the_lemmas)

pub slot-ListOf : (count : Expression) (item : List ViewNode) → slot_of (slots.ListOf count item) ≡ language.ListOf (expression_of count) (view_of item)
slot-ListOf count item = search (rules, the_lemmas)

pub slot-PickOf : (test : Expression) (chosen other : List ViewNode) → slot_of (slots.PickOf test chosen other) ≡ language.PickOf (expression_of test) (view_of chosen) (view_of other)
slot-PickOf test chosen other = search (rules, the_lemmas)

pub slot-FragmentOf : (children : List ViewNode) → slot_of (slots.FragmentOf children) ≡ language.FragmentOf (view_of children)
slot-FragmentOf children = search (rules, the_lemmas)

pub slot-ErrorBoundaryOf : (kids : List ViewNode) (handler : Option ComponentUse) → slot_of (slots.ErrorBoundaryOf kids handler) ≡ language.ErrorBoundaryOf (view_of kids) (option_map use_of handler)
slot-ErrorBoundaryOf kids handler = search (rules, the_lemmas)

pub slot-SuspenseBoundaryOf : (kids : List ViewNode) (fallback : Option ComponentUse) → slot_of (slots.SuspenseBoundaryOf kids fallback) ≡ language.SuspenseBoundaryOf (view_of kids) (option_map use_of fallback)
slot-SuspenseBoundaryOf kids fallback = search (rules, the_lemmas)

pub slot-Hole : slot_of slots.Hole ≡ language.Hole
slot-Hole = search (rules, the_lemmas)

-- every node is of one of the three kinds

rolled : (P : ViewNode → Type 0)
    → ((text : List ℕ) → P (nodes.Text text))
    → ((tag : List ℕ) (namespace : Option (List ℕ)) (attributes : List ViewAttribute) (kids : List ViewNode) → P (nodes.Element tag namespace attributes kids))
    → ((slot : ViewSlot) → P (nodes.Slot slot))
    → (x : ViewNode-F ViewNode ViewSlot) → P (roll-ViewNode x)
rolled P texts elements holes (ViewNode-F.Text text) = subst P (sym (nodes.rolls-Text text)) (texts text)
rolled P texts elements holes (ViewNode-F.Element tag namespace attributes kids) = subst P (sym (nodes.rolls-Element tag namespace attributes kids)) (elements tag namespace attributes kids)
rolled P texts elements holes (ViewNode-F.Slot slot) = subst P (sym (nodes.rolls-Slot slot)) (holes slot)

pub of-each-kind : (P : ViewNode → Type 0)
    → ((text : List ℕ) → P (nodes.Text text))
    → ((tag : List ℕ) (namespace : Option (List ℕ)) (attributes : List ViewAttribute) (kids : List ViewNode) → P (nodes.Element tag namespace attributes kids))
    → ((slot : ViewSlot) → P (nodes.Slot slot))
    → (node : ViewNode) → P node
of-each-kind P texts elements holes node = subst P (roll-out-ViewNode node) (rolled P texts elements holes (out-ViewNode node))
