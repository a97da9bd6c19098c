-- Views that are read of JSON have names.
use Rattle.std.proofs.Common.{ℕ, zero, suc, Bool, true, false, ◌&&◌, ◌||◌, not, List, [], ◌∷◌, ◌++◌, ◌≡◌, refl, sym, subst, map, rules}
use Rattle.std.specs.Prelude.{Option, Some, None, option_map, option_and_then, if◌then◌else◌, is_some, bytes_eq, codes}
use Rattle.std.specs.List.{AllByRecursion}
use Rattle.std.proofs.lemmas.Option.{none-some, same_Some, option_and_then_some}
use Rattle.serde_json.specs.Data.{Data, Items, no_items, item, Members, no_members, member}
use Rattle.serde_json.specs.Find.{get, at, as_str, as_array, as_object}
use Rattle.lang_expressions.specs.Keys.{is_object_of}
use Rattle.lang_expressions.specs.Fields.{text_at, list_at, list_or_empty, is_zero_at}
use Rattle.lang_expressions.specs.Lists.{in_front, read_each, read_members, each_member}
use Rattle.rt_values.specs.Naming.{is_name}
use Rattle.lang_expressions.specs.declared.signatures.Names.{Names}
use Rattle.lang_expressions.specs.Expressions.{expression_in}
use Rattle.lang_expressions.specs.Calls.{expression_at, call_at}
use Rattle.rt_language.specs.Syntax as language
use Rattle.rt_language.specs.Syntax.{View}
use Rattle.lang_syntax.specs.Mirror.{expression_of, use_of, attribute_of, node_step, slot_step, node_before, view_of}
use Rattle.lang_syntax.specs.declared.expression.Expression.{Expression}
use Rattle.lang_syntax.specs.declared.view.ComponentUse.{ComponentUse}
use Rattle.lang_syntax.specs.declared.view.ViewAttribute.{ViewAttribute}
use Rattle.lang_syntax.specs.declared.view.ViewAttribute.TheVariants.{Static, Slot, Listener}
use Rattle.lang_syntax.specs.declared.view.ViewNode.{ViewNode, the_lemmas}
use Rattle.lang_syntax.specs.declared.view.ViewNode.TheVariants as nodes
use Rattle.lang_syntax.specs.declared.view.ViewNode.TheOpen.{ViewNode-F}
use Rattle.lang_syntax.specs.declared.view.ViewNode.TheFolds.{fold-ViewSlot}
use Rattle.lang_syntax.specs.declared.view.ViewSlot.{ViewSlot}
use Rattle.lang_syntax.specs.declared.view.ViewSlot.TheVariants as slots
use Rattle.lang_expressions.specs.declared.view_forms.Leaf.{Leaf}
use Rattle.lang_expressions.specs.declared.view_forms.Leaf.TheVariants as leaves
use Rattle.lang_expressions.specs.declared.view_forms.Form.{Form}
use Rattle.lang_expressions.specs.declared.view_forms.Form.TheVariants as forms
use Rattle.lang_expressions.specs.ViewForms.{form_in}
use Rattle.lang_expressions.specs.Attributes.{static_or, attribute_in, listener_in, attributes_at, listeners_at, all_in}
use Rattle.lang_expressions.specs.Parts.{component_use, use_at, leaf_of, named, name_or_none, namespace_in}
use Rattle.lang_expressions.specs.Views.{views_of, kids_of, element_with, element_of, list_of, view_at, picked, pick_of, fragment_of, boundary_with, boundary_of, formed, text_or, node_of, view_in}
use Rattle.lang_lines.specs.Named.{IsName, IsNamespace, NamedAttribute, NamedView, NamedViewSlot}

-- ---- what was read, from what it was read of

-- what was mapped
pub mapped : {A B P : Type 0} (f : A → B) (o : Option A) (y : B) → option_map f o ≡ Some y → ((x : A) → o ≡ Some x → f x ≡ y → P) → P
mapped f None y e k = absurd (none-some y e)
mapped f (Some x) y e k = k x refl (same_Some (f x) y e)

-- what held
pub held : {A P : Type 0} (b : Bool) (o : Option A) (y : A) → (if b then o else None) ≡ Some y → (b ≡ true → o ≡ Some y → P) → P
held true o y e k = k refl e
held false o y e k = absurd (none-some y e)

-- what didn't
unheld : {A P : Type 0} (b : Bool) (o : Option A) (y : A) → (if b then None else o) ≡ Some y → (b ≡ false → o ≡ Some y → P) → P
unheld true o y e k = absurd (none-some y e)
unheld false o y e k = k refl e

module _ {A : Type 0} (P : A → Type 0) where
  front_all : (o : Option A) (rest : Option (List A)) (xs : List A) → in_front o rest ≡ Some xs
      → ((x : A) → o ≡ Some x → P x) → ((ys : List A) → rest ≡ Some ys → AllByRecursion P ys) → AllByRecursion P xs
  front_all None rest xs e one more = absurd (none-some xs e)
  front_all (Some x) None xs e one more = absurd (none-some xs e)
  front_all (Some x) (Some ys) xs e one more = subst (λ (zs : List A). AllByRecursion P zs) (same_Some (x ∷ ys) xs e) (one x refl, more ys refl)

  -- all items of a list, where each one that is read is so
  pub each_read : (reading : Data → Option A) → ((d : Data) (x : A) → reading d ≡ Some x → P x) → (items : Items) (xs : List A) → read_each reading items ≡ Some xs
      → AllByRecursion P xs
  unfolding read_each
  each_read reading one no_items xs e = subst (λ (zs : List A). AllByRecursion P zs) (same_Some [] xs e) tt
  each_read reading one (item d rest) xs e = front_all (reading d) (read_each reading rest) xs e (one d) (each_read reading one rest)

  -- all members of an object, likewise
  members_read : (reading : List ℕ → Data → Option A) → ((key : List ℕ) (d : Data) (x : A) → reading key d ≡ Some x → P x) → (members : Members) (xs : List A)
      → read_members reading members ≡ Some xs → AllByRecursion P xs
  unfolding read_members
  members_read reading one no_members xs e = subst (λ (zs : List A). AllByRecursion P zs) (same_Some [] xs e) tt
  members_read reading one (member key d rest) xs e = front_all (reading key d) (read_members reading rest) xs e (one key d) (members_read reading one rest)

  -- all that may stand somewhere, likewise
  pub there_read : (reading : List ℕ → Data → Option A) → ((key : List ℕ) (d : Data) (x : A) → reading key d ≡ Some x → P x) → (o : Option Data) (xs : List A)
      → each_member reading o ≡ Some xs → AllByRecursion P xs
  there_read reading one None xs e = subst (λ (zs : List A). AllByRecursion P zs) (same_Some [] xs e) tt
  there_read reading one (Some d) xs e =
      option_and_then_some (read_members reading) (as_object d) xs e (λ members was gives. members_read reading one members xs gives)

  all_joined : (xs ys : List A) → AllByRecursion P xs → AllByRecursion P ys → AllByRecursion P (xs ++ ys)
  all_joined [] ys h k = k
  all_joined (x ∷ xs) ys h k = (h.0, all_joined xs ys h.1 k)

-- ---- names

maybe_named : (o : Option (List ℕ)) (namespace : Option (List ℕ)) → named o ≡ Some namespace → IsNamespace namespace
maybe_named None namespace e = absurd (none-some namespace e)
maybe_named (Some text) namespace e =
    held (is_name text) (Some (Some text)) namespace e (λ is gives. subst (λ (n : Option (List ℕ)). IsNamespace n) (same_Some (Some text) namespace gives) is)

there_named : (o : Option Data) (namespace : Option (List ℕ)) → name_or_none o ≡ Some namespace → IsNamespace namespace
there_named None namespace e = subst (λ (n : Option (List ℕ)). IsNamespace n) (same_Some None namespace e) tt
there_named (Some d) namespace e = maybe_named (as_str d) namespace e

-- ---- attributes and listeners

-- an attribute of code has a name
abbrev AttributeNamed : ViewAttribute → Type 0
AttributeNamed a = NamedAttribute (attribute_of a)

static_named : (name : List ℕ) (text : Option (List ℕ)) (value : Option Expression) (a : ViewAttribute) → IsName name → static_or name text value ≡ Some a → AttributeNamed a
static_named name (Some text) value a h e = subst (λ (x : ViewAttribute). AttributeNamed x) (same_Some (Static name text) a e) h
static_named name None value a h e = mapped (Slot name) value a e (λ v was gives. subst (λ (x : ViewAttribute). AttributeNamed x) gives h)

attribute_named : (names : Names) (variables : List (List ℕ)) (name : List ℕ) (d : Data) (a : ViewAttribute) → attribute_in names variables name d ≡ Some a → AttributeNamed a
attribute_named names variables name d a e =
    held (is_name name) (static_or name (as_str d) (expression_in names variables d)) a e
    (λ is gives. static_named name (as_str d) (expression_in names variables d) a is gives)

named_first : (named other : Bool) → not named || other ≡ false → named ≡ true
named_first true other h = refl
named_first false other h = cc

listener_named : (names : Names) (variables : List (List ℕ)) (name : List ℕ) (d : Data) (a : ViewAttribute) → listener_in names variables name d ≡ Some a → AttributeNamed a
listener_named names variables name d a e =
    let other : Bool = not (is_object_of (codes "do" ∷ codes "args" ∷ []) d) in
    let listens : (ℕ × List Expression) → ViewAttribute = λ call. Listener name call.0 call.1 in
    let call : Option (ℕ × List Expression) = call_at names variables names.actions (codes "do") d in
    unheld (not (is_name name) || other) (option_map listens call) a e
    (λ known gives. mapped listens call a gives (λ c was is. subst (λ (x : ViewAttribute). AttributeNamed x) is (named_first (is_name name) other known)))

in_language : (attributes : List ViewAttribute) → AllByRecursion AttributeNamed attributes → AllByRecursion NamedAttribute (map attribute_of attributes)
in_language [] h = tt
in_language (a ∷ attributes) h = (h.0, in_language attributes h.1)

attributes_named : (names : Names) (variables : List (List ℕ)) (d : Data) (attributes : List ViewAttribute) → all_in names variables d ≡ Some attributes
    → AllByRecursion NamedAttribute (map attribute_of attributes)
attributes_named names variables d attributes e =
    let second : Option (List ViewAttribute) = listeners_at names variables d in
    in_language attributes
    (option_and_then_some (λ first. option_map (λ listeners. first ++ listeners) second) (attributes_at names variables d) attributes e
    (λ first was gives. mapped (λ listeners. first ++ listeners) second attributes gives
    (λ listeners came is. subst (λ (xs : List ViewAttribute). AllByRecursion AttributeNamed xs) is
    (all_joined AttributeNamed first listeners
    (there_read AttributeNamed (attribute_in names variables) (attribute_named names variables) (get (codes "attrs") d) first was)
    (there_read AttributeNamed (listener_in names variables) (listener_named names variables) (get (codes "on") d) listeners came)))))

-- ---- nodes and slots of code as those of the language

-- a slot
abbrev slot_of : ViewSlot → language.ViewSlot
slot_of = fold-ViewSlot (View → View) language.ViewSlot node_step slot_step

text_is : (text : List ℕ) → node_before (nodes.Text text) ≡ node_step (ViewNode-F.Text text)
text_is text = search (rules, the_lemmas)

element_is : (tag : List ℕ) (namespace : Option (List ℕ)) (attributes : List ViewAttribute) (kids : List ViewNode)
    → node_before (nodes.Element tag namespace attributes kids) ≡ node_step (ViewNode-F.Element tag namespace attributes (map node_before kids))
element_is tag namespace attributes kids = search (rules, the_lemmas)

slot_is : (slot : ViewSlot) → node_before (nodes.Slot slot) ≡ node_step (ViewNode-F.Slot (slot_of slot))
slot_is slot = search (rules, the_lemmas)

list_is : (count : Expression) (content : List ViewNode) → slot_of (slots.ListOf count content) ≡ language.ListOf (expression_of count) (view_of content)
list_is count content = search (rules, the_lemmas)

pick_is : (test : Expression) (chosen other : List ViewNode) → slot_of (slots.PickOf test chosen other) ≡ language.PickOf (expression_of test) (view_of chosen) (view_of other)
pick_is test chosen other = search (rules, the_lemmas)

fragment_is : (children : List ViewNode) → slot_of (slots.FragmentOf children) ≡ language.FragmentOf (view_of children)
fragment_is children = search (rules, the_lemmas)

error_is : (kids : List ViewNode) (handler : Option ComponentUse) → slot_of (slots.ErrorBoundaryOf kids handler) ≡ language.ErrorBoundaryOf (view_of kids) (option_map use_of handler)
error_is kids handler = search (rules, the_lemmas)

suspense_is : (kids : List ViewNode) (fallback : Option ComponentUse)
    → slot_of (slots.SuspenseBoundaryOf kids fallback) ≡ language.SuspenseBoundaryOf (view_of kids) (option_map use_of fallback)
suspense_is kids fallback = search (rules, the_lemmas)

text_of_is : (e : Expression) → slot_of (slots.TextOf e) ≡ language.TextOf (expression_of e)
text_of_is e = search (rules, the_lemmas)

use_is : (u : ComponentUse) → slot_of (slots.UseOf u) ≡ language.UseOf (use_of u)
use_is u = search (rules, the_lemmas)

hole_is : slot_of slots.Hole ≡ language.Hole
hole_is = search (rules, the_lemmas)

-- ---- nodes with names, before others with names

abbrev pub KeepsNames : ViewNode → Type 0
KeepsNames node = (rest : View) → NamedView rest → NamedView (node_before node rest)

-- a slot of code has names
abbrev SlotNamed : ViewSlot → Type 0
SlotNamed slot = NamedViewSlot (slot_of slot)

-- such nodes one after another
pub all_named : (found : List ViewNode) → AllByRecursion KeepsNames found → NamedView (view_of found)
all_named [] h = tt
all_named (node ∷ found) h = h.0 (view_of found) (all_named found h.1)

keeps_text : (text : List ℕ) → KeepsNames (nodes.Text text)
keeps_text text rest h = subst (λ (f : View → View). NamedView (f rest)) (sym (text_is text)) h

keeps_element : (tag : List ℕ) (namespace : Option (List ℕ)) (attributes : List ViewAttribute) (kids : List ViewNode) → IsNamespace namespace → IsName tag
    → AllByRecursion NamedAttribute (map attribute_of attributes) → NamedView (view_of kids) → KeepsNames (nodes.Element tag namespace attributes kids)
keeps_element tag namespace attributes kids spaced tagged given inner rest h =
    subst (λ (f : View → View). NamedView (f rest)) (sym (element_is tag namespace attributes kids)) (spaced, tagged, given, inner, h)

keeps_slot : (slot : ViewSlot) → SlotNamed slot → KeepsNames (nodes.Slot slot)
keeps_slot slot n rest h = subst (λ (f : View → View). NamedView (f rest)) (sym (slot_is slot)) (n, h)

-- a slot that was read is a node
slot_kept : (o : Option ViewSlot) (node : ViewNode) → ((slot : ViewSlot) → o ≡ Some slot → SlotNamed slot) → option_map nodes.Slot o ≡ Some node → KeepsNames node
slot_kept o node one e = mapped nodes.Slot o node e (λ slot was is. subst (λ (x : ViewNode). KeepsNames x) is (keeps_slot slot (one slot was)))

slot_as : (slot found : ViewSlot) (meant : language.ViewSlot) → slot_of slot ≡ meant → NamedViewSlot meant → slot ≡ found → SlotNamed found
slot_as slot found meant is h same = subst (λ (x : ViewSlot). SlotNamed x) same (subst (λ (m : language.ViewSlot). NamedViewSlot m) (sym is) h)

leaf_named : (names : Names) (variables : List (List ℕ)) (leaf : Leaf) (d : Data) (slot : ViewSlot) → leaf_of names variables leaf d ≡ Some slot → SlotNamed slot
leaf_named names variables leaves.Text d slot e =
    held (is_object_of (codes "text" ∷ []) d) (option_map slots.TextOf (expression_at names variables (codes "text") d)) slot e
    (λ keyed gives. mapped slots.TextOf (expression_at names variables (codes "text") d) slot gives
    (λ value was is. slot_as (slots.TextOf value) slot (language.TextOf (expression_of value)) (text_of_is value) tt is))
leaf_named names variables leaves.Use d slot e =
    mapped slots.UseOf (component_use names variables d) slot e (λ handed was is. slot_as (slots.UseOf handed) slot (language.UseOf (use_of handed)) (use_is handed) tt is)
leaf_named names variables leaves.Hole d slot e =
    held (is_object_of (codes "hole" ∷ []) d && is_zero_at (codes "hole") d) (Some slots.Hole) slot e
    (λ keyed gives. slot_as slots.Hole slot language.Hole hole_is tt (same_Some slots.Hole slot gives))

-- ---- forms, where the lists of nodes in them are read with names

module _ (views : List (List ℕ) → Items → Option (List ViewNode)) (read : (variables : List (List ℕ)) (items : Items) (found : List ViewNode) → views variables items ≡ Some found → NamedView (view_of found)) where
  -- a list of nodes that may stand somewhere
  list_named : (variables : List (List ℕ)) (o : Option Items) (found : List ViewNode) → option_and_then (views variables) o ≡ Some found → NamedView (view_of found)
  list_named variables o found e = option_and_then_some (views variables) o found e (λ items was gives. read variables items found gives)

  with_named : (names : Names) (variables : List (List ℕ)) (d : Data) (tag : List ℕ) (node : ViewNode) → IsName tag → element_with views names variables d tag ≡ Some node
      → KeepsNames node
  with_named names variables d tag node tagged e =
      let kids : Option (List ViewNode) = kids_of views variables d in
      option_and_then_some (λ namespace. option_and_then (λ attributes. option_map (λ kids. nodes.Element tag namespace attributes kids) kids) (all_in names variables d))
      (namespace_in d) node e
      (λ namespace spaced on. option_and_then_some (λ attributes. option_map (λ kids. nodes.Element tag namespace attributes kids) kids) (all_in names variables d) node on
      (λ attributes given further. mapped (λ kids. nodes.Element tag namespace attributes kids) kids node further
      (λ found inner is. subst (λ (x : ViewNode). KeepsNames x) is
      (keeps_element tag namespace attributes found (there_named (get (codes "ns") d) namespace spaced) tagged
      (attributes_named names variables d attributes given) (list_named variables (list_or_empty (codes "kids") d) found inner)))))

  element_named : (names : Names) (variables : List (List ℕ)) (d : Data) (node : ViewNode) → element_of views names variables d ≡ Some node → KeepsNames node
  element_named names variables d node e =
      let of_tag : List ℕ → Option ViewNode = λ tag. if is_name tag then element_with views names variables d tag else None in
      held (is_object_of (codes "el" ∷ codes "ns" ∷ codes "attrs" ∷ codes "on" ∷ codes "kids" ∷ []) d) (option_and_then of_tag (text_at (codes "el") d)) node e
      (λ keyed on. option_and_then_some of_tag (text_at (codes "el") d) node on
      (λ tag was further. held (is_name tag) (element_with views names variables d tag) node further
      (λ is gives. with_named names variables d tag node is gives)))

  items_named : (names : Names) (variables : List (List ℕ)) (d : Data) (slot : ViewSlot) → list_of views names variables d ≡ Some slot → SlotNamed slot
  items_named names variables d slot e =
      let listed : Expression → List ℕ → Option ViewSlot = λ count name. option_map (λ content. slots.ListOf count content) (option_and_then (views (variables ++ name ∷ [])) (list_at (codes "item") d)) in
      let counted : Expression → Option ViewSlot = λ count. option_and_then (listed count) (text_at (codes "as") d) in
      held (is_object_of (codes "list" ∷ codes "as" ∷ codes "item" ∷ []) d) (option_and_then counted (expression_at names variables (codes "list") d)) slot e
      (λ keyed on. option_and_then_some counted (expression_at names variables (codes "list") d) slot on
      (λ count was further. option_and_then_some (listed count) (text_at (codes "as") d) slot further
      (λ name is rest. mapped (λ content. slots.ListOf count content) (option_and_then (views (variables ++ name ∷ [])) (list_at (codes "item") d)) slot rest
      (λ found inner gives. slot_as (slots.ListOf count found) slot (language.ListOf (expression_of count) (view_of found)) (list_is count found)
      (list_named (variables ++ name ∷ []) (list_at (codes "item") d) found inner) gives))))

  picked_named : (names : Names) (variables : List (List ℕ)) (d : Data) (slot : ViewSlot) → picked views names variables d ≡ Some slot → SlotNamed slot
  picked_named names variables d slot e =
      let ways : Expression → List ViewNode → Option ViewSlot = λ test chosen. option_map (λ other. slots.PickOf test chosen other) (view_at views variables 2 d) in
      let tested : Expression → Option ViewSlot = λ test. option_and_then (ways test) (view_at views variables 1 d) in
      let test : Option Expression = option_and_then (expression_in names variables) (at 0 d) in
      unheld (is_some (at 3 d)) (option_and_then tested test) slot e
      (λ three on. option_and_then_some tested test slot on
      (λ value was further. option_and_then_some (ways value) (view_at views variables 1 d) slot further
      (λ chosen one rest. mapped (λ other. slots.PickOf value chosen other) (view_at views variables 2 d) slot rest
      (λ other two gives. slot_as (slots.PickOf value chosen other) slot (language.PickOf (expression_of value) (view_of chosen) (view_of other)) (pick_is value chosen other)
      (list_named variables (option_and_then as_array (at 1 d)) chosen one, list_named variables (option_and_then as_array (at 2 d)) other two) gives))))

  pick_named : (names : Names) (variables : List (List ℕ)) (d : Data) (slot : ViewSlot) → pick_of views names variables d ≡ Some slot → SlotNamed slot
  pick_named names variables d slot e =
      held (is_object_of (codes "pick" ∷ []) d) (option_and_then (picked views names variables) (get (codes "pick") d)) slot e
      (λ keyed on. option_and_then_some (picked views names variables) (get (codes "pick") d) slot on (λ given was gives. picked_named names variables given slot gives))

  fragment_named : (variables : List (List ℕ)) (d : Data) (slot : ViewSlot) → fragment_of views variables d ≡ Some slot → SlotNamed slot
  fragment_named variables d slot e =
      let children : Option (List ViewNode) = option_and_then (views variables) (list_at (codes "fragment") d) in
      held (is_object_of (codes "fragment" ∷ []) d) (option_map slots.FragmentOf children) slot e
      (λ keyed on. mapped slots.FragmentOf children slot on
      (λ found inner gives. slot_as (slots.FragmentOf found) slot (language.FragmentOf (view_of found)) (fragment_is found)
      (list_named variables (list_at (codes "fragment") d) found inner) gives))

-- a boundary round nodes with names
round_named : (names : Names) (variables : List (List ℕ)) (word : List ℕ) (d : Data) (kids : List ViewNode) (slot : ViewSlot) → NamedView (view_of kids)
    → boundary_with names variables word d kids ≡ Some slot → SlotNamed slot
round_named names variables word d kids slot h e =
    by (bytes_eq word (codes "error") && is_object_of (codes "boundary" ∷ codes "kids" ∷ codes "handler" ∷ []) d)
    (bytes_eq word (codes "suspense") && is_object_of (codes "boundary" ∷ codes "kids" ∷ codes "fallback" ∷ []) d) e
  where
    of_errors : option_map (λ handler. slots.ErrorBoundaryOf kids handler) (use_at names variables (codes "handler") d) ≡ Some slot → SlotNamed slot
    of_errors e =
        mapped (λ handler. slots.ErrorBoundaryOf kids handler) (use_at names variables (codes "handler") d) slot e
        (λ handler was is. slot_as (slots.ErrorBoundaryOf kids handler) slot (language.ErrorBoundaryOf (view_of kids) (option_map use_of handler)) (error_is kids handler) h is)

    of_suspense : option_map (λ fallback. slots.SuspenseBoundaryOf kids fallback) (use_at names variables (codes "fallback") d) ≡ Some slot → SlotNamed slot
    of_suspense e =
        mapped (λ fallback. slots.SuspenseBoundaryOf kids fallback) (use_at names variables (codes "fallback") d) slot e
        (λ fallback was is. slot_as (slots.SuspenseBoundaryOf kids fallback) slot (language.SuspenseBoundaryOf (view_of kids) (option_map use_of fallback)) (suspense_is kids fallback) h is)

    by : (errors suspense : Bool)
        → (if errors then option_map (λ handler. slots.ErrorBoundaryOf kids handler) (use_at names variables (codes "handler") d) else
        (if suspense then option_map (λ fallback. slots.SuspenseBoundaryOf kids fallback) (use_at names variables (codes "fallback") d) else None)) ≡ Some slot
        → SlotNamed slot
    by true suspense e = of_errors e
    by false true e = of_suspense e
    by false false e = absurd (none-some slot e)

module _ (views : List (List ℕ) → Items → Option (List ViewNode)) (read : (variables : List (List ℕ)) (items : Items) (found : List ViewNode) → views variables items ≡ Some found → NamedView (view_of found)) where
  boundary_named : (names : Names) (variables : List (List ℕ)) (d : Data) (slot : ViewSlot) → boundary_of views names variables d ≡ Some slot → SlotNamed slot
  boundary_named names variables d slot e =
      let kids : Option (List ViewNode) = option_and_then (views variables) (list_at (codes "kids") d) in
      option_and_then_some (λ word. option_and_then (boundary_with names variables word d) kids) (text_at (codes "boundary") d) slot e
      (λ word was on. option_and_then_some (boundary_with names variables word d) kids slot on
      (λ found inner gives. round_named names variables word d found slot (list_named views read variables (list_at (codes "kids") d) found inner) gives))

  formed_named : (names : Names) (variables : List (List ℕ)) (form : Form) (d : Data) (node : ViewNode) → formed views names variables form d ≡ Some node → KeepsNames node
  formed_named names variables forms.Element d node e = element_named views read names variables d node e
  formed_named names variables forms.List d node e = slot_kept (list_of views names variables d) node (items_named views read names variables d) e
  formed_named names variables forms.Pick d node e = slot_kept (pick_of views names variables d) node (pick_named views read names variables d) e
  formed_named names variables forms.Fragment d node e = slot_kept (fragment_of views variables d) node (fragment_named views read variables d) e
  formed_named names variables forms.Boundary d node e = slot_kept (boundary_of views names variables d) node (boundary_named names variables d) e
  formed_named names variables (forms.Alone leaf) d node e = slot_kept (leaf_of names variables leaf d) node (leaf_named names variables leaf d) e

  -- a text, or a form
  step_named : (names : Names) (variables : List (List ℕ)) (d : Data) (text : Option (List ℕ)) (node : ViewNode)
      → text_or text (option_and_then (λ form. formed views names variables form d) (form_in d)) ≡ Some node → KeepsNames node
  step_named names variables d (Some text) node e = subst (λ (x : ViewNode). KeepsNames x) (same_Some (nodes.Text text) node e) (keeps_text text)
  step_named names variables d None node e =
      option_and_then_some (λ form. formed views names variables form d) (form_in d) node e (λ form was gives. formed_named names variables form d node gives)

-- ---- level by level

node_named : (levels : ℕ) (names : Names) (variables : List (List ℕ)) (d : Data) (node : ViewNode) → node_of levels names variables d ≡ Some node → KeepsNames node
unfolding node_of
node_named zero names variables d node e = absurd (none-some node e)
node_named (suc levels) names variables d node e =
    step_named (views_of (node_of levels names))
    (λ reach items found gives. all_named found (each_read KeepsNames (node_of levels names reach) (λ x n is. node_named levels names reach x n is) items found gives))
    names variables d (as_str d) node e

-- the view of a list
pub view_named : (names : Names) (variables : List (List ℕ)) (items : Items) (found : List ViewNode) → view_in names variables items ≡ Some found → NamedView (view_of found)
view_named names variables items found e =
    all_named found (each_read KeepsNames (node_of 128 names variables) (node_named 128 names variables) items found e)
