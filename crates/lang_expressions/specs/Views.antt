-- The view nodes that a list of JSON is.
use Rattle.std.specs.Prelude.{ℕ, zero, suc, List, [], ◌∷◌, ◌++◌, ◌&&◌, Bool, Option, Some, None, option_map, option_and_then, is_some, if◌then◌else◌, bytes_eq, codes}
use Rattle.serde_json.specs.Data.{Data, Items}
use Rattle.serde_json.specs.Find.{get, at, as_str, as_array}
use Rattle.lang_expressions.specs.Keys.{is_object_of}
use Rattle.lang_expressions.specs.Fields.{text_at, list_at, list_or_empty}
use Rattle.lang_expressions.specs.Lists.{read_each}
use Rattle.rt_values.specs.Naming.{is_name}
use Rattle.lang_expressions.specs.declared.signatures.Names.{Names}
use Rattle.lang_expressions.specs.Expressions.{expression_in}
use Rattle.lang_expressions.specs.Calls.{expression_at}
use Rattle.lang_syntax.specs.declared.view.ViewNode.{ViewNode}
use Rattle.lang_syntax.specs.declared.view.ViewNode.TheVariants as nodes
use Rattle.lang_syntax.specs.declared.view.ViewSlot.{ViewSlot}
use Rattle.lang_syntax.specs.declared.view.ViewSlot.TheVariants as slots
use Rattle.lang_expressions.specs.declared.view_forms.Form.{Form}
use Rattle.lang_expressions.specs.declared.view_forms.Form.TheVariants as forms
use Rattle.lang_expressions.specs.ViewForms.{form_in}
use Rattle.lang_expressions.specs.Attributes.{all_in}
use Rattle.lang_expressions.specs.Parts.{use_at, leaf_of, namespace_in}

-- the nodes of a list, with the names in reach
abbrev pub views_of : (List (List ℕ) → Data → Option ViewNode) → List (List ℕ) → Items → Option (List ViewNode)
views_of reading variables = read_each (reading variables)

-- the kids of an element, which may be absent
abbrev pub kids_of : (List (List ℕ) → Items → Option (List ViewNode)) → List (List ℕ) → Data → Option (List ViewNode)
kids_of views variables d = option_and_then (views variables) (list_or_empty (codes "kids") d)

-- an element of this tag: perhaps a namespace, attributes, listeners, kids
abbrev pub element_with : (List (List ℕ) → Items → Option (List ViewNode)) → Names → List (List ℕ) → Data → List ℕ → Option ViewNode
element_with views names variables d tag =
    option_and_then (λ namespace.
    option_and_then (λ attributes. option_map (λ kids. nodes.Element tag namespace attributes kids) (kids_of views variables d))
    (all_in names variables d))
    (namespace_in d)

-- an object of `el`, a tag, and perhaps `ns`, `attrs`, `on` and `kids`
abbrev pub element_of : (List (List ℕ) → Items → Option (List ViewNode)) → Names → List (List ℕ) → Data → Option ViewNode
element_of views names variables d =
    if is_object_of (codes "el" ∷ codes "ns" ∷ codes "attrs" ∷ codes "on" ∷ codes "kids" ∷ []) d
    then option_and_then (λ tag. if is_name tag then element_with views names variables d tag else None) (text_at (codes "el") d) else None

-- an object of `list`, the count, `as`, a name that is in reach of the item, and `item`
abbrev pub list_of : (List (List ℕ) → Items → Option (List ViewNode)) → Names → List (List ℕ) → Data → Option ViewSlot
list_of views names variables d =
    if is_object_of (codes "list" ∷ codes "as" ∷ codes "item" ∷ []) d
    then option_and_then (λ count.
    option_and_then (λ name.
    option_map (λ item. slots.ListOf count item) (option_and_then (views (variables ++ name ∷ [])) (list_at (codes "item") d)))
    (text_at (codes "as") d))
    (expression_at names variables (codes "list") d)
    else None

-- what stands at a place of a list, as a view
abbrev pub view_at : (List (List ℕ) → Items → Option (List ViewNode)) → List (List ℕ) → ℕ → Data → Option (List ViewNode)
view_at views variables place d = option_and_then (views variables) (option_and_then as_array (at place d))

-- a list of just a test and two views
abbrev pub picked : (List (List ℕ) → Items → Option (List ViewNode)) → Names → List (List ℕ) → Data → Option ViewSlot
picked views names variables d =
    if is_some (at 3 d) then None else
    option_and_then (λ test.
    option_and_then (λ chosen. option_map (λ other. slots.PickOf test chosen other) (view_at views variables 2 d))
    (view_at views variables 1 d))
    (option_and_then (expression_in names variables) (at 0 d))

-- an object of `pick` alone
abbrev pub pick_of : (List (List ℕ) → Items → Option (List ViewNode)) → Names → List (List ℕ) → Data → Option ViewSlot
pick_of views names variables d = if is_object_of (codes "pick" ∷ []) d
    then option_and_then (picked views names variables) (get (codes "pick") d) else None

-- an object of `fragment` alone
abbrev pub fragment_of : (List (List ℕ) → Items → Option (List ViewNode)) → List (List ℕ) → Data → Option ViewSlot
fragment_of views variables d =
    if is_object_of (codes "fragment" ∷ []) d
    then option_map slots.FragmentOf (option_and_then (views variables) (list_at (codes "fragment") d)) else None

-- a boundary of this word round kids: of errors, perhaps with a handler, or of suspense, perhaps with a fallback
abbrev pub boundary_with : Names → List (List ℕ) → List ℕ → Data → List ViewNode → Option ViewSlot
boundary_with names variables word d kids =
    if bytes_eq word (codes "error") && is_object_of (codes "boundary" ∷ codes "kids" ∷ codes "handler" ∷ []) d
    then option_map (λ handler. slots.ErrorBoundaryOf kids handler) (use_at names variables (codes "handler") d) else
    if bytes_eq word (codes "suspense") && is_object_of (codes "boundary" ∷ codes "kids" ∷ codes "fallback" ∷ []) d
    then option_map (λ fallback. slots.SuspenseBoundaryOf kids fallback) (use_at names variables (codes "fallback") d) else None

-- an object of `boundary`, `kids`, and perhaps what shows in their place
abbrev pub boundary_of : (List (List ℕ) → Items → Option (List ViewNode)) → Names → List (List ℕ) → Data → Option ViewSlot
boundary_of views names variables d =
    option_and_then (λ word.
    option_and_then (boundary_with names variables word d) (option_and_then (views variables) (list_at (codes "kids") d)))
    (text_at (codes "boundary") d)

-- the node of a form, with the view nodes in it read by a function
abbrev pub formed : (List (List ℕ) → Items → Option (List ViewNode)) → Names → List (List ℕ) → Form → Data → Option ViewNode
formed views names variables forms.Element d = element_of views names variables d
formed views names variables forms.List d = option_map nodes.Slot (list_of views names variables d)
formed views names variables forms.Pick d = option_map nodes.Slot (pick_of views names variables d)
formed views names variables forms.Fragment d = option_map nodes.Slot (fragment_of views variables d)
formed views names variables forms.Boundary d = option_map nodes.Slot (boundary_of views names variables d)
formed views names variables (forms.Alone leaf) d = option_map nodes.Slot (leaf_of names variables leaf d)

-- a text where there is one, else something else
abbrev pub text_or : Option (List ℕ) → Option ViewNode → Option ViewNode
text_or (Some text) other = Some (nodes.Text text)
text_or None other = other

-- a text, or a form with the view nodes in it read by a function
abbrev pub node_step : (List (List ℕ) → Items → Option (List ViewNode)) → Names → List (List ℕ) → Data → Option ViewNode
node_step views names variables d = text_or (as_str d) (option_and_then (λ form. formed views names variables form d) (form_in d))

-- the node of a value that nests at most so many levels
unfoldable pub node_of : ℕ → Names → List (List ℕ) → Data → Option ViewNode
node_of zero names variables d = None
node_of (suc levels) names variables d = node_step (views_of (node_of levels names)) names variables d

-- the view of a list; JSON nests fewer levels than these
abbrev pub view_in : Names → List (List ℕ) → Items → Option (List ViewNode)
view_in names = views_of (node_of 128 names)
