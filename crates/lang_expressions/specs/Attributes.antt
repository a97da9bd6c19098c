-- Attributes and listeners of an element.
use Rattle.std.specs.Prelude.{ℕ, List, [], ◌∷◌, ◌++◌, ◌||◌, not, Option, Some, None, option_map, option_and_then, if◌then◌else◌, codes}
use Rattle.serde_json.specs.Data.{Data, Members}
use Rattle.serde_json.specs.Find.{get, as_str, as_object}
use Rattle.lang_expressions.specs.Keys.{is_object_of}
use Rattle.lang_expressions.specs.Lists.{each_member}
use Rattle.rt_values.specs.Naming.{is_name}
use Rattle.lang_expressions.specs.declared.signatures.Names.{Names}
use Rattle.lang_expressions.specs.Expressions.{expression_in}
use Rattle.lang_expressions.specs.Calls.{call_at}
use Rattle.lang_syntax.specs.declared.expression.Expression.{Expression}
use Rattle.lang_syntax.specs.declared.view.ViewAttribute.{ViewAttribute}
use Rattle.lang_syntax.specs.declared.view.ViewAttribute.TheVariants.{Static, Slot, Listener}

-- a static attribute where a text stands, else one that a slot gives
abbrev pub static_or : List ℕ → Option (List ℕ) → Option Expression → Option ViewAttribute
static_or name (Some text) other = Some (Static name text)
static_or name None other = option_map (Slot name) other

-- the attribute of a name and a value: a text is static, any other expression gives a slot
abbrev pub attribute_in : Names → List (List ℕ) → List ℕ → Data → Option ViewAttribute
attribute_in names variables name d = if is_name name then static_or name (as_str d) (expression_in names variables d) else None

-- the listener of a name and a value: an object of `do`, which names an action, and `args`
abbrev pub listener_in : Names → List (List ℕ) → List ℕ → Data → Option ViewAttribute
listener_in names variables name d =
    if not (is_name name) || not (is_object_of (codes "do" ∷ codes "args" ∷ []) d) then None
    else option_map (λ call. Listener name call.0 call.1) (call_at names variables names.actions (codes "do") d)

-- the attributes in order of name
abbrev pub attributes_at : Names → List (List ℕ) → Data → Option (List ViewAttribute)
attributes_at names variables d = each_member (attribute_in names variables) (get (codes "attrs") d)

-- the listeners in order of name
abbrev pub listeners_at : Names → List (List ℕ) → Data → Option (List ViewAttribute)
listeners_at names variables d = each_member (listener_in names variables) (get (codes "on") d)

-- the attributes in order of name, then the listeners in order of name
abbrev pub all_in : Names → List (List ℕ) → Data → Option (List ViewAttribute)
all_in names variables d =
    option_and_then (λ attributes. option_map (λ listeners. attributes ++ listeners) (listeners_at names variables d))
    (attributes_at names variables d)
