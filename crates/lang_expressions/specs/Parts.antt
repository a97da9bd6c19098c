-- What stands in a view and has no view nodes in it.
use Rattle.std.specs.Prelude.{ℕ, List, [], ◌∷◌, ◌&&◌, Option, Some, None, option_map, option_and_then, if◌then◌else◌, codes}
use Rattle.serde_json.specs.Data.{Data}
use Rattle.serde_json.specs.Find.{get, as_str}
use Rattle.lang_expressions.specs.Keys.{is_object_of}
use Rattle.lang_expressions.specs.Fields.{text_at, list_or_empty, is_zero_at}
use Rattle.rt_values.specs.Naming.{is_name}
use Rattle.lang_expressions.specs.declared.signatures.Names.{Names}
use Rattle.lang_expressions.specs.Calls.{expression_at, call_in}
use Rattle.lang_syntax.specs.declared.expression.Expression.{Expression}
use Rattle.lang_syntax.specs.declared.view.ComponentUse.{ComponentUse}
use Rattle.lang_syntax.specs.declared.view.ViewSlot.{ViewSlot}
use Rattle.lang_syntax.specs.declared.view.ViewSlot.TheVariants as slots
use Rattle.lang_expressions.specs.declared.view_forms.Leaf.{Leaf}
use Rattle.lang_expressions.specs.declared.view_forms.Leaf.TheVariants as leaves

-- a component with what it is handed
abbrev pub use_of : (ℕ × List Expression) → ComponentUse
use_of call = record { component = call.0; props = call.1 }

-- an object of `use`, which names a component, and `props`, as many as it has params; absent props are none
abbrev pub component_use : Names → List (List ℕ) → Data → Option ComponentUse
component_use names variables d =
    if is_object_of (codes "use" ∷ codes "props" ∷ []) d
    then option_and_then (λ name.
    option_map use_of (option_and_then (call_in names variables names.components name) (list_or_empty (codes "props") d)))
    (text_at (codes "use") d)
    else None

-- a component where one may stand
abbrev pub use_or_none : Names → List (List ℕ) → Option Data → Option (Option ComponentUse)
use_or_none names variables None = Some None
use_or_none names variables (Some d) = option_map Some (component_use names variables d)

-- the component at a key, where one stands there
abbrev pub use_at : Names → List (List ℕ) → List ℕ → Data → Option (Option ComponentUse)
use_at names variables key d = use_or_none names variables (get key d)

-- a slot without view nodes in it
abbrev pub leaf_of : Names → List (List ℕ) → Leaf → Data → Option ViewSlot
leaf_of names variables leaves.Text d =
    if is_object_of (codes "text" ∷ []) d then option_map slots.TextOf (expression_at names variables (codes "text") d) else None
leaf_of names variables leaves.Use d = option_map slots.UseOf (component_use names variables d)
leaf_of names variables leaves.Hole d = if is_object_of (codes "hole" ∷ []) d && is_zero_at (codes "hole") d then Some slots.Hole else None

-- a text that is a name
abbrev pub named : Option (List ℕ) → Option (Option (List ℕ))
named None = None
named (Some text) = if is_name text then Some (Some text) else None

-- a name where one may stand
abbrev pub name_or_none : Option Data → Option (Option (List ℕ))
name_or_none None = Some None
name_or_none (Some d) = named (as_str d)

-- the namespace, where one stands
abbrev pub namespace_in : Data → Option (Option (List ℕ))
namespace_in d = name_or_none (get (codes "ns") d)
