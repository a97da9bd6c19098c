-- Which form of view node a key names.
use Rattle.std.specs.Prelude.{ℕ, List, Option, Some, None, if◌then◌else◌, bytes_eq, codes}
use Rattle.serde_json.specs.Data.{Data, null, boolean, number, string, array, object, Members, no_members, member}
use Rattle.rt_model.specs.Lists.{first_of}
use Rattle.lang_expressions.specs.declared.view_forms.Leaf.{Leaf}
use Rattle.lang_expressions.specs.declared.view_forms.Leaf.TheVariants as leaves
use Rattle.lang_expressions.specs.declared.view_forms.Form.{Form}
use Rattle.lang_expressions.specs.declared.view_forms.Form.TheVariants as forms

-- the form that a key names
unfoldable pub form_of : List ℕ → Option Form
form_of key =
    if bytes_eq key (codes "el") then Some forms.Element else
    if bytes_eq key (codes "list") then Some forms.List else
    if bytes_eq key (codes "pick") then Some forms.Pick else
    if bytes_eq key (codes "fragment") then Some forms.Fragment else
    if bytes_eq key (codes "boundary") then Some forms.Boundary else
    if bytes_eq key (codes "text") then Some (forms.Alone leaves.Text) else
    if bytes_eq key (codes "use") then Some (forms.Alone leaves.Use) else
    if bytes_eq key (codes "hole") then Some (forms.Alone leaves.Hole) else None

-- the form of the first key of some members that names one
unfoldable pub first_form : Members → Option Form
first_form no_members = None
first_form (member key d rest) = first_of (form_of key) (first_form rest)

-- the form of a view node that is an object
abbrev pub form_in : Data → Option Form
form_in null = None
form_in (boolean b) = None
form_in (number n) = None
form_in (string s) = None
form_in (array items) = None
form_in (object members) = first_form members
