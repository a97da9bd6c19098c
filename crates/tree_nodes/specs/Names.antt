-- The names of an element's attributes.
use Rattle.std.specs.Prelude.{ℕ, Bool, true, false, not, ◌&&◌, List, [], ◌∷◌, ◌++◌, map, Option, Some, None}
use Rattle.std.specs.List.{list_any, slice_index_or}
use Rattle.std.specs.Str.{bytes_eq}
use Rattle.tree_nodes.specs.declared.template.TemplateAttribute.{TemplateAttribute}
use Rattle.tree_nodes.specs.declared.template.TemplateAttribute.TheVariants.{Static, Dynamic}
use Rattle.tree_nodes.specs.declared.attribute.Attribute.{Attribute}

-- a name and its namespace, if it has one
abbrev pub Name : Type 0
Name = List ℕ × Option (List ℕ)

-- whether two namespaces are equal
abbrev pub same_namespace : Option (List ℕ) → Option (List ℕ) → Bool
same_namespace None None = true
same_namespace None (Some t) = false
same_namespace (Some s) None = false
same_namespace (Some s) (Some t) = bytes_eq s t

-- whether name and namespace are equal
abbrev pub same_name : Name → Name → Bool
same_name m n = bytes_eq m.0 n.0 && same_namespace m.1 n.1

-- no name is equal to a later one
abbrev pub distinct : List Name → Bool
distinct [] = true
distinct (name ∷ rest) = not (list_any (same_name name) rest) && distinct rest

-- no name of the first list is equal to a later one of it, or to one of the second
abbrev pub fresh : List Name → List Name → Bool
fresh [] later = true
fresh (name ∷ rest) later = not (list_any (same_name name) (rest ++ later)) && fresh rest later

-- the names of one attribute of a template, where `slots` has those of each slot
abbrev pub names_of : List (List Name) → TemplateAttribute → List Name
names_of slots (Static name namespace value) = (name, namespace) ∷ []
names_of slots (Dynamic id) = slice_index_or slots id []

-- the names of an element's attributes in order
abbrev pub names_in : List (List Name) → List TemplateAttribute → List Name
names_in slots [] = []
names_in slots (attr ∷ rest) = names_of slots attr ++ names_in slots rest

module _ {P Component Props Value Handler TaskState Effect Payload : Type 0} where
  -- the name of an attribute in a slot
  abbrev pub name_of : Attribute P Component Props Value Handler TaskState Effect Payload → Name
  name_of attribute = (attribute.name, attribute.namespace)

  -- the names of the attributes in each slot
  abbrev pub slot_names : List (List (Attribute P Component Props Value Handler TaskState Effect Payload)) → List (List Name)
  slot_names slots = map (map name_of) slots
