-- Attributes and listeners of an element have their places by name, in whatever order they are set.
use Rattle.std.specs.Prelude.{true, false, List, [], ◌∷◌, ◌≡◌}
use Rattle.rt_model.specs.Lists.{Text, same_numbers}
use Rattle.rt_model.specs.Document.{DocAttribute, same_key, with_attribute, without_attribute, with_listener}

-- two attributes that differ in name or namespace
abbrev pub AttributesCommute : Type 0
AttributesCommute =
    (all : List DocAttribute) (a b : DocAttribute)
    → same_key a b.name b.namespace ≡ false
    → with_attribute (with_attribute all a) b ≡ with_attribute (with_attribute all b) a

-- two listeners that differ in name
abbrev pub ListenersCommute : Type 0
ListenersCommute =
    (all : List Text) (a b : Text) → same_numbers a b ≡ false
    → with_listener (with_listener all a) b ≡ with_listener (with_listener all b) a

-- none of these attributes has the name and namespace of another one
abbrev pub NoneNamed : List DocAttribute → DocAttribute → Type 0
NoneNamed [] a = Unit {0}
NoneNamed (b ∷ rest) a = (same_key b a.name a.namespace ≡ false) × NoneNamed rest a

-- an attribute that was set goes, where there was none of its name and namespace
abbrev pub AttributeGoes : Type 0
AttributeGoes = (all : List DocAttribute) (a : DocAttribute) → NoneNamed all a
    → without_attribute (with_attribute all a) a.name a.namespace ≡ all

-- of two attributes of one name and namespace the last one stays
abbrev pub AttributeDiffers : Type 0
AttributeDiffers =
    (all : List DocAttribute) (a b : DocAttribute)
    → same_key a b.name b.namespace ≡ true
    → with_attribute (with_attribute all a) b ≡ with_attribute all b
