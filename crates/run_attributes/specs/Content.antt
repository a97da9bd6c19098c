-- The attributes and the listeners of an element, slot by slot.
use Rattle.std.specs.Prelude.{List, [], ◌∷◌, map}
use Rattle.tree_nodes.specs.declared.attribute.Attribute.{Attribute}
use Rattle.tree_nodes.specs.declared.template.TemplateAttribute.{TemplateAttribute}
use Rattle.rt_edits.specs.declared.doc_node.DocAttr.{DocAttr}
use Rattle.rt_model.specs.Lists.{Text}
use Rattle.rt_model.specs.Document as doc
use Rattle.rt_model.specs.View.{one_attribute, one_listener, element_attributes, element_listeners}
use Rattle.tree_mirror.specs.Mirror.{attribute_in, attribute_of, value_of}
use Rattle.tree_edits.specs.Documents.{doc_attribute_of}

-- attributes of a node of the document
abbrev pub attributes_of : List DocAttr → List doc.DocAttribute
attributes_of attrs = map doc_attribute_of attrs

module _ {P C Q V H T E L : Type 0} where
  -- the attributes with one more that a slot gives
  unfoldable pub with_given : List doc.DocAttribute → Attribute P C Q V H T E L → List doc.DocAttribute
  with_given all a = one_attribute all (attribute_of a) (value_of a.value)

  -- and with several
  abbrev pub with_all_given : List doc.DocAttribute → List (Attribute P C Q V H T E L) → List doc.DocAttribute
  with_all_given all [] = all
  with_all_given all (a ∷ rest) = with_all_given (with_given all a) rest

  -- the attributes with those of one more entry of the template
  unfoldable pub with_entry : List (List (Attribute P C Q V H T E L)) → List doc.DocAttribute → TemplateAttribute → List doc.DocAttribute
  with_entry given all entry = element_attributes (map (map attribute_of) given) all (attribute_in entry ∷ [])

  -- and of several
  abbrev pub with_entries : List (List (Attribute P C Q V H T E L)) → List doc.DocAttribute → List TemplateAttribute → List doc.DocAttribute
  with_entries given all [] = all
  with_entries given all (entry ∷ rest) = with_entries given (with_entry given all entry) rest

  -- the listeners with one more that a slot gives
  unfoldable pub with_listener_given : List Text → Attribute P C Q V H T E L → List Text
  with_listener_given all a = one_listener all (attribute_of a) (value_of a.value)

  -- and with several
  abbrev pub with_listeners_given : List Text → List (Attribute P C Q V H T E L) → List Text
  with_listeners_given all [] = all
  with_listeners_given all (a ∷ rest) = with_listeners_given (with_listener_given all a) rest

  -- the listeners with those of one more entry of the template
  unfoldable pub with_listeners_of : List (List (Attribute P C Q V H T E L)) → List Text → TemplateAttribute → List Text
  with_listeners_of given all entry = element_listeners (map (map attribute_of) given) all (attribute_in entry ∷ [])

  -- and of several
  abbrev pub with_all_listeners : List (List (Attribute P C Q V H T E L)) → List Text → List TemplateAttribute → List Text
  with_all_listeners given all [] = all
  with_all_listeners given all (entry ∷ rest) = with_all_listeners given (with_listeners_of given all entry) rest
