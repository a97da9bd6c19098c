-- What a change of what the attribute slots give writes, part by part.
use Rattle.std.specs.Prelude.{ℕ, Bool, ◌||◌, ◌&&◌, true, false, List, [], ◌∷◌, ◌++◌, map, Option, Some, None, if◌then◌else◌, ◌≡◌}
use Rattle.std.specs.List.{slice_index_or}
use Rattle.std.specs.Borrow.{Bor}
use Rattle.tree_nodes.specs.declared.attribute.Attribute.{Attribute}
use Rattle.tree_nodes.specs.declared.attribute.AttributeValue.{AttributeValue}
use Rattle.tree_nodes.specs.declared.template.TemplateParts.{TemplateParts as CodeTemplate}
use Rattle.tree_nodes.specs.declared.template.TemplateAttribute.{TemplateAttribute as CodeEntry}
use Rattle.rt_edits.specs.declared.edit.Edit.{Edit}
use Rattle.tree_nodes.specs.declared.vnode.VNode.{VNode}
use Rattle.rt_model.specs.Lists.{Text, same_numbers, same_option}
use Rattle.rt_model.specs.Tree.{TemplateAttribute, fixed, from_slot, Template, Place, Kind, an_element}
use Rattle.rt_model.specs.Heard.{number_at}
use Rattle.rt_model.specs.Document as doc
use Rattle.rt_model.specs.Caused.{is_key, text_if, listens, one_left, one_come, attributes_written}
use Rattle.tree_mirror.specs.Mirror.{attribute_in, attribute_of, value_of}
use Rattle.tree_edits.specs.Documents.{edit_of}
use Rattle.tree_mirror.specs.Sealed.{nodes_of, template_of}
use Rattle.run_places.specs.declared.piece.Piece.{Piece}
use Rattle.run_places.specs.Places.{at_path}
use Rattle.run_places.specs.Pieces.{Met, met_element, met_text, met_slot, all_met, piece_of}
use Rattle.run_attributes.specs.declared.given.Entries.{Entries}
use Rattle.run_attributes.specs.declared.given.Pass.{Pass}
use Rattle.run_attributes.specs.declared.given.Pass.TheVariants as passes

-- a text that was found
abbrev pub text_found : Option (Bor (List ℕ)) → Option Text
text_found None = None
text_found (Some text) = Some text.now

-- edits
abbrev pub edits_of : List Edit → List doc.Edit
edits_of edits = map edit_of edits

-- an element's number with its entries
abbrev pub entries_of : Entries → ℕ × List TemplateAttribute
entries_of element = (element.number, map attribute_in element.entries)

-- one of the entries of an element is an attribute slot
abbrev pub any_slot : List TemplateAttribute → Bool
any_slot [] = false
any_slot (fixed name namespace value ∷ rest) = any_slot rest
any_slot (from_slot id ∷ rest) = true

-- an element with its number, where it has an attribute slot: no other one writes
abbrev pub slotted : ℕ → List TemplateAttribute → List (ℕ × List TemplateAttribute)
slotted number attributes = if any_slot attributes then (number, attributes) ∷ [] else []

-- an entry of code is an attribute slot
unfoldable pub entry_is_slot : CodeEntry → Bool
entry_is_slot entry = any_slot (attribute_in entry ∷ [])

-- one of several is
abbrev pub slot_among : List CodeEntry → Bool
slot_among [] = false
slot_among (entry ∷ rest) = entry_is_slot entry || slot_among rest

-- the elements with an attribute slot among what is met, each with its number
abbrev pub elements_met : List (Place × Kind × ℕ) → Place → Template → List Met → List (ℕ × List TemplateAttribute)
elements_met numbers above whole [] = []
elements_met numbers above whole (met_element path attributes ∷ ms) =
    slotted (number_at numbers (at_path whole above path) an_element) attributes ++ elements_met numbers above whole ms
elements_met numbers above whole (met_text path ∷ ms) = elements_met numbers above whole ms
elements_met numbers above whole (met_slot k path ∷ ms) = elements_met numbers above whole ms

-- the elements of a template that have an attribute slot
unfoldable pub template_elements : List (Place × Kind × ℕ) → Place → CodeTemplate → List (ℕ × List TemplateAttribute)
template_elements numbers above template = elements_met numbers above (template_of template) (all_met [] 0 (nodes_of template.roots))

-- the element that a piece is, if it is one with an attribute slot
unfoldable pub piece_elements : List (Place × Kind × ℕ) → Place → CodeTemplate → Piece → List (ℕ × List TemplateAttribute)
piece_elements numbers above template piece = elements_met numbers above (template_of template) (piece_of piece ∷ [])

-- the elements among pieces
abbrev pub pieces_elements : List (Place × Kind × ℕ) → Place → CodeTemplate → List Piece → List (ℕ × List TemplateAttribute)
pieces_elements numbers above template [] = []
pieces_elements numbers above template (piece ∷ pieces) = piece_elements numbers above template piece
    ++ pieces_elements numbers above template pieces

module _ {P C Q V H T E L : Type 0} where
  -- two attributes have one name and namespace
  unfoldable pub has_key_of : Attribute P C Q V H T E L → Attribute P C Q V H T E L → Bool
  has_key_of b a = is_key (attribute_of b) (attribute_of a)

  -- the text of a value
  unfoldable pub text_of : AttributeValue P C Q V H T E L → Option Text
  text_of value = text_if None (value_of value)

  -- the value is a listener
  unfoldable pub is_listening : AttributeValue P C Q V H T E L → Bool
  is_listening value = listens (value_of value)

  -- the text of one attribute, where it has the name and namespace of another one
  unfoldable pub text_here : Attribute P C Q V H T E L → Attribute P C Q V H T E L → Option Text
  text_here a b = if has_key_of b a then text_of b.value else None

  -- the text of the first one that has
  abbrev pub text_among : Attribute P C Q V H T E L → List (Attribute P C Q V H T E L) → Option Text
  text_among a [] = None
  text_among a (b ∷ rest) = elim (text_here a b) [ None ↦ text_among a rest | Some text ↦ Some text ]

  -- the slot gives this text there
  unfoldable pub gives_text : Attribute P C Q V H T E L → List (Attribute P C Q V H T E L) → Text → Bool
  gives_text a slot text = same_option same_numbers (text_among a slot) (Some text)

  -- the slot gives a listener there
  abbrev pub listener_among : Attribute P C Q V H T E L → List (Attribute P C Q V H T E L) → Bool
  listener_among a [] = false
  listener_among a (b ∷ rest) = (has_key_of b a && is_listening b.value) || listener_among a rest

  -- what one attribute no longer gives
  unfoldable pub left_of : ℕ → List (Attribute P C Q V H T E L) → Attribute P C Q V H T E L → List doc.Edit
  left_of number new a = one_left number (map attribute_of new) (attribute_of a) (value_of a.value)

  -- what a slot no longer gives
  abbrev pub all_left : List (Attribute P C Q V H T E L) → List (Attribute P C Q V H T E L) → ℕ → List doc.Edit
  all_left [] new number = []
  all_left (a ∷ rest) new number = left_of number new a ++ all_left rest new number

  -- what one attribute gives anew
  unfoldable pub come_of : ℕ → List (Attribute P C Q V H T E L) → Attribute P C Q V H T E L → List doc.Edit
  come_of number old a = one_come number (map attribute_of old) (attribute_of a) (value_of a.value)

  -- what a slot gives anew
  abbrev pub all_come : List (Attribute P C Q V H T E L) → List (Attribute P C Q V H T E L) → ℕ → List doc.Edit
  all_come [] old number = []
  all_come (a ∷ rest) old number = come_of number old a ++ all_come rest old number

  -- what one pass over a slot writes
  abbrev pub pass_of : Pass → List (Attribute P C Q V H T E L) → List (Attribute P C Q V H T E L) → ℕ → List doc.Edit
  pass_of passes.Left new old number = all_left old new number
  pass_of passes.Come new old number = all_come new old number

  -- what one pass over an entry of a template writes: an attribute slot has a number
  abbrev pub written_at : Pass → List (List (Attribute P C Q V H T E L)) → List (List (Attribute P C Q V H T E L)) → ℕ → TemplateAttribute
      → List doc.Edit
  written_at pass new old number (fixed name namespace value) = []
  written_at pass new old number (from_slot id) = pass_of pass (slice_index_or new id []) (slice_index_or old id []) number

  -- the same of an entry of code
  unfoldable pub entry_written : Pass → List (List (Attribute P C Q V H T E L)) → List (List (Attribute P C Q V H T E L)) → ℕ → CodeEntry
      → List doc.Edit
  entry_written pass new old number entry = written_at pass new old number (attribute_in entry)

  -- over the entries of an element
  abbrev pub entries_written : Pass → List (List (Attribute P C Q V H T E L)) → List (List (Attribute P C Q V H T E L)) → ℕ → List CodeEntry
      → List doc.Edit
  entries_written pass new old number [] = []
  entries_written pass new old number (entry ∷ rest) = entry_written pass new old number entry ++ entries_written pass new old number rest

  -- over an element with its number
  unfoldable pub element_written : Pass → List (List (Attribute P C Q V H T E L)) → List (List (Attribute P C Q V H T E L)) → Entries
      → List doc.Edit
  element_written pass new old element = entries_written pass new old element.number element.entries

  -- over several elements
  abbrev pub elements_written : Pass → List (List (Attribute P C Q V H T E L)) → List (List (Attribute P C Q V H T E L)) → List Entries
      → List doc.Edit
  elements_written pass new old [] = []
  elements_written pass new old (element ∷ rest) = element_written pass new old element ++ elements_written pass new old rest

  -- the two passes over several elements
  abbrev pub passes_written : List (List (Attribute P C Q V H T E L)) → List (List (Attribute P C Q V H T E L)) → List Entries
      → List doc.Edit
  passes_written new old elements = elements_written passes.Left new old elements ++ elements_written passes.Come new old elements

  -- what the attribute slots of a matched block write
  unfoldable pub block_written : List (Place × Kind × ℕ) → Place → VNode P C Q V H T E L → VNode P C Q V H T E L → List doc.Edit
  block_written numbers above new old =
      attributes_written numbers above (template_of new.template) (map (map attribute_of) new.dynamic_attrs)
      (map (map attribute_of) old.dynamic_attrs)

  -- edits are those of a matched block
  pub record AreWritten (edits : List Edit) (numbers : List (Place × Kind × ℕ)) (above : Place)
      (new old : VNode P C Q V H T E L) : Type 0 where
    -- its elements with an attribute slot, however they were found
    pub elements : List Entries
    pub are : map entries_of elements ≡ template_elements numbers above new.template
    pub written : edits_of edits ≡ passes_written new.dynamic_attrs old.dynamic_attrs elements
