-- The listeners that an event calls, found attribute by attribute and slot by slot.
use Rattle.std.specs.Prelude.{Bool, true, false, ◌&&◌, List, [], ◌∷◌, ◌++◌, map, flat_map, if◌then◌else◌}
use Rattle.tree_nodes.specs.declared.attribute.Attribute.{Attribute}
use Rattle.tree_nodes.specs.declared.attribute.AttributeValue.{AttributeValue}
use Rattle.rt_model.specs.OneLog.{types}
use Rattle.rt_model.specs.Lists.{Text, backwards}
use Rattle.rt_model.specs.Heard as heard
use Rattle.rt_model.specs.Heard.{matches}
use Rattle.tree_mirror.specs.Mirror.{value_of}
use Rattle.run_shown.specs.declared.hearing.Listener.{Listener}

module _ {P C Q V H T E L : Type 0} where
  -- a listener
  abbrev pub listener_in : Listener P C Q V H T E L → heard.Listener (types C Q V H T E L)
  listener_in l = record { origin = l.origin; handler = l.handler }

  -- listeners
  abbrev pub listeners_of : List (Listener P C Q V H T E L) → List (heard.Listener (types C Q V H T E L))
  listeners_of listeners = map listener_in listeners

  -- the listener of an attribute, where it is one
  unfoldable pub value_heard : AttributeValue P C Q V H T E L → List (heard.Listener (types C Q V H T E L))
  value_heard value = heard.listener_of (value_of value)

  -- an attribute's value is a listener
  unfoldable pub value_listens : AttributeValue P C Q V H T E L → Bool
  value_listens value = heard.is_listener (value_of value)

  -- the listener of an attribute whose name matches
  unfoldable pub attribute_heard : Text → Attribute P C Q V H T E L → List (heard.Listener (types C Q V H T E L))
  attribute_heard event a = if matches a.name event then value_heard a.value else []

  -- the slot's first attribute with a matching name, where that is a listener
  abbrev pub first_heard : Text → List (Attribute P C Q V H T E L) → List (heard.Listener (types C Q V H T E L))
  first_heard event [] = []
  first_heard event (a ∷ rest) = if matches a.name event then value_heard a.value else first_heard event rest

  -- the slot's first matching listener
  abbrev pub first_listening : Text → List (Attribute P C Q V H T E L) → List (heard.Listener (types C Q V H T E L))
  first_listening event [] = []
  first_listening event (a ∷ rest) = if matches a.name event && value_listens a.value then value_heard a.value
      else first_listening event rest

  -- the matching listeners of a slot, last first
  abbrev pub slot_heard : Text → List (Attribute P C Q V H T E L) → List (heard.Listener (types C Q V H T E L))
  slot_heard event slot = backwards (λ a. attribute_heard event a) slot

  -- what a slot gives: its first matching attribute, or all that match
  abbrev pub slot_given : Text → Bool → List (Attribute P C Q V H T E L) → List (heard.Listener (types C Q V H T E L))
  slot_given event first slot = if first then first_heard event slot else slot_heard event slot

  -- what the slots of an element give, the last slot first
  abbrev pub slots_heard : Text → Bool → List (List (Attribute P C Q V H T E L)) → List (heard.Listener (types C Q V H T E L))
  slots_heard event first slots = backwards (λ slot. slot_given event first slot) slots

  -- the first listener of each slot, in order
  abbrev pub slots_in_order : Text → List (List (Attribute P C Q V H T E L)) → List (heard.Listener (types C Q V H T E L))
  slots_in_order event slots = flat_map (λ slot. first_listening event slot) slots

  -- the listeners of the elements further out
  abbrev pub climb_heard : Text → List (List (List (Attribute P C Q V H T E L))) → List (heard.Listener (types C Q V H T E L))
  climb_heard event climb = flat_map (λ slots. slots_heard event false slots) climb

  -- the listeners of an event that bubbles
  abbrev pub bubbling_heard : Text → List (List (List (Attribute P C Q V H T E L))) → List (heard.Listener (types C Q V H T E L))
  bubbling_heard event [] = []
  bubbling_heard event (slots ∷ above) = slots_heard event true slots ++ climb_heard event above

  -- the listeners of an event that doesn't
  abbrev pub target_heard : Text → List (List (List (Attribute P C Q V H T E L))) → List (heard.Listener (types C Q V H T E L))
  target_heard event [] = []
  target_heard event (slots ∷ above) = slots_in_order event slots

  -- by whether it bubbles
  abbrev pub event_heard : Text → Bool → List (List (List (Attribute P C Q V H T E L))) → List (heard.Listener (types C Q V H T E L))
  event_heard event bubbles climb = if bubbles then bubbling_heard event climb else target_heard event climb
