-- The two passes over the attribute slots of a matched template: what is known of each element is enough for all.
use Rattle.std.specs.Prelude.{ℕ, ◌+◌, List, [], ◌∷◌, ◌++◌, Some, ◌≡◌}
use Rattle.rt_model.specs.Tree.{Types, TemplateNodes, no_nodes, element_node, text_node, slot_node, Template, Attribute, Place, Kind, an_element, place_in, attributes_in}
use Rattle.rt_model.specs.Heard.{number_at}
use Rattle.rt_model.specs.Document.{DocElement, Edit}
use Rattle.rt_model.specs.View.{element_attributes, element_listeners}
use Rattle.rt_model.specs.Caused.{element_pass, left, come}
use Rattle.law_moves.specs.Settings.{altered}
use Rattle.law_moves.specs.Meets.{AttributesBring}

-- in one pass the edits of each element alter it from what the first attributes give to what the second ones give
abbrev pub ElementsAlter : {K : Types} → List (Place × Kind × ℕ) → Template → Place → List (List (Attribute K)) → List (List (Attribute K))
    → (ℕ → ℕ → List Edit) → List ℕ → ℕ → TemplateNodes → Type 0
ElementsAlter numbers whole above first second of up i no_nodes = Unit {0}
ElementsAlter numbers whole above first second of up i (element_node tag namespace attributes children rest) =
    (altered
    (number_at numbers (place_in whole above up i) an_element)
    (element_pass of (number_at numbers (place_in whole above up i) an_element) attributes)
    (DocElement tag namespace (element_attributes first [] attributes) (element_listeners first [] attributes))
    ≡
    Some (DocElement tag namespace (element_attributes second [] attributes) (element_listeners second [] attributes)))
    ×
    ElementsAlter numbers whole above first second of (up ++ i ∷ []) 0 children
    ×
    ElementsAlter numbers whole above first second of up (i + 1) rest
ElementsAlter numbers whole above first second of up i (text_node text rest) =
    ElementsAlter numbers whole above first second of up (i + 1) rest
ElementsAlter numbers whole above first second of up i (slot_node k rest) =
    ElementsAlter numbers whole above first second of up (i + 1) rest

-- from old attributes to some in between, where what is no longer there has gone, and from these to the new ones
abbrev pub PassesBring : Types → Type 0
PassesBring K =
    (numbers : List (Place × Kind × ℕ)) (above : Place) (whole : Template) (old between new : List (List (Attribute K)))
    → ElementsAlter numbers whole above old between (λ k n. left (attributes_in old k) (attributes_in new k) n) [] 0 whole.roots
    → ElementsAlter numbers whole above between new (λ k n. come (attributes_in new k) (attributes_in old k) n) [] 0 whole.roots
    → AttributesBring numbers above whole new old
