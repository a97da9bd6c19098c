-- The elements of a template that have an attribute slot, with their numbers, and the passes over them, one by one; the passes are those of the
-- definitions, since an element of static entries alone writes nothing.
use Rattle.std.proofs.Common.{ℕ, ◌+◌, Bool, true, false, List, [], ◌∷◌, ◌++◌, ◌≡◌, refl, sym, ap, ◌∙◌, map}
use Rattle.std.specs.Prelude.{Option, if◌then◌else◌}
use Rattle.std.specs.List.{slice_index_or}
use Rattle.std.proofs.lemmas.List.{append_assoc}
use Rattle.tree_nodes.specs.declared.attribute.Attribute.{Attribute}
use Rattle.tree_nodes.specs.declared.template.TemplateParts.{TemplateParts as CodeTemplate}
use Rattle.tree_nodes.specs.declared.template.TemplateAttribute.{TemplateAttribute as CodeEntry}
use Rattle.tree_nodes.specs.declared.template.TemplateAttribute.TheVariants as entries
use Rattle.rt_edits.specs.declared.edit.Edit.{Edit}
use Rattle.tree_nodes.specs.declared.vnode.VNode.{VNode}
use Rattle.rt_model.specs.Lists.{Text}
use Rattle.rt_model.specs.Tree as model
use Rattle.rt_model.specs.Tree.{TemplateAttribute, TemplateNodes, no_nodes, element_node, text_node, slot_node, Template, Place, Kind, place_in, an_element}
use Rattle.rt_model.specs.Heard.{number_at}
use Rattle.rt_model.specs.Document as doc
use Rattle.rt_model.specs.Caused as caused
use Rattle.rt_model.specs.Caused.{element_pass, attribute_pass}
use Rattle.tree_mirror.specs.Mirror.{attribute_in, attribute_of}
use Rattle.tree_mirror.specs.Sealed.{nodes_of, template_of}
use Rattle.run_places.specs.declared.piece.Piece.{Piece}
use Rattle.run_places.specs.declared.piece.Piece.TheVariants as pieces
use Rattle.run_places.specs.Places.{at_path}
use Rattle.run_places.specs.Pieces.{Met, met_element, met_text, met_slot, all_met, piece_of, row_met}
use Rattle.run_places.proofs.Trails.{on_Inside, path_Whole}
use Rattle.run_places.proofs.Walks.{row_is}
use Rattle.run_attributes.specs.declared.given.Entries.{Entries}
use Rattle.run_attributes.specs.declared.given.Pass.{Pass}
use Rattle.run_attributes.specs.declared.given.Pass.TheVariants as passes
use Rattle.run_attributes.specs.Given.{edits_of, pass_of, any_slot, slotted, entry_is_slot, slot_among, entry_written, entries_written, element_written, elements_written, AreWritten, block_written, entries_of, elements_met, template_elements, piece_elements, pieces_elements}
use Rattle.run_attributes.proofs.Contents.{slot_given}
use Rattle.run_attributes.proofs.Slots.{left_is, come_is, nil-right, edits-append}

-- entries of an element

pub slot_Static : (name : Text) (namespace : Option Text) (value : Text) → entry_is_slot (entries.Static name namespace value) ≡ false
unfolding entry_is_slot
slot_Static name namespace value = refl

pub slot_Dynamic : (id : ℕ) → entry_is_slot (entries.Dynamic id) ≡ true
unfolding entry_is_slot
slot_Dynamic id = refl

among_is : (es : List CodeEntry) → slot_among es ≡ any_slot (map attribute_in es)
unfolding entry_is_slot
among_is [] = refl
among_is (entries.Static name namespace value ∷ es) = among_is es
among_is (entries.Dynamic id ∷ es) = refl

-- an element with an attribute slot is one of them
pub element_Slotted : (numbers : List (Place × Kind × ℕ)) (above : Place) (template : CodeTemplate) (path : List ℕ) (attrs : List CodeEntry) → slot_among attrs ≡ true
    → piece_elements numbers above template (pieces.Element path attrs) ≡ (number_at numbers (at_path (template_of template) above path) an_element, map attribute_in attrs) ∷ []
unfolding piece_elements
element_Slotted numbers above template path attrs some =
    let one : List (ℕ × List TemplateAttribute) = (number_at numbers (at_path (template_of template) above path) an_element, map attribute_in attrs) ∷ [] in
    ap (λ (b : Bool). (if b then one else []) ++ []) (sym (among_is attrs) ∙ some)

-- one of static entries alone isn't
pub element_Static : (numbers : List (Place × Kind × ℕ)) (above : Place) (template : CodeTemplate) (path : List ℕ) (attrs : List CodeEntry) → slot_among attrs ≡ false
    → piece_elements numbers above template (pieces.Element path attrs) ≡ []
unfolding piece_elements
element_Static numbers above template path attrs none =
    let one : List (ℕ × List TemplateAttribute) = (number_at numbers (at_path (template_of template) above path) an_element, map attribute_in attrs) ∷ [] in
    ap (λ (b : Bool). (if b then one else []) ++ []) (sym (among_is attrs) ∙ none)

pub element_Text : (numbers : List (Place × Kind × ℕ)) (above : Place) (template : CodeTemplate) (path : List ℕ) → piece_elements numbers above template (pieces.Text path) ≡ []
unfolding piece_elements
element_Text numbers above template path = refl

pub element_Slot : (numbers : List (Place × Kind × ℕ)) (above : Place) (template : CodeTemplate) (id : ℕ) (path : List ℕ) → piece_elements numbers above template (pieces.Slot id path) ≡ []
unfolding piece_elements
element_Slot numbers above template id path = refl

elements_are : (numbers : List (Place × Kind × ℕ)) (above : Place) (template : CodeTemplate) (ps : List Piece)
    → pieces_elements numbers above template ps ≡ elements_met numbers above (template_of template) (map piece_of ps)
unfolding piece_elements
elements_are numbers above template [] = refl
elements_are numbers above template (pieces.Element path attrs ∷ ps) =
    let own : List (ℕ × List TemplateAttribute) = slotted (number_at numbers (at_path (template_of template) above path) an_element) (map attribute_in attrs) in
    (λ i. nil-right own i ++ elements_are numbers above template ps i)
elements_are numbers above template (pieces.Text path ∷ ps) = elements_are numbers above template ps
elements_are numbers above template (pieces.Slot id path ∷ ps) = elements_are numbers above template ps

-- a template's elements are those of its pieces, however they were found
pub elements_out : (numbers : List (Place × Kind × ℕ)) (above : Place) (template : CodeTemplate) (ps : List Piece)
    → map piece_of ps ≡ row_met [] 0 template.roots → pieces_elements numbers above template ps ≡ template_elements numbers above template
unfolding template_elements
elements_out numbers above template ps h =
    elements_are numbers above template ps ∙ ap (λ ms. elements_met numbers above (template_of template) ms) (h ∙ row_is [] 0 template.roots)

pub elements-append : (a b : List Entries) → map entries_of (a ++ b) ≡ map entries_of a ++ map entries_of b
elements-append [] b = refl
elements-append (x ∷ a) b = ap (λ es. entries_of x ∷ es) (elements-append a b)

-- one more element with an attribute slot
pub element_more : (numbers : List (Place × Kind × ℕ)) (above place : Place) (template : CodeTemplate) (path : List ℕ) (attrs more : List CodeEntry) (piece : Piece) (n : ℕ)
    → slot_among attrs ≡ true → n ≡ number_at numbers place an_element → place ≡ at_path (template_of template) above path → more ≡ attrs → piece ≡ pieces.Element path attrs
    → (old new : List Entries) → new ≡ old ++ record { number = n; entries = more } ∷ []
    → map entries_of new ≡ map entries_of old ++ piece_elements numbers above template piece
element_more numbers above place template path attrs more piece n some numbered there same is old new added =
    let own : (n, map attribute_in more) ∷ [] ≡ piece_elements numbers above template piece =
    (λ i. (numbered i, map attribute_in (same i)) ∷ [])
    ∙ ap (λ (q : Place). (number_at numbers q an_element, map attribute_in attrs) ∷ []) there
    ∙ sym (ap (λ (x : Piece). piece_elements numbers above template x) is ∙ element_Slotted numbers above template path attrs some) in
    ap (λ (es : List Entries). map entries_of es) added
    ∙ elements-append old (record { number = n; entries = more } ∷ [])
    ∙ ap (λ (es : List (ℕ × List TemplateAttribute)). map entries_of old ++ es) own

pub ruleset elements = (elements_out, slot_Static, slot_Dynamic, element_Text, element_Slot, elements-append, nil-right, on_Inside, path_Whole)

module _ {P C Q V H T E L : Type 0} where
  pub written_Static : (pass : Pass) (new old : List (List (Attribute P C Q V H T E L))) (number : ℕ) (name : Text) (namespace : Option Text) (value : Text)
      → entry_written pass new old number (entries.Static name namespace value) ≡ []
  unfolding entry_written
  written_Static pass new old number name namespace value = refl

  pub written_Dynamic : (pass : Pass) (new old : List (List (Attribute P C Q V H T E L))) (number id : ℕ)
      → entry_written pass new old number (entries.Dynamic id) ≡ pass_of pass (slice_index_or new id []) (slice_index_or old id []) number
  unfolding entry_written
  written_Dynamic pass new old number id = refl

  pub written_out : (pass : Pass) (new old : List (List (Attribute P C Q V H T E L))) (element : Entries)
      → element_written pass new old element ≡ entries_written pass new old element.number element.entries
  unfolding element_written
  written_out pass new old element = refl

pub ruleset passing = (written_Static, written_Dynamic, written_out, edits-append, nil-right)

-- a pass of the definitions is one over the elements

abbrev over : (ℕ → ℕ → List doc.Edit) → List (ℕ × List TemplateAttribute) → List doc.Edit
over of [] = []
over of (e ∷ es) = element_pass of e.0 e.1 ++ over of es

over-append : (of : ℕ → ℕ → List doc.Edit) (a b : List (ℕ × List TemplateAttribute)) → over of (a ++ b) ≡ over of a ++ over of b
over-append of [] b = refl
over-append of (e ∷ a) b = ap (λ xs. element_pass of e.0 e.1 ++ xs) (over-append of a b) ∙ sym (append_assoc (element_pass of e.0 e.1) (over of a) (over of b))

-- an element of static entries alone writes nothing, whichever pass it is
no_slot : (of : ℕ → ℕ → List doc.Edit) (n : ℕ) (es : List TemplateAttribute) → any_slot es ≡ false → element_pass of n es ≡ []
no_slot of n [] none = refl
no_slot of n (model.fixed name namespace value ∷ es) none = no_slot of n es none
no_slot of n (model.from_slot k ∷ es) none = cc

over_one : (of : ℕ → ℕ → List doc.Edit) (n : ℕ) (es : List TemplateAttribute) (any : Bool) → any_slot es ≡ any
    → element_pass of n es ≡ over of (if any then (n, es) ∷ [] else [])
over_one of n es true some = sym (nil-right (element_pass of n es))
over_one of n es false none = no_slot of n es none

-- so a pass over it is one over it where it has an attribute slot
over-slotted : (of : ℕ → ℕ → List doc.Edit) (n : ℕ) (es : List TemplateAttribute) → element_pass of n es ≡ over of (slotted n es)
over-slotted of n es = over_one of n es (any_slot es) refl

elements-joined : (numbers : List (Place × Kind × ℕ)) (above : Place) (whole : Template) (a b : List Met)
    → elements_met numbers above whole (a ++ b) ≡ elements_met numbers above whole a ++ elements_met numbers above whole b
elements-joined numbers above whole [] b = refl
elements-joined numbers above whole (met_element path attributes ∷ a) b =
    let own : List (ℕ × List TemplateAttribute) = slotted (number_at numbers (at_path whole above path) an_element) attributes in
    ap (λ es. own ++ es) (elements-joined numbers above whole a b) ∙ sym (append_assoc own (elements_met numbers above whole a) (elements_met numbers above whole b))
elements-joined numbers above whole (met_text path ∷ a) b = elements-joined numbers above whole a b
elements-joined numbers above whole (met_slot k path ∷ a) b = elements-joined numbers above whole a b

pass_by_elements : (numbers : List (Place × Kind × ℕ)) (above : Place) (whole : Template) (of : ℕ → ℕ → List doc.Edit) (up : List ℕ) (i : ℕ) (ns : TemplateNodes)
    → attribute_pass of (λ u j. number_at numbers (place_in whole above u j) an_element) up i ns ≡ over of (elements_met numbers above whole (all_met up i ns))
pass_by_elements numbers above whole of up i no_nodes = refl
pass_by_elements numbers above whole of up i (element_node tag namespace attributes children rest) =
    let number : ℕ = number_at numbers (place_in whole above up i) an_element in
    let inner : List (ℕ × List TemplateAttribute) = elements_met numbers above whole (all_met (up ++ i ∷ []) 0 children) in
    let after : List (ℕ × List TemplateAttribute) = elements_met numbers above whole (all_met up (i + 1) rest) in
    (λ k. over-slotted of number attributes k ++ (pass_by_elements numbers above whole of (up ++ i ∷ []) 0 children k ++ pass_by_elements numbers above whole of up (i + 1) rest k)) ∙
    ap (λ xs. over of (slotted number attributes) ++ xs) (sym (over-append of inner after)) ∙
    sym (over-append of (slotted number attributes) (inner ++ after)) ∙
    ap (λ es. over of (slotted number attributes ++ es)) (sym (elements-joined numbers above whole (all_met (up ++ i ∷ []) 0 children) (all_met up (i + 1) rest)))
pass_by_elements numbers above whole of up i (text_node text rest) = pass_by_elements numbers above whole of up (i + 1) rest
pass_by_elements numbers above whole of up i (slot_node k rest) = pass_by_elements numbers above whole of up (i + 1) rest

-- a pass over slots that give nothing writes nothing

no_entries : (n : ℕ) (es : List TemplateAttribute) → element_pass (λ k m. []) n es ≡ []
no_entries n [] = refl
no_entries n (model.fixed name namespace value ∷ es) = no_entries n es
no_entries n (model.from_slot k ∷ es) = no_entries n es

no_pass : (number : List ℕ → ℕ → ℕ) (up : List ℕ) (i : ℕ) (ns : TemplateNodes) → attribute_pass (λ k m. []) number up i ns ≡ []
no_pass number up i no_nodes = refl
no_pass number up i (element_node tag namespace attributes children rest) =
    (λ k. no_entries (number up i) attributes k ++ (no_pass number (up ++ i ∷ []) 0 children k ++ no_pass number up (i + 1) rest k))
no_pass number up i (text_node text rest) = no_pass number up (i + 1) rest
no_pass number up i (slot_node k rest) = no_pass number up (i + 1) rest

module _ {P C Q V H T E L : Type 0} where
  -- what a pass writes of a slot with a number, at the mirror
  abbrev slot_pass : Pass → List (List (Attribute P C Q V H T E L)) → List (List (Attribute P C Q V H T E L)) → ℕ → ℕ → List doc.Edit
  slot_pass passes.Left new old k n = caused.left (model.attributes_in (map (map attribute_of) old) k) (model.attributes_in (map (map attribute_of) new) k) n
  slot_pass passes.Come new old k n = caused.come (model.attributes_in (map (map attribute_of) new) k) (model.attributes_in (map (map attribute_of) old) k) n

  slot_is : (pass : Pass) (new old : List (List (Attribute P C Q V H T E L))) (k n : ℕ) → pass_of pass (slice_index_or new k []) (slice_index_or old k []) n ≡ slot_pass pass new old k n
  slot_is passes.Left new old k n =
      left_is (slice_index_or old k []) (slice_index_or new k []) n ∙ (λ i. caused.left (sym (slot_given old k) i) (sym (slot_given new k) i) n)
  slot_is passes.Come new old k n =
      come_is (slice_index_or new k []) (slice_index_or old k []) n ∙ (λ i. caused.come (sym (slot_given new k) i) (sym (slot_given old k) i) n)

  entries_are : (pass : Pass) (new old : List (List (Attribute P C Q V H T E L))) (n : ℕ) (es : List CodeEntry)
      → entries_written pass new old n es ≡ element_pass (λ k m. slot_pass pass new old k m) n (map attribute_in es)
  unfolding entry_written
  entries_are pass new old n [] = refl
  entries_are pass new old n (entries.Static name namespace value ∷ es) = entries_are pass new old n es
  entries_are pass new old n (entries.Dynamic id ∷ es) = (λ i. slot_is pass new old id n i ++ entries_are pass new old n es i)

  over-elements : (pass : Pass) (new old : List (List (Attribute P C Q V H T E L))) (es : List Entries)
      → elements_written pass new old es ≡ over (λ k m. slot_pass pass new old k m) (map entries_of es)
  unfolding element_written
  over-elements pass new old [] = refl
  over-elements pass new old (e ∷ es) = (λ i. entries_are pass new old e.number e.entries i ++ over-elements pass new old es i)

  one_pass : (pass : Pass) (numbers : List (Place × Kind × ℕ)) (above : Place) (new old : VNode P C Q V H T E L) (es : List Entries)
      → map entries_of es ≡ template_elements numbers above new.template
      → elements_written pass new.dynamic_attrs old.dynamic_attrs es
      ≡ attribute_pass (λ k m. slot_pass pass new.dynamic_attrs old.dynamic_attrs k m) (λ u j. number_at numbers (place_in (template_of new.template) above u j) an_element) [] 0 (nodes_of new.template.roots)
  unfolding template_elements
  one_pass pass numbers above new old es h =
      let of : ℕ → ℕ → List doc.Edit = λ k m. slot_pass pass new.dynamic_attrs old.dynamic_attrs k m in
      over-elements pass new.dynamic_attrs old.dynamic_attrs es ∙ ap (λ xs. over of xs) h ∙
      sym (pass_by_elements numbers above (template_of new.template) of [] 0 (nodes_of new.template.roots))

  pub block_out : (numbers : List (Place × Kind × ℕ)) (above : Place) (new old : VNode P C Q V H T E L) → block_written numbers above new old
      ≡ caused.attributes_written numbers above (template_of new.template) (map (map attribute_of) new.dynamic_attrs) (map (map attribute_of) old.dynamic_attrs)
  unfolding block_written
  block_out numbers above new old = refl

  -- the edits of the two passes are those of a matched block
  pub are_written : (edits : List Edit) (numbers : List (Place × Kind × ℕ)) (above : Place) (new old : VNode P C Q V H T E L) → AreWritten edits numbers above new old
      → edits_of edits ≡ block_written numbers above new old
  unfolding block_written
  are_written edits numbers above new old h =
      h.written ∙ (λ i. one_pass passes.Left numbers above new old h.elements h.are i ++ one_pass passes.Come numbers above new old h.elements h.are i)

  -- where no attribute slot gives anything nothing is written
  pub none_written : (numbers : List (Place × Kind × ℕ)) (above : Place) (new old : VNode P C Q V H T E L) → new.dynamic_attrs ≡ [] → old.dynamic_attrs ≡ []
      → block_written numbers above new old ≡ []
  unfolding block_written
  none_written numbers above new old g h =
      let number : List ℕ → ℕ → ℕ = λ u j. number_at numbers (place_in (template_of new.template) above u j) an_element in
      let nodes : TemplateNodes = nodes_of new.template.roots in
      (λ i. caused.attributes_written numbers above (template_of new.template) (map (map attribute_of) (g i)) (map (map attribute_of) (h i)))
      ∙ (λ i. no_pass number [] 0 nodes i ++ no_pass number [] 0 nodes i)
