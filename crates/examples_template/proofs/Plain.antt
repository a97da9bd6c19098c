-- The button as the definitions write a tree: so a session of it computes.
use Rattle.std.proofs.Common.{ℕ, List, [], ◌∷◌, ◌≡◌, refl, sym, ap, ◌∙◌}
use Rattle.std.specs.Prelude.{Option, Some, None, codes, decimal}
use Rattle.std.specs.List.{slice_get}
use Rattle.rt_author.proofs.Placeholders.{placeholder-mirrors}
use Rattle.rt_author.proofs.Rows.{numbered-Element, numbered-Hole}
use Rattle.rt_author.proofs.SealedNodes.{before_Dynamic, before_Element}
use Rattle.rt_author.proofs.SealedTrees.{slot_Text, tree_out}
use Rattle.rt_author.specs.DynamicNode.TheVariants as slots
use Rattle.rt_author.specs.Numbering as numbering
use Rattle.rt_author.specs.Numbering.{element_of, finished, no_paths}
use Rattle.rt_author.specs.Sealed as sealed
use Rattle.rt_author.specs.ShapeAttribute.TheVariants.{Open}
use Rattle.rt_author.specs.Shape.TheVariants.{Hole}
use Rattle.rt_author.specs.TemplateAttribute.TheVariants as attributes
use Rattle.rt_author.specs.TemplateNode.TheVariants as nodes
use Rattle.rt_author.specs.TemplateParts.{TemplateParts}
use Rattle.rt_author.specs.Tree as model
use Rattle.rt_author.specs.Tree.{Attribute, Slot, TemplateNodes, Tree, block, element_node, from_slot, listener, more_slots, no_nodes, no_slots, slot_node, text_slot}
use Rattle.rt_author.specs.Words.{NoData, Paged, Pages, placeholder_tree, tree_of}
use Rattle.examples_template.specs.Meaning.{OwnTree, OwnTypes, answers, button, page, present}
use Rattle.examples_template.specs.declared.application.Application.{Application}

-- the application's trees are of this type's
abbrev Here : Type 0
Here = Paged Application NoData NoData ℕ ℕ NoData NoData NoData

-- the template of the button
abbrev made : TemplateParts
made =
    record {
      roots = nodes.Element (codes "button") None (attributes.Dynamic 0 ∷ []) (nodes.Dynamic 0 ∷ []) ∷ [];
      node_paths = (0 ∷ 0 ∷ []) ∷ [];
      attr_paths = (0 ∷ []) ∷ [];
    }

along : {A B : Type 0} {x y : A} → x ≡ y → (f : A → B) → f x ≡ f y
along h f = ap f h

is_made : (button 0 0 0).template ≡ made
unfolding numbering.template_of
is_made =
    along
    (numbered-Element (codes "button") (Open ∷ []) (Hole ∷ []) (0 ∷ []) no_paths
    ∙ along (numbered-Hole (0 ∷ 0 ∷ []) (record no_paths { attr_paths = (0 ∷ []) ∷ [] })) (λ k. element_of (codes "button") (attributes.Dynamic 0 ∷ []) (k.0 ∷ [], k.1)))
    (λ r. finished (r.0 ∷ [], r.1))

roots_of : sealed.nodes_of made.roots ≡ element_node (codes "button") None (from_slot 0 ∷ []) (slot_node 0 no_nodes) no_nodes
roots_of =
    before_Element (codes "button") None (attributes.Dynamic 0 ∷ []) (nodes.Dynamic 0 ∷ []) no_nodes
    ∙ ap (λ (k : TemplateNodes). element_node (codes "button") None (from_slot 0 ∷ []) k no_nodes) (before_Dynamic 0 no_nodes)

-- its attribute
abbrev heard : ℕ → ℕ → List (List (Attribute OwnTypes))
heard scope cell = (record { name = codes "onclick"; namespace = None; value = listener scope cell } ∷ []) ∷ []

-- a block of these roots and this slot
abbrev around_slot : ℕ → ℕ → TemplateNodes → Slot OwnTypes → Tree OwnTypes
around_slot scope cell roots slot =
    block (record { roots = roots; node_paths = (0 ∷ 0 ∷ []) ∷ []; attribute_paths = (0 ∷ []) ∷ [] }) (heard scope cell) (more_slots slot no_slots)

-- the button
abbrev pub button_here : ℕ → ℕ → ℕ → Tree OwnTypes
button_here scope cell number =
    around_slot scope cell (element_node (codes "button") None (from_slot 0 ∷ []) (slot_node 0 no_nodes) no_nodes) (text_slot (decimal number))

plainly : (t : OwnTree) → sealed.tree_of t ≡ tree_of t
unfolding sealed.tree_of
plainly t = refl

button_tree : (scope cell number : ℕ) → tree_of (button scope cell number) ≡ button_here scope cell number
button_tree scope cell number =
    let text : Slot OwnTypes = sealed.slot_of {P = Here} (slots.Text (decimal number)) in
    sym (plainly (button scope cell number))
    ∙ tree_out (button scope cell number)
    ∙ ap (λ (c : TemplateParts). block (sealed.template_of c) (heard scope cell) (more_slots text no_slots)) is_made
    ∙ ap (λ (r : TemplateNodes). around_slot scope cell r text) roots_of
    ∙ ap (λ (s : Slot OwnTypes). around_slot scope cell (element_node (codes "button") None (from_slot 0 ∷ []) (slot_node 0 no_nodes) no_nodes) s) (slot_Text Here (decimal number))

-- and what shows where its cell has none
abbrev empty : OwnTree
empty = placeholder_tree

none : tree_of empty ≡ model.placeholder_tree
none = sym (placeholder-mirrors empty refl)

-- what shows
abbrev pub present_here : ℕ → Option ℕ → Option (Option ℕ) → Tree OwnTypes
present_here scope (Some cell) (Some (Some number)) = button_here scope cell number
present_here scope _ _ = model.placeholder_tree

pub present_tree : (scope : ℕ) (cell : Option ℕ) (value : Option (Option ℕ)) → tree_of (present scope cell value) ≡ present_here scope cell value
present_tree scope (Some cell) (Some (Some number)) = button_tree scope cell number
present_tree scope (Some cell) (Some None) = none
present_tree scope (Some cell) None = none
present_tree scope None (Some (Some number)) = none
present_tree scope None (Some None) = none
present_tree scope None None = none

-- the application with that
abbrev pub plain : Pages OwnTypes
plain = record answers { page = λ c p. record page { shows = λ scope own values. present_here scope (slice_get own 0) (slice_get values 0) } }

pub same : answers ≡ plain
same = λ i. record answers { page = λ c p. record page { shows = λ scope own values. present_tree scope (slice_get own 0) (slice_get values 0) i } }
