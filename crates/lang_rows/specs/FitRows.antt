-- Worked rows of the node test: levels, children and slots at their bounds.
use Rattle.std.specs.Prelude.{ℕ, zero, suc, true, false, List, [], ◌∷◌, None, ◌≡◌, codes}
use Rattle.rt_model.specs.Tree.{from_slot, TemplateNodes, no_nodes, element_node, text_node, slot_node, template_with, Attribute, Tree, block, Slots, no_slots, more_slots, placeholder_slot}
use Rattle.rt_model.specs.Fits.{fits}
use Rattle.rt_model.specs.Small.{R, only}

-- so many elements one inside another
abbrev pub deep : ℕ → TemplateNodes
deep zero = no_nodes
deep (suc more) = element_node (codes "p") None [] (deep more) no_nodes

-- so many texts in a row
abbrev pub wide : ℕ → TemplateNodes
wide zero = no_nodes
wide (suc more) = text_node [] (wide more)

-- an element with these children
abbrev pub around : TemplateNodes → Tree R
around children = only (element_node (codes "p") None [] children no_nodes)

-- the row of levels, of which there are 128
abbrev pub LevelRow : Type 0
LevelRow = (fits (only (deep 128)) ≡ true) × (fits (only (deep 129)) ≡ false)

-- the row of children and of roots, of which there are 256
abbrev pub WidthRow : Type 0
WidthRow =
    (fits (around (wide 256)) ≡ true)
    ×
    (fits (around (wide 257)) ≡ false)
    ×
    (fits (only (wide 256)) ≡ true)
    ×
    (fits (only (wide 257)) ≡ false)
    ×
    (fits (only (wide 0)) ≡ false)

-- a tree of one slot node that gives these slots
abbrev pub slotted : Slots R → Tree R
slotted slots = block (template_with (slot_node 0 no_nodes)) [] slots

-- a tree of one element with an attribute slot that gives these attributes
abbrev pub dressed : List (List (Attribute R)) → Tree R
dressed given = block (template_with (element_node (codes "p") None (from_slot 0 ∷ []) no_nodes no_nodes)) given no_slots

-- the row of slots: a tree gives as many as its template has, of nodes and of attributes
abbrev pub SlotRow : Type 0
SlotRow =
    (fits (slotted no_slots) ≡ false)
    ×
    (fits (slotted (more_slots placeholder_slot no_slots)) ≡ true)
    ×
    (fits (slotted (more_slots placeholder_slot (more_slots placeholder_slot no_slots))) ≡ false)
    ×
    (fits (dressed []) ≡ false)
    ×
    (fits (dressed ([] ∷ [])) ≡ true)
