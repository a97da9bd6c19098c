-- Outputs that pass the node test, and what is written of their attribute slots.
use Rattle.std.specs.Prelude.{ℕ, true, List, ◌≡◌}
use Rattle.rt_model.specs.Tree.{Types, same_template, Tree, template_of, attributes_of, Place, Kind}
use Rattle.rt_model.specs.Fits.{fits_at}
use Rattle.law_moves.specs.Meets.{AttributesBring}

-- two outputs of one template, each of which passes the node test at some level: what is written of their attribute slots
-- makes the new attributes and listeners of the old ones
abbrev pub FittingBring : Types → Type 0
FittingBring K =
    (numbers : List (Place × Kind × ℕ)) (above : Place) (new old : Tree K) (level other : ℕ)
    → same_template (template_of new) (template_of old) ≡ true
    → fits_at new level ≡ true
    → fits_at old other ≡ true
    → AttributesBring numbers above (template_of new) (attributes_of new) (attributes_of old)
