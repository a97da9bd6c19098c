-- What stays of a line.
use Rattle.std.specs.Prelude.{List, [], ◌∷◌, codes}
use Rattle.rt_author.specs.Markup.{around}
use Rattle.rt_author.specs.Shape.{Shape}
use Rattle.rt_author.specs.Shape.TheVariants as shapes
use Rattle.rt_author.specs.ShapeAttribute.TheVariants as attributes

-- a slot for the item, and a button with a slot for its listener
abbrev pub line_shapes : List Shape
line_shapes =
    around (codes "li") []
    (shapes.Hole ∷ around (codes "button") (attributes.Open ∷ []) (shapes.Words (codes "remove") ∷ []))
