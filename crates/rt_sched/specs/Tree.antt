-- What a tree is seen as.
use Rattle.std.specs.Prelude.{ℕ, List, [], ◌∷◌, ◌++◌}
use Rattle.rt_sched.specs.declared.place.Place.{Place}
use Rattle.rt_sched.specs.declared.tree.Root.{Root}
use Rattle.rt_sched.specs.declared.tree.Root.TheVariants.{Leaf, Fork}

-- the places in order
abbrev pub places_of : Root → List Place
places_of Leaf = []
places_of (Fork node) = node.value.left ++ node.value.place ∷ node.value.right

-- how many levels the topmost node counts
abbrev pub height_of : Root → ℕ
height_of Leaf = 0
height_of (Fork node) = node.value.height
