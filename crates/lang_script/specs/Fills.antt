-- What slots are filled with, as the definitions have it.
use Rattle.std.specs.Prelude.{map}
use Rattle.tree_mirror.specs.Mirror.{attribute_of}
use Rattle.tree_mirror.specs.Sealed.{slot_of}
use Rattle.rt_language.specs.Views as views
use Rattle.lang_script.specs.declared.filling.Filling.{Filling}

-- slots, filled so far
abbrev pub filling_of : Filling → views.Filling
filling_of f = record { attributes = map (map attribute_of) f.attributes; slots = map slot_of f.nodes }
