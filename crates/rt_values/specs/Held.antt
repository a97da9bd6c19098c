-- The items behind a counted owner, if there is one.
use Rattle.std.specs.Prelude.{List, [], Option, None, Some}
use Rattle.std.specs.declared.alloc.Global.{Global}
use Rattle.std.specs.declared.rc.Rc.{Rc}
use Rattle.std.specs.declared.vec.Vec.{Vec}

-- no owner has no item
abbrev pub items_in : {T : Type 0} → Option (Rc (Vec T Global) Global) → List T
items_in None = []
items_in (Some items) = items.value.items
