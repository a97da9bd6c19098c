-- Whether the attributes that are left fit.
use Rattle.std.proofs.Common.{◌≡◌, drop}
use Rattle.std.specs.List.{list_all}
use Rattle.author_pieces.specs.Breaches.{attr_fits}
use Rattle.author_pieces.proofs.breaches.listeners_fit.Given as goal

abbrev pub invariant-loop-attr : goal.invariant-loop-attr
invariant-loop-attr g l = list_all (attr_fits l.slots) l.attrs ≡ list_all (attr_fits l.slots) (drop l.attr-index l.attrs)
