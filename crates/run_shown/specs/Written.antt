-- Edits, and whether the refused place was reached, as the definitions have them.
use Rattle.std.specs.Prelude.{map}
use Rattle.rt_model.specs.Caused.{Written}
use Rattle.tree_edits.specs.Documents.{edit_of}
use Rattle.run_shown.specs.declared.edited.Edited.{Edited}

-- edits, and whether the refused place was reached
abbrev pub edited_of : Edited → Written
edited_of x = record { edits = map edit_of x.edits; stopped = x.stopped }
