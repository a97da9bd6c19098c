-- The lines that are printed of edits are those of the form.
use Rattle.std.proofs.Common.{◌∙◌, map}
use Rattle.show_objects.proofs.Orders.{texts-are}
use Rattle.tree_edits.specs.Documents.{edit_of}
use Rattle.show_objects.proofs.tells.EditLinesTells.kept.Goals as goal

pub returns : goal.returns
returns c =
    let own = c.lines.ensures.lines in
    record { lines = record { edits = own.edits; tells = own.tells; printed = own.printed ∙ texts-are (map edit_of own.edits) } }
