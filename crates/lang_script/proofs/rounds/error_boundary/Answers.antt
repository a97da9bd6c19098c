-- A built-in component round children at the mirror.
use Rattle.std.proofs.Common.{◌≡◌, ◌∙◌, ap, sym}
use Rattle.tree_mirror.specs.Mirror.{handler_of}
use Rattle.lang_script.proofs.rounds.error_boundary.Goals.{in-Some, in-None}
use Rattle.lang_script.proofs.Fills.{slot-error-boundary}
use Rattle.lang_script.proofs.rounds.error_boundary.Goals as goal

pub returns : goal.returns
returns c =
    let named : handler_of c.match-handler.handle_error ≡ c.args.handler =
    elim c.match-handler.branch [ in-Some w ↦ ap handler_of w.handle_error-is ∙ sym w.in-Some.is | in-None w ↦ ap handler_of w.handle_error-is ∙ sym w.in-None.is ] in
    record { node = slot-error-boundary c.in_ok-children.children c.args.kids c.match-handler.handle_error c.args.handler c.in_ok-children.ensures.value named }
