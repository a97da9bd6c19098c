-- A built-in component round children at the mirror.
use Rattle.std.proofs.Common.{◌≡◌, ◌∙◌, ap, sym}
use Rattle.tree_mirror.specs.Mirror.{fallback_of}
use Rattle.lang_script.proofs.rounds.suspense_boundary.Goals.{in-Some, in-None}
use Rattle.lang_script.proofs.Fills.{slot-suspense-boundary}
use Rattle.lang_script.proofs.rounds.suspense_boundary.Goals as goal

pub returns : goal.returns
returns c =
    let named : fallback_of c.match-fallback.fallback ≡ c.args.fallback =
    elim c.match-fallback.branch [ in-Some w ↦ ap fallback_of w.fallback-is ∙ sym w.in-Some.is | in-None w ↦ ap fallback_of w.fallback-is ∙ sym w.in-None.is ] in
    record { node = slot-suspense-boundary c.in_ok-children.children c.args.kids c.match-fallback.fallback c.args.fallback c.in_ok-children.ensures.value named }
