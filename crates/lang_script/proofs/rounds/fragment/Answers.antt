-- A built-in component round children at the mirror.
use Rattle.lang_script.proofs.Fills.{slot-fragment}
use Rattle.lang_script.proofs.rounds.fragment.Goals as goal

pub returns : goal.returns
returns c = record { node = slot-fragment c.in_ok-children.children c.args.children c.in_ok-children.ensures.value }
