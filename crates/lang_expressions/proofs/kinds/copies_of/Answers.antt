-- One more key is copied, or none is left.
use Rattle.std.proofs.Common.{rules}
use Rattle.lang_expressions.proofs.Seen.{copied, all_copied}
use Rattle.lang_expressions.proofs.kinds.copies_of.Goals as goal

pub loop-key-preserved : goal.loop-key-preserved
loop-key-preserved c =
    let more = copied c.loop-key.copies.items _ _ c.in-Some.key.now _ c.in-Some.ensures.steps c.loop-key.invariant in
    search (rules, more)

pub returns : goal.returns
returns c = record { copies = all_copied _ _ _ c.in-None.ensures.steps.0 c.loop-key.invariant }
