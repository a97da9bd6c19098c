-- A text is put where it wasn't one of those that were seen.
use Rattle.std.proofs.Common.{◌∙◌, bytes_eq, not, ap}
use Rattle.std.specs.List.{list_any}
use Rattle.lang_expressions.proofs.Seen.{seen_by_order, seen_more}
use Rattle.lang_expressions.proofs.names.see.Goals as goal

pub returns-clause-fresh : goal.returns-clause-fresh
returns-clause-fresh c = c.in_ok-insert.ensures.added ∙ ap not (seen_by_order c.args.text.now c.args.seen.now.keys)

pub returns-clause-more : goal.returns-clause-more
returns-clause-more c = λ other.
    ap (λ keys. list_any (λ t. bytes_eq other t.now) keys) c.in_ok-insert.ensures.keys ∙ seen_more c.args.seen.now.keys c.args.text other
