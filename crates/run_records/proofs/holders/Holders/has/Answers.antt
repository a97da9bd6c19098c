-- By the tasks themselves.
use Rattle.std.proofs.Common.{ap, sym, ◌∙◌}
use Rattle.std.specs.Prelude.{nat_eq}
use Rattle.std.specs.List.{list_any}
use Rattle.run_records.proofs.Futures.{any_holder}
use Rattle.run_records.proofs.holders.Holders.has.Goals as goal

pub returns : goal.returns
returns c = rw (← c.self.view_is)
    (c.is_among.ensures ∙ ap (list_any (λ future. nat_eq (future.task).0 c.args.task)) c.as_slice.ensures.items
    ∙ sym (any_holder c.self.inside.futures c.args.task))
