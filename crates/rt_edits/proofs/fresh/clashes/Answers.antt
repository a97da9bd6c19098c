-- Numbers that rise from above the document's are free.
use Rattle.std.proofs.Common.{ℕ, sym, ap, ◌∙◌}
use Rattle.rt_edits.specs.Nodes.{numbers, rising}
use Rattle.rt_edits.proofs.Rising.{none_barred}
use Rattle.rt_edits.proofs.fresh.clashes.Goals as goal

pub returns-in-Some : goal.returns-in-Some
returns-in-Some c =
    let rises = ap (λ (n : ℕ). rising n (numbers c.args.nodes.now)) (sym c.highest.ensures.greatest) ∙ sym c.rises.ensures.rising ∙ c.in-Some.is in
    record { clashes = sym (none_barred (numbers c.args.document.now) (numbers c.args.nodes.now) c.in-Some.field-0 rises) }
