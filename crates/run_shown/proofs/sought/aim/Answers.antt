-- The node alone has the number and no child leads to it, or the child alone leads to it and no node has it.
use Rattle.std.proofs.Common.{nat_eq, sym, ap, ◌∙◌}
use Rattle.std.specs.Prelude.{Some}
use Rattle.rt_model.specs.Lists.{has}
use Rattle.run_shown.specs.Leading.{lone_where}
use Rattle.run_shown.proofs.Leadings.{only_child, only_node}
use Rattle.run_shown.proofs.sought.aim.Goals as goal

pub returns-in-Some-None : goal.returns-in-Some-None
returns-in-Some-None g c =
    let sought = c.args.sought.now in
    only_node c.args.side.now sought c.in-Some-None.spot c.place_of.result c.requires.some
    (ap (λ es. lone_where (λ m. nat_eq m sought.number) es) (sym c.as_slice.ensures.pairs) ∙ sym c.in-Some.ensures ∙ ap (λ o. Some o) c.in-Some-None.is-0)
    (ap (λ es. lone_where (λ t. has sought.way.now t) es) (sym c.as_slice-2.ensures.pairs) ∙ sym c.in-Some-lone_on.ensures ∙ ap (λ o. Some o) c.in-Some-None.is-1)
    c.place_of.ensures

pub returns-in-None-Some : goal.returns-in-None-Some
returns-in-None-Some g c =
    let sought = c.args.sought.now in
    only_child c.args.side.now sought c.in-None-Some.spot c.place_of-in-None-Some.result c.requires.some
    (ap (λ es. lone_where (λ m. nat_eq m sought.number) es) (sym c.as_slice.ensures.pairs) ∙ sym c.in-Some.ensures ∙ ap (λ o. Some o) c.in-None-Some.is-0)
    (ap (λ es. lone_where (λ t. has sought.way.now t) es) (sym c.as_slice-2.ensures.pairs) ∙ sym c.in-Some-lone_on.ensures ∙ ap (λ o. Some o) c.in-None-Some.is-1)
    c.place_of-in-None-Some.ensures
