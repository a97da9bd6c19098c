-- The first cell is had, and then the rest.
use Rattle.std.proofs.Common.{rules}
use Rattle.std.specs.Prelude.{Some}
use Rattle.rt_author.proofs.Rules.{one_after}
use Rattle.rt_author.specs.Words.{Comes, element_of, own_cell}
use Rattle.examples_derived.specs.declared.parts.Value.TheVariants.{Number}
use Rattle.examples_derived.specs.Meaning.{DerivedTypes, choosing_of, keeping, with_first}
use Rattle.examples_derived.proofs.derived.choosing.Goals as goal

pub returns-clause-came : goal.returns-clause-came
returns-clause-came c = λ had.
    let cx = c.args.cx.now in
    let one = c.own_cell.new.cx in
    let two = c.choosing_of.new.cx in
    let first = c.in-Some.first in
    let owning = own_cell {K = DerivedTypes} keeping (Number 0) in
    let shown = element_of c.in_ok-choosing_of.field-0 in
    let own : Comes cx one owning (Some first) = search rules in
    let then_on : Comes one two (choosing_of first) shown = c.in_ok-choosing_of.ensures.came had in
    one_after cx one two owning (λ o. with_first o) (Some first) shown (search rules) own then_on
