-- The second cell is had, and then the memo.
use Rattle.std.proofs.Common.{rules}
use Rattle.std.specs.Prelude.{Some}
use Rattle.rt_author.proofs.Rules.{one_after}
use Rattle.rt_author.specs.Words.{Comes, element_of, own_cell}
use Rattle.examples_derived.specs.declared.parts.Value.TheVariants.{Number}
use Rattle.examples_derived.specs.declared.derived.Formula.TheVariants.{Chosen}
use Rattle.examples_derived.specs.Meaning.{DerivedTypes, keeping, memo_of, with_second}
use Rattle.examples_derived.proofs.derived.choosing_of.Goals as goal

pub returns-clause-came : goal.returns-clause-came
returns-clause-came c = λ had.
    let cx = c.args.cx.now in
    let one = c.own_cell.new.cx in
    let two = c.memo_of.new.cx in
    let first = c.args.first in
    let second = c.in-Some.second in
    let owning = own_cell {K = DerivedTypes} keeping (Number 0) in
    let shown = element_of c.in_ok-memo_of.field-0 in
    let own : Comes cx one owning (Some second) = search rules in
    let then_on : Comes one two (memo_of (Chosen first second)) shown = c.in_ok-memo_of.ensures.came had in
    one_after cx one two owning (λ o. with_second first o) (Some second) shown (search rules) own then_on
