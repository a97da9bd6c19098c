-- The cell is had with the first name in it, and then what is loaded for it.
use Rattle.std.proofs.Common.{rules, ◌≡◌, subst}
use Rattle.std.specs.Prelude.{Some}
use Rattle.rt_author.proofs.Rules.{one_after}
use Rattle.rt_author.specs.Words.{Comes, element_of, own_cell}
use Rattle.examples_derived.specs.declared.parts.Value.{Value}
use Rattle.examples_derived.specs.declared.derived.Formula.TheVariants.{Greeting}
use Rattle.examples_derived.specs.Meaning.{DerivedTypes, first_name, keeping, resource_of, with_name}
use Rattle.examples_derived.proofs.derived.loading.Goals as goal

pub returns-clause-came : goal.returns-clause-came
returns-clause-came c = λ had.
    let cx = c.args.cx.now in
    let one = c.own_cell.new.cx in
    let two = c.resource_of.new.cx in
    let name = c.in-Some.name in
    let shown = element_of c.in_ok-resource_of.field-0 in
    let is : c.in_ok-first.first ≡ first_name = c.in_ok-first.ensures.name in
    let own : Comes cx one (own_cell {K = DerivedTypes} keeping c.in_ok-first.first) (Some name) = search rules in
    let named : Comes cx one (own_cell {K = DerivedTypes} keeping first_name) (Some name) =
    subst (λ (v : Value). Comes cx one (own_cell {K = DerivedTypes} keeping v) (Some name)) is own in
    let then_on : Comes one two (resource_of (Greeting name)) shown = c.in_ok-resource_of.ensures.came had in
    one_after cx one two (own_cell {K = DerivedTypes} keeping first_name) (λ o. with_name o) (Some name) shown (search rules) named then_on
