-- The memo is had, and shown.
use Rattle.std.proofs.Common.{rules}
use Rattle.std.specs.Prelude.{Some, false}
use Rattle.rt_author.proofs.Rules.{one_after}
use Rattle.rt_author.specs.Words.{Comes, element_of}
use Rattle.examples_derived.specs.Meaning.{kept, showing, showing_of}
use Rattle.examples_derived.proofs.derived.memo_of.Goals as goal

pub returns-clause-came : goal.returns-clause-came
returns-clause-came c = λ had.
    let cx = c.args.cx.now in
    let one = c.use_memo.new.cx in
    let two = c.showing.new.cx in
    let memo = c.in-Some.memo in
    let shown = element_of c.in_ok-showing.field-0 in
    let own : Comes cx one (kept c.args.formula false) (Some memo) = search rules in
    let then_on : Comes one two (showing memo) shown = c.in_ok-showing.ensures.came in
    one_after cx one two (kept c.args.formula false) (λ o. showing_of o) (Some memo) shown (search rules) own then_on
