-- The clean-up is kept, the cell is read, and what is told is of it.
use Rattle.std.proofs.Common.{rules}
use Rattle.std.specs.Prelude.{Some}
use Rattle.rt_author.proofs.Rules.{one_after}
use Rattle.rt_author.specs.Signals.{get}
use Rattle.rt_author.specs.Words.{Comes, element_of}
use Rattle.examples_board.specs.Meaning.{BoardTypes, cleaned, news_at, news_in, told}
use Rattle.examples_board.proofs.bodies.news.Goals as goal

pub returns-clause-came : goal.returns-clause-came
returns-clause-came c = λ had.
    let cx = c.args.cx.now in
    let one = c.cleaned.new.cx in
    let two = c.get.new.cx in
    let end = c.told.new.cx in
    let cells = c.args.cells in
    let reading = get {K = BoardTypes} cells.tries in
    let tries = c.in_ok-tries.tries in
    let shown = element_of c.in_ok-told.field-0 in
    let kept : Comes cx one (cleaned cells.log) (Some tt) = search rules in
    let got : Comes one two reading tries = search rules in
    let then_on : Comes one end (news_at cells) shown =
    one_after one two end reading (λ o. told cells.log o) tries shown (search rules) got (c.in_ok-told.ensures.came had) in
    one_after cx one end (cleaned cells.log) (λ o. news_in cells o) (Some tt) shown (search rules) kept then_on
