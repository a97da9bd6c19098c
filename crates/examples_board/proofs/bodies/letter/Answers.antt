-- The cell is had, it is read, and the letter is opened of it.
use Rattle.std.proofs.Common.{rules}
use Rattle.std.specs.Prelude.{Some}
use Rattle.rt_author.proofs.Rules.{one_after}
use Rattle.rt_author.specs.Signals.{get}
use Rattle.rt_author.specs.Words.{Comes, element_of, own_cell}
use Rattle.examples_board.specs.Meaning.{BoardTypes, keeping, letter_at, letter_in, opened}
use Rattle.examples_board.proofs.bodies.letter.Goals as goal

pub returns-clause-came : goal.returns-clause-came
returns-clause-came c = λ had.
    let cx = c.args.cx.now in
    let one = c.own_cell.new.cx in
    let two = c.get.new.cx in
    let end = c.opened.new.cx in
    let cell = c.in-Some.cell in
    let reading = get {K = BoardTypes} cell in
    let letters = c.in_ok-letters.letters in
    let shown = element_of c.in_ok-opened.field-0 in
    let own : Comes cx one (own_cell keeping 0) (Some cell) = search rules in
    let got : Comes one two reading letters = search rules in
    let then_on : Comes one end (letter_at cell) shown =
    one_after one two end reading (λ o. opened cell o) letters shown (search rules) got (c.in_ok-opened.ensures.came had) in
    one_after cx one end (own_cell keeping 0) (λ o. letter_in o) (Some cell) shown (search rules) own then_on
