-- The first cell is read, and then the second one unless it isn't asked for.
use Rattle.std.proofs.Common.{rules, ◌≡◌, ◌∙◌, ap, sym}
use Rattle.std.specs.Prelude.{Bool}
use Rattle.rt_author.proofs.Rules.{one_after}
use Rattle.rt_author.specs.Words.{Comes, call_of, came, world_of}
use Rattle.examples_derived.specs.Values.{is_zero}
use Rattle.examples_derived.specs.Meaning.{value_in, value_unless}
use Rattle.examples_derived.proofs.derived.chosen.Goals as goal

pub returns-clause-came : goal.returns-clause-came
returns-clause-came c =
    let cx = c.args.cx.now in
    let one = c.value_in.new.cx in
    let two = c.value_unless.new.cx in
    let second = c.args.second in
    let value = c.in_ok-value.value in
    let off = c.is_zero-off.result in
    let answer = c.in_ok-value_unless.field-0 in
    let is : is_zero value ≡ off = sym c.is_zero-off.ensures.is_zero in
    let read : Comes cx one (value_in c.args.first) value = c.in_ok-value.ensures.came in
    let then_on : Comes one two (value_unless off second) answer = c.in_ok-value_unless.ensures.came in
    one_after cx one two (value_in c.args.first) (λ v. value_unless (is_zero v) second) value answer (search rules) read
    (ap (λ (b : Bool). came (world_of one.world) (value_unless b second) (call_of one)) is ∙ then_on)
