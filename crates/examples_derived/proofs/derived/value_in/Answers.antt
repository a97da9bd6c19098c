-- The value is read; it is no words where the cell is gone.
use Rattle.std.proofs.Common.{rules, ◌∙◌, ap, sym}
use Rattle.rt_author.proofs.Rules.{at_done, one_after}
use Rattle.rt_author.specs.Signals.{get}
use Rattle.rt_author.specs.Words.{Comes, call_of, done, reached, world_of}
use Rattle.examples_derived.specs.declared.parts.Value.{Value}
use Rattle.examples_derived.specs.Values.{or_empty}
use Rattle.examples_derived.specs.Meaning.{DerivedTypes}
use Rattle.examples_derived.proofs.derived.value_in.Goals as goal

pub returns-clause-came : goal.returns-clause-came
returns-clause-came c =
    let cx = c.args.cx.now in
    let end = c.get.new.cx in
    let reading = get {K = DerivedTypes} c.args.cell in
    let read = c.in_ok-read.read in
    let value = c.in_ok-or_empty.field-0 in
    let got : Comes cx end reading read = search rules in
    one_after cx end end reading (λ o. done (or_empty o)) read value (search rules) got
    (at_done (world_of end.world) (or_empty read) (call_of end)
    ∙ ap (λ (v : Value). reached v (call_of end)) (sym c.in_ok-or_empty.ensures.value))
