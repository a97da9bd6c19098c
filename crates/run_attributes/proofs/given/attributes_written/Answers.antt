-- Nothing is written where no slot gives anything, and else what the two passes write.
use Rattle.std.proofs.Common.{◌∙◌, ap, sym}
use Rattle.std.proofs.lemmas.Result.{IfOk-weaker}
use Rattle.run_places.specs.Places.{side_of}
use Rattle.run_places.specs.Trails.{place_on}
use Rattle.run_attributes.specs.Given.{edits_of}
use Rattle.run_attributes.proofs.Passes.{are_written, none_written}
use Rattle.run_attributes.proofs.given.attributes_written.Goals as goal

pub returns-then-is_empty-2 : goal.returns-then-is_empty-2
returns-then-is_empty-2 g c =
    ap (λ es. edits_of es) c.new.ensures.empty
    ∙ sym (none_written (side_of c.args.side.now).numbers (place_on c.args.above.now) c.args.new.now c.args.old.now (c.is_empty.ensures.empty.0 c.if-is_empty.true) (c.is_empty-then-is_empty.ensures.empty.0 c.if-is_empty-2.true))

pub returns : goal.returns
returns g c =
    IfOk-weaker c.passes_written.result _ _
    (λ edits is. are_written edits (side_of c.args.side.now).numbers (place_on c.args.above.now) c.args.new.now c.args.old.now is)
    c.passes_written.ensures
