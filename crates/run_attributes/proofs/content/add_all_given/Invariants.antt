-- What is gathered so far, with what is left, is what the whole gives.
use Rattle.std.proofs.Common.{◌≡◌, drop}
use Rattle.run_attributes.specs.Content.{attributes_of, with_all_given}
use Rattle.run_attributes.proofs.content.add_all_given.Given as goal

abbrev pub invariant-loop-attribute : goal.invariant-loop-attribute
invariant-loop-attribute g l =
    with_all_given (attributes_of l.all) (drop l.attribute-index l.given) ≡ with_all_given (attributes_of l.fn.all) l.given
