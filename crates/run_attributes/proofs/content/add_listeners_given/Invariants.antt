-- What is gathered so far, with what is left, is what the whole gives.
use Rattle.std.proofs.Common.{◌≡◌, drop}
use Rattle.run_attributes.specs.Content.{with_listeners_given}
use Rattle.run_attributes.proofs.content.add_listeners_given.Given as goal

abbrev pub invariant-loop-attribute : goal.invariant-loop-attribute
invariant-loop-attribute g l = with_listeners_given l.all (drop l.attribute-index l.given) ≡ with_listeners_given l.fn.all l.given
