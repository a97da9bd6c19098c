-- The names behind decide.
use Rattle.std.proofs.Common.{◌≡◌, drop}
use Rattle.lang_expressions.specs.Signatures.{signature_of, signature_from}
use Rattle.lang_expressions.proofs.signatures.signature_of.Given as goal

abbrev pub invariant-loop-at : goal.invariant-loop-at
invariant-loop-at l = signature_of l.signatures l.name ≡ signature_from l.at l.name (drop l.at l.signatures)
