-- The names behind decide.
use Rattle.std.proofs.Common.{◌≡◌, drop, map}
use Rattle.lang_expressions.specs.Keys.{is_one_of}
use Rattle.lang_expressions.proofs.keys.is_one_of.Given as goal

abbrev pub invariant-loop-name : goal.invariant-loop-name
invariant-loop-name l = is_one_of (map (λ name. name.now) l.known) l.key ≡ is_one_of (map (λ name. name.now) (drop l.name-index l.known)) l.key
