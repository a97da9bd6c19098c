-- The copies so far, and the keys behind them.
use Rattle.std.proofs.Common.{◌≡◌, ◌++◌, map}
use Rattle.lang_expressions.specs.Names.{texts_of}
use Rattle.lang_expressions.proofs.kinds.copies_of.Given as goal

abbrev pub invariant-loop-key : goal.invariant-loop-key
invariant-loop-key l = l.copies.items ++ map (λ t. t.now) l.key-iterator ≡ texts_of l.keys
