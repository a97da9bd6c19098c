-- The texts that are left ascend from the last one as all do.
use Rattle.std.proofs.Common.{◌≡◌, drop}
use denote.Shadow.{shadow}
use denote.Text.{Utf8}
use Rattle.lang_expressions.specs.Ascending.{rises}
use Rattle.lang_expressions.proofs.context_keys.rises.Given as goal

abbrev pub invariant-loop-at : goal.invariant-loop-at
invariant-loop-at l = shadow (Utf8 l.last) × (rises l.last (drop l.at l.rest) ≡ rises l.first l.rest)
