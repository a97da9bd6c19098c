-- The effects so far, and those of the hooks that are left, are those of all hooks.
use Rattle.std.proofs.Common.{◌≡◌, ◌++◌, drop}
use Rattle.rt_scopes.specs.Hooks.{effects_in}
use Rattle.rt_scopes.proofs.effects.effects_of_kind.Given as goal

abbrev pub invariant-loop-hook : goal.invariant-loop-hook
invariant-loop-hook g l = l.effects ++ effects_in l.kind (drop l.hook-index l.hooks) ≡ effects_in l.kind l.hooks
