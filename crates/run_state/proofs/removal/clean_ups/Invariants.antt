use Rattle.std.proofs.Common.{◌≡◌, [], drop, map}
use Rattle.std.specs.Prelude.{reverse}
use Rattle.rt_model.specs.Removal.{clean_ups}
use Rattle.run_records.specs.Records.{hook_of}
use Rattle.run_state.proofs.removal.clean_ups.Given as goal

abbrev pub invariant-loop-hook : goal.invariant-loop-hook
invariant-loop-hook g l = clean_ups (map hook_of (drop l.hook-index l.hooks)) (reverse l.effects.items) ≡ clean_ups (map hook_of l.hooks) []
