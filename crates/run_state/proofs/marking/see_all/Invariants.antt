use Rattle.std.proofs.Common.{◌≡◌, drop}
use Rattle.run_owed.specs.Lists.{joins, numbers_of}
use Rattle.run_state.proofs.SeenAll.{with_owed_seen}
use Rattle.run_state.proofs.marking.see_all.Given as goal

abbrev pub invariant-loop-entry : goal.invariant-loop-entry
invariant-loop-entry g l = record {
  same : l.owed ≡ with_owed_seen l.initial.owed l.owed.seen;
  left : joins l.owed.seen (numbers_of (drop l.entry-index l.scopes)) ≡ joins l.initial.owed.seen (numbers_of l.scopes);
}
