use Rattle.std.proofs.Common.{◌≡◌, ◌++◌, drop}
use Rattle.rt_model.specs.Commands.{readers}
use Rattle.run_records.specs.Records.{source_of}
use Rattle.run_state.specs.Mirror.{scopes_of}
use Rattle.run_state.proofs.Posts.{with_owed}
use Rattle.run_state.proofs.posting.add_readers.Given as goal

abbrev pub invariant-loop-entry : goal.invariant-loop-entry
invariant-loop-entry g l = record {
  same : l.owed ≡ with_owed l.initial.owed l.owed.posted;
  done : l.owed.posted ++ readers (source_of l.source) (scopes_of (drop l.entry-index l.scopes)) ≡ l.initial.owed.posted ++ readers (source_of l.source) (scopes_of l.scopes);
}
