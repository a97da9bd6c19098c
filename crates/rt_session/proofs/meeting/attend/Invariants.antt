-- What was taken so far is what the drains so far hold, and the session goes on.
use Rattle.std.proofs.Common.{◌≡◌, ℕ, List}
use Rattle.std.specs.Prelude.{Option}
use Rattle.rt_edits.specs.declared.edit.Edit.{Edit}
use Rattle.rt_inbox.specs.Ends.{IsOwnerOf, taken_of}
use Rattle.rt_model.specs.Lists.{joined}
use Rattle.rt_session.specs.Sittings.{Awaits}
use Rattle.rt_session.proofs.meeting.attend.Given as goal

abbrev pub invariant-loop : goal.invariant-loop
invariant-loop g l = record {
  own : IsOwnerOf l.inbox l.owner;
  awaits :
      (props : g.row.A-Props.Denot) (before : Option (List Edit)) (faults : ℕ)
      → Awaits (g.A.App.meaning l.app) l.limits props before faults (g.M.WriteMutations.taken l.fn.sink) (g.M.WriteMutations.faults l.fn.sink) l.fn.sitting
      → Awaits (g.A.App.meaning l.app) l.limits props before faults (g.M.WriteMutations.taken l.sink) (g.M.WriteMutations.faults l.sink) l.sitting;
  taken : taken_of l.fn.owner ≡ joined l.fn.sitting.drains → taken_of l.owner ≡ joined l.sitting.drains;
}
