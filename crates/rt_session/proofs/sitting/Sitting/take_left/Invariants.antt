-- The drains and the piece hold the messages so far, and the piece is short.
use Rattle.std.proofs.Common.{◌≡◌, ℕ, ◌<◌, ◌++◌, List, length, take}
use Rattle.std.specs.Prelude.{Option}
use Rattle.rt_edits.specs.declared.edit.Edit.{Edit}
use Rattle.rt_model.specs.Lists.{joined}
use Rattle.rt_session.specs.Sittings.{Awaits}
use Rattle.rt_session.proofs.sitting.Sitting.take_left.Given as goal

abbrev pub invariant-loop-message : goal.invariant-loop-message
invariant-loop-message g l = record {
  awaits :
      (props : g.row.A-Props.Denot) (before : Option (List Edit)) (faults : ℕ)
      → Awaits (g.A.App.meaning l.app) l.fn.limits props before faults (g.M.WriteMutations.taken l.fn.sink) (g.M.WriteMutations.faults l.fn.sink) l.fn.self
      → Awaits (g.A.App.meaning l.app) l.fn.limits props before faults (g.M.WriteMutations.taken l.sink) (g.M.WriteMutations.faults l.sink) l.self;
  kept : joined l.self.drains ++ l.piece ≡ joined l.fn.self.drains ++ take l.message-index l.left;
  short : length l.piece < l.fn.limits.drain;
}
