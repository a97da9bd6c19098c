-- One message more, and the last piece.
use Rattle.std.proofs.Common.{◌<◌, ◌++◌, List, length, ap, sym, subst, arith}
use Rattle.std.proofs.lemmas.List.{get_or_default}
use Rattle.std.proofs.lemmas.Result.{err_from_is_err_and}
use Rattle.rt_inbox.specs.declared.message.Msg.{Msg}
use Rattle.rt_model.specs.Lists.{joined}
use Rattle.rt_session.proofs.Keeping.{left_all, left_ended, left_more}
use Rattle.rt_session.proofs.sitting.Sitting.take_left.Goals as goal

pub add-requires : goal.add-requires
add-requires g c = record { short = c.loop-message.invariant.short }

pub take_drained-requires : goal.take_drained-requires
take_drained-requires g c = record { few = omega (arith, c.loop-message.invariant.short) }

pub loop-message-init : goal.loop-message-init
loop-message-init g c =
    record {
      awaits = λ props before faults awaits. awaits;
      kept = ap (λ (ms : List Msg). joined c.args.self.now.drains ++ ms) c.new-piece.ensures.empty;
      short = subst (λ (ms : List Msg). length ms < c.args.limits.drain) (sym c.new-piece.ensures.empty) (omega (arith, c.requires.drain));
    }

pub loop-message-preserved : goal.loop-message-preserved
loop-message-preserved g c =
    record {
      awaits = λ props before faults awaits. c.in_ok-add.ensures.takes props before faults (c.loop-message.invariant.awaits props before faults awaits);
      kept =
          left_more c.args.self.now.drains c.loop-message.self.drains c.add.new.self.drains c.loop-message.piece c.add.new.piece c.args.left.now c.loop-message.message-index _
          c.loop-message-test.true (get_or_default c.args.left.now c.loop-message.message-index _ _ c.loop-message-test.true) c.loop-message.invariant.kept c.in_ok-add.ensures.adds.0;
      short = c.in_ok-add.ensures.adds.1;
    }

pub returns-in_err-add-clause-keeps : goal.returns-in_err-add-clause-keeps
returns-in_err-add-clause-keeps g c =
    let p = err_from_is_err_and c.from_residual.result c.from_residual.ensures.1 in
    rw (p.1, p.2)
    (left_ended c.args.self.now.drains c.loop-message.self.drains c.add.new.self.drains c.loop-message.piece c.args.left.now c.loop-message.message-index _ c.in_err-add.field-0.0
    c.loop-message-test.true (get_or_default c.args.left.now c.loop-message.message-index _ _ c.loop-message-test.true) c.loop-message.invariant.kept c.in_err-add.ensures.adds)

pub returns-in_err-add-clause-takes : goal.returns-in_err-add-clause-takes
returns-in_err-add-clause-takes g c = λ props before faults awaits.
    let p = err_from_is_err_and c.from_residual.result c.from_residual.ensures.1 in
    rw (p.1, p.2) (c.in_err-add.ensures.takes props before faults (c.loop-message.invariant.awaits props before faults awaits))

pub returns-clause-takes : goal.returns-clause-takes
returns-clause-takes g c = λ props before faults awaits. c.take_drained.ensures.takes props before faults (c.loop-message.invariant.awaits props before faults awaits)

pub returns-clause-keeps : goal.returns-clause-keeps
returns-clause-keeps g c =
    left_all c.args.self.now.drains c.loop-message.self.drains c.take_drained.new.self.drains c.loop-message.piece c.args.left.now c.loop-message.message-index c.take_drained.result
    c.loop-message-test.false c.loop-message.invariant.kept c.take_drained.ensures.keeps
