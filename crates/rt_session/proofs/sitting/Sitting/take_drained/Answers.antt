-- A drain holds its messages, and nothing is taken in where there are none.
use Rattle.std.proofs.Common.{refl}
use Rattle.rt_session.proofs.Keeping.{keeps_messages, keeps_none, some_items}
use Rattle.rt_session.proofs.sitting.Sitting.take_drained.Goals as goal

pub take-requires-clause-some : goal.take-requires-clause-some
take-requires-clause-some g c = some_items c.args.messages c.if-is_empty.ensures.empty.1

pub returns-then-is_empty-clause-takes : goal.returns-then-is_empty-clause-takes
returns-then-is_empty-clause-takes g c = λ props before faults awaits. awaits

pub returns-then-is_empty-clause-keeps : goal.returns-then-is_empty-clause-keeps
returns-then-is_empty-clause-keeps g c = keeps_none c.args.self.now.drains c.args.self.now.drains c.args.messages (c.if-is_empty.ensures.empty.0 refl) refl

pub returns-clause-takes : goal.returns-clause-takes
returns-clause-takes g c = c.take.ensures.takes

pub returns-clause-keeps : goal.returns-clause-keeps
returns-clause-keeps g c = keeps_messages c.args.self.now.drains c.take.new.self.drains c.args.messages c.take.result c.take.ensures.keeps
