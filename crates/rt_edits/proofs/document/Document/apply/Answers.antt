-- The laws of an edit that was made.
use Rattle.rt_edits.proofs.Numbered.{numbered}
use Rattle.rt_edits.proofs.Elsewhere.{elsewhere}
use Rattle.rt_edits.proofs.document.Document.apply.Goals as goal

pub returns-clause-numbered : goal.returns-clause-numbered
returns-clause-numbered c = numbered c.args.edit.now c.args.self.now c.make.new.self c.in_ok-make.ensures.ok

pub returns-clause-elsewhere : goal.returns-clause-elsewhere
returns-clause-elsewhere c = elsewhere c.args.edit.now c.args.self.now c.make.new.self c.in_ok-make.ensures.ok
