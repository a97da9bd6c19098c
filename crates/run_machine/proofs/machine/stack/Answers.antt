use Rattle.std.proofs.Common.{◌++◌, ◌∙◌, ap, sym}
use Rattle.std.proofs.lemmas.List.{append-nil}
use Rattle.std.specs.Prelude.{reverse}
use Rattle.run_machine.proofs.machine.stack.Goals as goal

pub returns-then-is_empty : goal.returns-then-is_empty
returns-then-is_empty g c =
    sym (ap (λ xs. c.args.onto.now ++ reverse xs) (c.is_empty.ensures.empty.0 c.if-is_empty.true) ∙ append-nil c.args.onto.now)
