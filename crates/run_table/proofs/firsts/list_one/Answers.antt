-- A number keeps the index that it has.
use Rattle.std.proofs.Common.{sym, ◌∙◌}
use Rattle.run_table.proofs.Listed.{kept-listed, more-listed}
use Rattle.run_table.proofs.firsts.list_one.Goals as goal

pub returns-then-contains_key : goal.returns-then-contains_key
returns-then-contains_key c = λ _ other. kept-listed c.args.firsts.now c.args.number c.args.index other (sym c.contains_key.ensures ∙ c.if-contains_key.true)

pub returns-in-Ok : goal.returns-in-Ok
returns-in-Ok c =
    λ _ other.
    more-listed c.args.firsts.now c.insert.new.self c.args.number c.args.index (sym c.contains_key.ensures ∙ c.if-contains_key.false) c.in-Ok.ensures.updates.0 other
