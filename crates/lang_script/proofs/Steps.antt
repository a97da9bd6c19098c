-- A value that is no cell is not read.
use Rattle.std.proofs.Common.{◌≡◌, refl}
use Rattle.rt_model.specs.Program.{done}
use Rattle.rt_language.specs.Expressions.{read_from}
use Rattle.rt_language.specs.Values.{Value, NoValue, NumberValue, TextValue, CellValue, TaskValue}
use Rattle.lang_script.specs.Held.{IsNoCell}
use Rattle.author_programs.proofs.Steps.{at_done, at_read}

-- a value that is no cell is not read
pub unread : (v : Value) → IsNoCell v → read_from v ≡ done NoValue
unread NoValue h = refl
unread (NumberValue n) h = refl
unread (TextValue t) h = refl
unread (CellValue n) h = absurd h
unread (TaskValue t) h = refl

pub ruleset reading = (at_done, at_read, unread)
