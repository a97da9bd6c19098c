use Rattle.std.proofs.Common.{refl}
use Rattle.std.specs.Fmt.{digits}
use Rattle.json.specs.Print.{escape_byte}
use Rattle.author_programs.specs.Sequence.{go_on}
use Rattle.rt_language.specs.Expressions.{evaluate, evaluate_all}
use Rattle.rt_language.specs.Formulas.{looks, all_look, plain_value, plain_values}
use Rattle.rt_language.specs.Statements.{perform, run_statements}
use Rattle.rt_language.specs.Views.{fill, fill_slot}
use Rattle.rt_language.proofs.memo_rows.memo_follows_what_it_looked_at.Goals as goal

pub returns : goal.returns
unfolding digits escape_byte go_on evaluate evaluate_all looks all_look plain_value plain_values perform run_statements fill fill_slot
returns c = refl
