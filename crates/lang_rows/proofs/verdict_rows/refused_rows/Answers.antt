use Rattle.std.proofs.Common.{refl}
use Rattle.std.specs.Fmt.{digits}
use Rattle.rt_language.specs.Sequence.{go_on}
use Rattle.rt_language.specs.Expressions.{evaluate, evaluate_all}
use Rattle.rt_language.specs.Statements.{perform, run_statements}
use Rattle.rt_language.specs.Views.{fill, fill_slot}
use Rattle.lang_rows.proofs.verdict_rows.refused_rows.Goals as goal

pub returns-clause-early : goal.returns-clause-early
unfolding digits go_on evaluate evaluate_all perform run_statements fill fill_slot
returns-clause-early c = refl

pub returns-clause-late : goal.returns-clause-late
unfolding digits go_on evaluate evaluate_all perform run_statements fill fill_slot
returns-clause-late c = refl

pub returns-clause-short : goal.returns-clause-short
unfolding digits go_on evaluate evaluate_all perform run_statements fill fill_slot
returns-clause-short c = refl
