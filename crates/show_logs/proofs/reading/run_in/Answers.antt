use Rattle.std.proofs.Common.{rules, ◌≡◌, Some, None, refl}
use Rattle.serde_json.specs.View.{view}
use Rattle.lang_sources.specs.Whole.{source_in}
use Rattle.show_logs.specs.Recorded.{without_log}
use Rattle.show_logs.specs.Reading.{ReadsLog}
use Rattle.show_logs.proofs.Runs.{no_lists, no_source, gathered_reads}
use Rattle.show_logs.proofs.reading.run_in.Goals as goal

pub returns-in_default : goal.returns-in_default
returns-in_default c =
    let none : ReadsLog (view c.args.value) None = search rules in record { run = no_lists (view c.args.value) none }

pub returns-in_default-2 : goal.returns-in_default-2
returns-in_default-2 c =
    let is : None ≡ source_in (without_log (view c.args.value)) = search rules in record { run = no_source (view c.args.value) None is refl }

pub returns : goal.returns
returns c =
    let source : Some c.in-Some-2.source ≡ source_in (without_log (view c.args.value)) = search rules in
    record { run = gathered_reads (view c.args.value) c.in-Some-2.source c.in-Some.log c.gathered.result source (search rules) c.gathered.ensures.one_each }
