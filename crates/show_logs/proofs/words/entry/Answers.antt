use Rattle.std.proofs.Common.{rules, ◌≡◌, Some, None}
use Rattle.serde_json.specs.Find.{as_str}
use Rattle.serde_json.specs.View.{view}
use Rattle.show_logs.proofs.Named.{text_reads, no_text}
use Rattle.show_logs.proofs.words.entry.Goals as goal

pub returns-in-Some : goal.returns-in-Some
returns-in-Some c =
    let text : as_str (view c.args.value.now) ≡ Some c.in-Some.word.now = search rules in
    record { entry = text_reads (view c.args.value.now) c.in-Some.word.now c.entry_in.result text c.entry_in.ensures.entry }

pub returns-in-None : goal.returns-in-None
returns-in-None c =
    let none : as_str (view c.args.value.now) ≡ None = search rules in
    record { entry = no_text (view c.args.value.now) none }
