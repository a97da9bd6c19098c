-- What was read, or that nothing can be read.
use Rattle.std.proofs.Common.{rules}
use Rattle.serde_json.specs.Errors.{IsMemory}
use Rattle.serde_json.specs.View.{view}
use Rattle.show_logs.proofs.Runs.{bytes_read, not_json}
use Rattle.show_logs.proofs.reading.text.Goals as goal

pub returns-in-Ok : goal.returns-in-Ok
returns-in-Ok c = record {
  run = λ size. bytes_read c.args.bytes.now (view c.in-Ok.value) c.run_in.result size c.in-Ok.ensures.ok.0 c.in-Ok.ensures.ok.1 c.run_in.ensures.run;
}

pub returns-in-Err-2 : goal.returns-in-Err-2
returns-in-Err-2 c =
    let not_memory : ¬ IsMemory c.in-Err-2.field-0 = search rules in
    record { run = λ size. not_json c.args.bytes.now (c.in-Err-2.ensures.err not_memory) }
