-- What was read, or that nothing can be read.
use Rattle.std.proofs.Common.{rules, ◌≡◌, IfOk, sym, subst}
use Rattle.serde_json.specs.Errors.{IsMemory}
use Rattle.serde_json.specs.View.{view}
use Rattle.lang_inputs.proofs.Described.{text_of-read, text_of-refused}
use Rattle.lang_inputs.proofs.reading.text.Goals as goal

pub returns-in-Ok : goal.returns-in-Ok
returns-in-Ok c =
    let is = text_of-read c.args.bytes.now (view c.in-Ok.value) c.in-Ok.ensures.ok.0 c.in-Ok.ensures.ok.1 in
    record { text = subst (λ a. IfOk c.input.result (λ read. read ≡ a)) (sym is) c.input.ensures.input }

pub returns-in-Err-2 : goal.returns-in-Err-2
returns-in-Err-2 c =
    let not_memory : ¬ IsMemory c.in-Err-2.field-0 = search rules in
    record { text = sym (text_of-refused c.args.bytes.now (c.in-Err-2.ensures.err not_memory)) }
