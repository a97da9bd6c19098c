-- Bytes that are no recorded run describe none.
use Rattle.std.proofs.Common.{rules, ◌≡◌, ℕ, List, Option, None, Err, subst, inr}
use Rattle.show_logs.specs.Runs.{ReadsBytes}
use Rattle.show_logs.specs.declared.reading.Run.{Run}
use Rattle.show_words.specs.Asked.{RecordsNone}
use Rattle.show_words.proofs.Reading.{for_any}
use Rattle.show_audits.proofs.recorded.read_recorded.Goals as goal

unsaid : (given bytes : List ℕ) (read : Option Run) → given ≡ bytes → read ≡ None → ReadsBytes given read → RecordsNone bytes
unsaid given bytes read same none h = subst (λ (b : List ℕ). RecordsNone b) same (subst (λ (r : Option Run). ReadsBytes given r) none h)

pub returns-in-Ok-None-clause-reads : goal.returns-in-Ok-None-clause-reads
returns-in-Ok-None-clause-reads g c = inr (record {
  bytes = c.in_ok-bytes.bytes;
  whole = search rules;
  none = unsaid c.as_slice.result.now c.in_ok-bytes.bytes c.in-Ok-None.field-0 (search rules) c.in-Ok-None.field-0-is c.in-Ok-None.ensures.described;
})

pub returns-in_err-bytes-clause-reads : goal.returns-in_err-bytes-clause-reads
returns-in_err-bytes-clause-reads g c =
    let stopped : c.from_residual.result ≡ Err c.in_err-bytes.field-0.0 = search rules in
    rw stopped (for_any RecordsNone (g.S.Source.left c.args.source.now) (g.S.Source.left c.bytes_of.new.source)
    (g.S.Source.faults c.args.source.now) (g.S.Source.faults c.bytes_of.new.source) c.in_err-bytes.field-0.0
    c.in_err-bytes.ensures.reads)
