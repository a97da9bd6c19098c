-- The verdict is that for the source.
use Rattle.std.proofs.Common.{rules, ◌≡◌}
use Rattle.lang_syntax.specs.Mirror.{source_of}
use Rattle.show_audits.proofs.Judged.{judged_of}
use Rattle.show_audits.proofs.recorded.judged.Goals as goal

pub returns : goal.returns
returns c =
    let given : c.as_slice.result.now ≡ c.args.run.log = search rules in
    record { verdict = judged_of (source_of c.args.run.source) c.args.run.log c.as_slice.result.now _ _ _ c.audit.result given c.in_ok-script.ensures.made c.audit.ensures.verdict }
