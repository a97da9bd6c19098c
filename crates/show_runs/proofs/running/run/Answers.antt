-- What is put is the text of a run, or a front of it.
use Rattle.std.proofs.Common.{rules, ◌≡◌, [], ◌∷◌, ◌++◌, Some, Err, map}
use Rattle.std.specs.Prelude.{option_map}
use Rattle.rt_language.specs.Lines.{line, fault_text}
use Rattle.tree_edits.specs.Documents.{edit_of}
use Rattle.run_reports.specs.Seen.{fault_of, report_of}
use Rattle.lang_syntax.specs.Mirror.{source_of}
use Rattle.show_words.specs.Asked.{alone}
use Rattle.show_words.specs.Kept.{KeepsMemos}
use Rattle.show_words.specs.Outs.{stop_of}
use Rattle.show_words.specs.Texts.{report_lines_from}
use Rattle.show_words.specs.Runs.{HasHeadline, IsRunText, IsFaultText}
use Rattle.show_words.specs.declared.words.Wish.TheVariants.{Run}
use Rattle.show_words.proofs.Preparing.{cut_done, cut_ended}
use Rattle.show_runs.proofs.Runs.{headline_of, memos_shown, printed_of, printed_end, ended_by}
use Rattle.show_runs.proofs.running.run.Goals as goal

pub returns-in-Ok : goal.returns-in-Ok
returns-in-Ok g c =
    let held : HasHeadline c.args.limits (source_of c.args.described) (Some (map edit_of c.lines.ensures.lines.edits)) (map report_of c.as_slice.result.now) =
    headline_of c.args.limits (source_of c.args.described) _ _ c.lines.ensures.lines.edits c.in-Ok.reports c.as_slice.result.now
    c.new-sink.ensures.taken c.lines.ensures.lines.tells (search rules) (c.in-Ok.ensures.headline (source_of c.args.described) c.in_ok-script.ensures.made) in
    let kept : KeepsMemos c.args.limits (source_of c.args.described) (map report_of c.as_slice.result.now) =
    memos_shown c.args.limits (source_of c.args.described) c.in-Ok.reports c.as_slice.result.now (search rules)
    (c.in-Ok.ensures.memos (source_of c.args.described) c.in_ok-script.ensures.made) in
    let run : IsRunText c.args.limits (source_of c.args.described) (c.lines.result.now ++ report_lines_from 0 c.as_slice.result.now) =
    printed_of c.args.limits (source_of c.args.described) c.lines.ensures.lines.edits c.lines.result.now c.as_slice.result.now
    c.lines.ensures.lines.printed held kept in
    record { prints = record { text = c.lines.result.now ++ report_lines_from 0 c.as_slice.result.now; run = run; written = c.in_ok-put_printed-in-Ok.ensures.writes.ok } }

pub returns-in_err-put_printed-in-Ok : goal.returns-in_err-put_printed-in-Ok
returns-in_err-put_printed-in-Ok g c =
    let stopped : c.from_residual-in_err-put_printed-in-Ok.result ≡ Err (stop_of c.in_err-put_printed-in-Ok.field-0.0) = search rules in
    let held : HasHeadline c.args.limits (source_of c.args.described) (Some (map edit_of c.lines.ensures.lines.edits)) (map report_of c.as_slice.result.now) =
    headline_of c.args.limits (source_of c.args.described) _ _ c.lines.ensures.lines.edits c.in-Ok.reports c.as_slice.result.now
    c.new-sink.ensures.taken c.lines.ensures.lines.tells (search rules) (c.in-Ok.ensures.headline (source_of c.args.described) c.in_ok-script.ensures.made) in
    let kept : KeepsMemos c.args.limits (source_of c.args.described) (map report_of c.as_slice.result.now) =
    memos_shown c.args.limits (source_of c.args.described) c.in-Ok.reports c.as_slice.result.now (search rules)
    (c.in-Ok.ensures.memos (source_of c.args.described) c.in_ok-script.ensures.made) in
    let run : IsRunText c.args.limits (source_of c.args.described) (c.lines.result.now ++ report_lines_from 0 c.as_slice.result.now) =
    printed_of c.args.limits (source_of c.args.described) c.lines.ensures.lines.edits c.lines.result.now c.as_slice.result.now
    c.lines.ensures.lines.printed held kept in
    record { prints = rw stopped (cut_done (Run c.args.limits) (alone (source_of c.args.described)) _ _ _ _ _ c.in_err-put_printed-in-Ok.field-0.0 run c.in_err-put_printed-in-Ok.ensures.writes) }

pub returns-in_err-put_ended_printed-in-Err : goal.returns-in_err-put_ended_printed-in-Err
returns-in_err-put_ended_printed-in-Err g c =
    let stopped : c.from_residual-in_err-put_ended_printed-in-Err.result ≡ Err (stop_of c.in_err-put_ended_printed-in-Err.field-0.0) = search rules in
    let same : c.as_slice-in-Err-2.result.now ≡ c.in-Some.last = search rules in
    let names : Some c.as_slice-in-Err-2.result.now ≡ option_map (λ f. line (fault_text f)) (fault_of c.in-Err.field-0.fault) = cc (same, c.in-Some.is, c.in_ok-last-in-Err.ensures.line) in
    let run : IsFaultText c.args.limits (source_of c.args.described) ((c.lines-in-Err.result.now ++ report_lines_from 0 c.as_slice-in-Err.result.now) ++ c.as_slice-in-Err-2.result.now ∷ []) =
    printed_end c.args.limits (source_of c.args.described) c.lines-in-Err.ensures.lines.edits c.lines-in-Err.result.now c.as_slice-in-Err.result.now c.as_slice-in-Err-2.result.now c.lines-in-Err.ensures.lines.printed
    (ended_by c.args.limits (source_of c.args.described) _ _ c.lines-in-Err.ensures.lines.edits c.in-Err.field-0 c.as_slice-in-Err.result.now c.as_slice-in-Err-2.result.now
    c.new-sink.ensures.taken c.lines-in-Err.ensures.lines.tells (search rules)
    (c.in-Err.ensures.came_to (source_of c.args.described) c.in_ok-script.ensures.made) names) in
    record { prints = rw stopped (cut_ended (Run c.args.limits) (alone (source_of c.args.described)) _ _ _ _ _ c.in_err-put_ended_printed-in-Err.field-0.0 run c.in_err-put_ended_printed-in-Err.ensures.writes) }

pub returns : goal.returns
returns g c =
    let same : c.as_slice-in-Err-2.result.now ≡ c.in-Some.last = search rules in
    let names : Some c.as_slice-in-Err-2.result.now ≡ option_map (λ f. line (fault_text f)) (fault_of c.in-Err.field-0.fault) = cc (same, c.in-Some.is, c.in_ok-last-in-Err.ensures.line) in
    let run : IsFaultText c.args.limits (source_of c.args.described) ((c.lines-in-Err.result.now ++ report_lines_from 0 c.as_slice-in-Err.result.now) ++ c.as_slice-in-Err-2.result.now ∷ []) =
    printed_end c.args.limits (source_of c.args.described) c.lines-in-Err.ensures.lines.edits c.lines-in-Err.result.now c.as_slice-in-Err.result.now c.as_slice-in-Err-2.result.now c.lines-in-Err.ensures.lines.printed
    (ended_by c.args.limits (source_of c.args.described) _ _ c.lines-in-Err.ensures.lines.edits c.in-Err.field-0 c.as_slice-in-Err.result.now c.as_slice-in-Err-2.result.now
    c.new-sink.ensures.taken c.lines-in-Err.ensures.lines.tells (search rules)
    (c.in-Err.ensures.came_to (source_of c.args.described) c.in_ok-script.ensures.made) names) in
    record {
      prints = record {
        text = (c.lines-in-Err.result.now ++ report_lines_from 0 c.as_slice-in-Err.result.now) ++ c.as_slice-in-Err-2.result.now ∷ [];
        run = run;
        written = c.in_ok-put_ended_printed-in-Err.ensures.writes.ok;
      };
    }
