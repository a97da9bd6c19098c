-- What is put is the text of a screen, or a front of it.
use Rattle.std.proofs.Common.{rules, ◌≡◌, [], ◌∷◌, ◌++◌, Some, Err, map}
use Rattle.std.specs.Prelude.{option_map}
use Rattle.rt_language.specs.Lines.{line, fault_text}
use Rattle.run_reports.specs.Seen.{fault_of, report_of, usual}
use Rattle.lang_syntax.specs.Mirror.{source_of}
use Rattle.show_words.specs.Asked.{alone}
use Rattle.show_words.specs.Kept.{KeepsMemos}
use Rattle.show_words.specs.Outs.{stop_of}
use Rattle.show_words.specs.Pictures.{screen_text}
use Rattle.show_words.specs.declared.words.Wish.TheVariants.{Screen}
use Rattle.show_words.proofs.Preparing.{cut_done, cut_ended}
use Rattle.show_runs.proofs.Runs.{memos_shown}
use Rattle.show_runs.proofs.Viewing.{views, screen_of, screen_ended}
use Rattle.show_runs.proofs.drawing.draw.Goals as goal

pub returns-in-Ok : goal.returns-in-Ok
returns-in-Ok g c =
    let held = views (source_of c.args.described) _ _ c.edits.result.now c.in-Ok.reports c.as_slice.result.now
    c.default_list-sink.ensures.taken c.edits.ensures.taken (search rules) (c.in-Ok.ensures.headline (source_of c.args.described) c.in_ok-script.ensures.made) in
    let kept : KeepsMemos usual (source_of c.args.described) (map report_of c.as_slice.result.now) =
    memos_shown usual (source_of c.args.described) c.in-Ok.reports c.as_slice.result.now (search rules)
    (c.in-Ok.ensures.memos (source_of c.args.described) c.in_ok-script.ensures.made) in
    record {
      prints = record {
        text = screen_text c.args.size held.0;
        run = screen_of c.args.size (source_of c.args.described) c.edits.result.now c.as_slice.result.now held.0 held.1 kept;
        written = (c.in_ok-put_screens-in-Ok.ensures.writes held.0 held.2).ok;
      };
    }

pub returns-in_err-put_screens-in-Ok : goal.returns-in_err-put_screens-in-Ok
returns-in_err-put_screens-in-Ok g c =
    let stopped : c.from_residual-in_err-put_screens-in-Ok.result ≡ Err (stop_of c.in_err-put_screens-in-Ok.field-0.0) = search rules in
    let held = views (source_of c.args.described) _ _ c.edits.result.now c.in-Ok.reports c.as_slice.result.now
    c.default_list-sink.ensures.taken c.edits.ensures.taken (search rules) (c.in-Ok.ensures.headline (source_of c.args.described) c.in_ok-script.ensures.made) in
    let kept : KeepsMemos usual (source_of c.args.described) (map report_of c.as_slice.result.now) =
    memos_shown usual (source_of c.args.described) c.in-Ok.reports c.as_slice.result.now (search rules)
    (c.in-Ok.ensures.memos (source_of c.args.described) c.in_ok-script.ensures.made) in
    record {
      prints = rw stopped (cut_done (Screen c.args.size) (alone (source_of c.args.described)) _ _ _ _ _ c.in_err-put_screens-in-Ok.field-0.0
          (screen_of c.args.size (source_of c.args.described) c.edits.result.now c.as_slice.result.now held.0 held.1 kept)
          (c.in_err-put_screens-in-Ok.ensures.writes held.0 held.2));
    }

pub returns-in_err-put_ended_screens-in-Err : goal.returns-in_err-put_ended_screens-in-Err
returns-in_err-put_ended_screens-in-Err g c =
    let stopped : c.from_residual-in_err-put_ended_screens-in-Err.result ≡ Err (stop_of c.in_err-put_ended_screens-in-Err.field-0.0) = search rules in
    let same : c.as_slice-in-Err-2.result.now ≡ c.in-Some.last = search rules in
    let names : Some c.as_slice-in-Err-2.result.now ≡ option_map (λ f. line (fault_text f)) (fault_of c.in-Err.field-0.fault) = cc (same, c.in-Some.is, c.in_ok-last-in-Err.ensures.line) in
    let ended = screen_ended c.args.size (source_of c.args.described) _ _ c.edits-in-Err.result.now c.in-Err.field-0 c.as_slice-in-Err.result.now c.as_slice-in-Err-2.result.now
    c.default_list-sink.ensures.taken c.edits-in-Err.ensures.taken (search rules)
    (c.in-Err.ensures.came_to (source_of c.args.described) c.in_ok-script.ensures.made) names in
    record {
      prints = rw stopped (cut_ended (Screen c.args.size) (alone (source_of c.args.described)) _ _ _ _ _ c.in_err-put_ended_screens-in-Err.field-0.0
          ended.run (c.in_err-put_ended_screens-in-Err.ensures.writes ended.seen ended.shows));
    }

pub returns : goal.returns
returns g c =
    let same : c.as_slice-in-Err-2.result.now ≡ c.in-Some.last = search rules in
    let names : Some c.as_slice-in-Err-2.result.now ≡ option_map (λ f. line (fault_text f)) (fault_of c.in-Err.field-0.fault) = cc (same, c.in-Some.is, c.in_ok-last-in-Err.ensures.line) in
    let ended = screen_ended c.args.size (source_of c.args.described) _ _ c.edits-in-Err.result.now c.in-Err.field-0 c.as_slice-in-Err.result.now c.as_slice-in-Err-2.result.now
    c.default_list-sink.ensures.taken c.edits-in-Err.ensures.taken (search rules)
    (c.in-Err.ensures.came_to (source_of c.args.described) c.in_ok-script.ensures.made) names in
    record {
      prints = record {
        text = screen_text c.args.size ended.seen ++ c.as_slice-in-Err-2.result.now ∷ [];
        run = ended.run;
        written = (c.in_ok-put_ended_screens-in-Err.ensures.writes ended.seen ended.shows).ok;
      };
    }
