-- What is put is the text of a run with its messages, or a front of it.
use Rattle.std.proofs.Common.{rules, ◌≡◌, ◌≤◌, [], ◌∷◌, ◌++◌, Some, Err, length, map, inl, inr, ◌∙◌, ap, subst, sym}
use Rattle.std.specs.Prelude.{option_map}
use Rattle.rt_language.specs.Lines.{line, fault_text}
use Rattle.tree_edits.specs.Documents.{edit_of}
use Rattle.run_reports.specs.Seen.{fault_of, report_of}
use Rattle.lang_script.specs.Posted.{posted_of}
use Rattle.lang_syntax.specs.Mirror.{source_of}
use Rattle.show_words.specs.Outs.{stop_of}
use Rattle.show_posts.specs.Posting.{IsPostedFault, IsPostedText, lists_in, posted_text}
use Rattle.show_posts.proofs.Drained.{lists_count, lists_said, lists_short, posted_done, posted_ended}
use Rattle.show_posts.proofs.Postings.{cut_text}
use Rattle.show_posts.proofs.posted.run.Goals as goal
use Rattle.rt_session.specs.Posted.{drains_of, lists_of}

pub post_script-requires-clause-some : goal.post_script-requires-clause-some
post_script-requires-clause-some g c = λ lives outlive.
    let lists : lists_of c.in_ok-posts.posts ≡ lists_in (source_of c.args.described) = lists_said c.in_ok-posts.posts c.args.described (c.in_ok-posts.ensures.posts ∙ ap (λ ls. map (map posted_of) ls) c.as_slice.ensures.items) in
    subst (λ n. 1 ≤ n) (sym (lists_count c.in_ok-posts.posts (source_of c.args.described) lists)) c.requires.posters.some

pub post_script-requires-clause-few : goal.post_script-requires-clause-few
post_script-requires-clause-few g c = λ lives outlive.
    let lists : lists_of c.in_ok-posts.posts ≡ lists_in (source_of c.args.described) = lists_said c.in_ok-posts.posts c.args.described (c.in_ok-posts.ensures.posts ∙ ap (λ ls. map (map posted_of) ls) c.as_slice.ensures.items) in
    subst (λ n. n ≤ 1000) (sym (lists_count c.in_ok-posts.posts (source_of c.args.described) lists)) c.requires.posters.few

pub post_script-requires-clause-short : goal.post_script-requires-clause-short
post_script-requires-clause-short g c = λ lives outlive.
    let lists : lists_of c.in_ok-posts.posts ≡ lists_in (source_of c.args.described) = lists_said c.in_ok-posts.posts c.args.described (c.in_ok-posts.ensures.posts ∙ ap (λ ls. map (map posted_of) ls) c.as_slice.ensures.items) in
    lists_short c.in_ok-posts.posts (source_of c.args.described) lists c.requires.posters

pub returns-in-Ok : goal.returns-in-Ok
returns-in-Ok g c =
    let lists : lists_of c.in_ok-posts.posts ≡ lists_in (source_of c.args.described) = lists_said c.in_ok-posts.posts c.args.described (c.in_ok-posts.ensures.posts ∙ ap (λ ls. map (map posted_of) ls) c.as_slice.ensures.items) in
    let run : IsPostedText (source_of c.args.described) (posted_text (map edit_of c.edits.result.now) (map report_of c.as_slice-in-Ok.result.now) (drains_of c.as_slice-in-Ok-2.result.now)) =
    posted_done c.sources_keep_memos.ensures (source_of c.args.described) c.in_ok-posts.posts _ _ c.edits.result.now c.in-Ok.field-0.reports c.as_slice-in-Ok.result.now c.in-Ok.field-0.drains c.as_slice-in-Ok-2.result.now
    c.in-Ok.field-0.inbox c.default_list-sink.ensures.taken c.edits.ensures.taken c.as_slice-in-Ok.ensures.items c.as_slice-in-Ok-2.ensures.items lists
    (c.in-Ok.ensures.headline (source_of c.args.described) _ c.in_ok-script.ensures.made) c.in-Ok.ensures.took_all in
    record {
      posts = record {
        text = posted_text (map edit_of c.edits.result.now) (map report_of c.as_slice-in-Ok.result.now) (drains_of c.as_slice-in-Ok-2.result.now);
        run = run;
        written = c.in_ok-put_posted-in-Ok.ensures.writes.ok;
      };
    }

pub returns-in_err-put_posted-in-Ok : goal.returns-in_err-put_posted-in-Ok
returns-in_err-put_posted-in-Ok g c =
    let stopped : c.from_residual-in_err-put_posted-in-Ok.result ≡ Err (stop_of c.in_err-put_posted-in-Ok.field-0.0) = search rules in
    let lists : lists_of c.in_ok-posts.posts ≡ lists_in (source_of c.args.described) = lists_said c.in_ok-posts.posts c.args.described (c.in_ok-posts.ensures.posts ∙ ap (λ ls. map (map posted_of) ls) c.as_slice.ensures.items) in
    let run : IsPostedText (source_of c.args.described) (posted_text (map edit_of c.edits.result.now) (map report_of c.as_slice-in-Ok.result.now) (drains_of c.as_slice-in-Ok-2.result.now)) =
    posted_done c.sources_keep_memos.ensures (source_of c.args.described) c.in_ok-posts.posts _ _ c.edits.result.now c.in-Ok.field-0.reports c.as_slice-in-Ok.result.now c.in-Ok.field-0.drains c.as_slice-in-Ok-2.result.now
    c.in-Ok.field-0.inbox c.default_list-sink.ensures.taken c.edits.ensures.taken c.as_slice-in-Ok.ensures.items c.as_slice-in-Ok-2.ensures.items lists
    (c.in-Ok.ensures.headline (source_of c.args.described) _ c.in_ok-script.ensures.made) c.in-Ok.ensures.took_all in
    record { posts = rw stopped (cut_text (source_of c.args.described) _ _ _ _ _ c.in_err-put_posted-in-Ok.field-0.0 (inl run) c.in_err-put_posted-in-Ok.ensures.writes) }

pub returns-in_err-put_ended_posted-in-Err : goal.returns-in_err-put_ended_posted-in-Err
returns-in_err-put_ended_posted-in-Err g c =
    let stopped : c.from_residual-in_err-put_ended_posted-in-Err.result ≡ Err (stop_of c.in_err-put_ended_posted-in-Err.field-0.0) = search rules in
    let lists : lists_of c.in_ok-posts.posts ≡ lists_in (source_of c.args.described) = lists_said c.in_ok-posts.posts c.args.described (c.in_ok-posts.ensures.posts ∙ ap (λ ls. map (map posted_of) ls) c.as_slice.ensures.items) in
    let same : c.as_slice-in-Err-3.result.now ≡ c.in-Some.last = search rules in
    let names : Some c.as_slice-in-Err-3.result.now ≡ option_map (λ f. line (fault_text f)) (fault_of c.in-Err.field-0.fault) = cc (same, c.in-Some.is, c.in_ok-last-in-Err.ensures.line) in
    let run : IsPostedFault (source_of c.args.described) (posted_text (map edit_of c.edits-in-Err.result.now) (map report_of c.as_slice-in-Err.result.now) (drains_of c.as_slice-in-Err-2.result.now) ++ c.as_slice-in-Err-3.result.now ∷ []) =
    posted_ended (source_of c.args.described) c.in_ok-posts.posts _ _ c.edits-in-Err.result.now c.in-Err.field-0.reports c.as_slice-in-Err.result.now c.in-Err.field-0.drains c.as_slice-in-Err-2.result.now
    c.in-Err.field-0.fault c.as_slice-in-Err-3.result.now c.default_list-sink.ensures.taken c.edits-in-Err.ensures.taken c.as_slice-in-Err.ensures.items c.as_slice-in-Err-2.ensures.items lists
    (c.in-Err.ensures.came_to (source_of c.args.described) _ c.in_ok-script.ensures.made) c.in-Err.ensures.took_fronts (c.in-Err.ensures.completes (source_of c.args.described) _ c.in_ok-script.ensures.made) names in
    record { posts = rw stopped (cut_text (source_of c.args.described) _ _ _ _ _ c.in_err-put_ended_posted-in-Err.field-0.0 (inr run) c.in_err-put_ended_posted-in-Err.ensures.writes) }

pub returns : goal.returns
returns g c =
    let lists : lists_of c.in_ok-posts.posts ≡ lists_in (source_of c.args.described) = lists_said c.in_ok-posts.posts c.args.described (c.in_ok-posts.ensures.posts ∙ ap (λ ls. map (map posted_of) ls) c.as_slice.ensures.items) in
    let same : c.as_slice-in-Err-3.result.now ≡ c.in-Some.last = search rules in
    let names : Some c.as_slice-in-Err-3.result.now ≡ option_map (λ f. line (fault_text f)) (fault_of c.in-Err.field-0.fault) = cc (same, c.in-Some.is, c.in_ok-last-in-Err.ensures.line) in
    let run : IsPostedFault (source_of c.args.described) (posted_text (map edit_of c.edits-in-Err.result.now) (map report_of c.as_slice-in-Err.result.now) (drains_of c.as_slice-in-Err-2.result.now) ++ c.as_slice-in-Err-3.result.now ∷ []) =
    posted_ended (source_of c.args.described) c.in_ok-posts.posts _ _ c.edits-in-Err.result.now c.in-Err.field-0.reports c.as_slice-in-Err.result.now c.in-Err.field-0.drains c.as_slice-in-Err-2.result.now
    c.in-Err.field-0.fault c.as_slice-in-Err-3.result.now c.default_list-sink.ensures.taken c.edits-in-Err.ensures.taken c.as_slice-in-Err.ensures.items c.as_slice-in-Err-2.ensures.items lists
    (c.in-Err.ensures.came_to (source_of c.args.described) _ c.in_ok-script.ensures.made) c.in-Err.ensures.took_fronts (c.in-Err.ensures.completes (source_of c.args.described) _ c.in_ok-script.ensures.made) names in
    record {
      posts = record {
        text = posted_text (map edit_of c.edits-in-Err.result.now) (map report_of c.as_slice-in-Err.result.now) (drains_of c.as_slice-in-Err-2.result.now) ++ c.as_slice-in-Err-3.result.now ∷ [];
        run = run;
        written = c.in_ok-put_ended_posted-in-Err.ensures.writes.ok;
      };
    }
