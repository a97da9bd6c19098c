-- What the program comes to, by what its parts come to.
use Rattle.std.proofs.Common.{rules, ◌≡◌, ◌∙◌, true, false, true≢false, Err, refl, sym}
use Rattle.lang_syntax.specs.Mirror.{source_of}
use Rattle.show_posts.specs.Posting.{HasPosters, asks_for_posters}
use Rattle.show_posts.proofs.Drained.{has_posters, none_there, some_there}
use Rattle.show_posts.proofs.Postings.{posts_none, posts_reading, posts_running}
use Rattle.show_posts.proofs.posted.shown.Goals as goal

pub run-requires-clause-posters : goal.run-requires-clause-posters
run-requires-clause-posters g c = λ lives outlive.
    has_posters (source_of c.in_ok-described.described) _ _ c.in_ok-described.ensures.described
    (some_there c.in_ok-described.described (λ none. true≢false (sym (c.if-is_empty.ensures.empty.1 none))))

pub returns-then-not-asks_for_posters : goal.returns-then-not-asks_for_posters
returns-then-not-asks_for_posters g c =
    let other : asks_for_posters c.args.words.now ≡ false = sym c.asks_for_posters.ensures.asks ∙ c.if-not-asks_for_posters.true in
    record {
      unasked = λ is. (refl, refl, refl, refl);
      posts = λ ask. absurd (cc (sym ask ∙ other));
    }

pub returns-in_err-described : goal.returns-in_err-described
returns-in_err-described g c =
    let asked : asks_for_posters c.args.words.now ≡ true = sym c.asks_for_posters.ensures.asks ∙ c.if-not-asks_for_posters.false in
    let stopped : c.from_residual.result ≡ Err c.in_err-described.field-0.0 = search rules in
    record {
      unasked = λ other. absurd (cc (sym asked ∙ other));
      posts = λ ask. rw stopped (posts_reading _ _ _ _ _ _ _ _ c.in_err-described.field-0.0 c.in_err-described.ensures.reads refl);
    }

pub returns-then-is_empty : goal.returns-then-is_empty
returns-then-is_empty g c =
    let asked : asks_for_posters c.args.words.now ≡ true = sym c.asks_for_posters.ensures.asks ∙ c.if-not-asks_for_posters.false in
    record {
      unasked = λ other. absurd (cc (sym asked ∙ other));
      posts = λ ask. posts_none (source_of c.in_ok-described.described) _ _ _ _ 0 0 0 0 c.in_ok-described.ensures.described
          (none_there c.in_ok-described.described (c.if-is_empty.ensures.empty.0 refl)) refl;
    }

pub returns : goal.returns
returns g c =
    let asked : asks_for_posters c.args.words.now ≡ true = sym c.asks_for_posters.ensures.asks ∙ c.if-not-asks_for_posters.false in
    let has : HasPosters (source_of c.in_ok-described.described) =
    has_posters (source_of c.in_ok-described.described) _ _ c.in_ok-described.ensures.described
    (some_there c.in_ok-described.described (λ none. true≢false (sym (c.if-is_empty.ensures.empty.1 none)))) in
    record {
      unasked = λ other. absurd (cc (sym asked ∙ other));
      posts = λ ask. posts_running (source_of c.in_ok-described.described) _ _ _ _ _ _ _ _ _ c.in_ok-described.ensures.described has c.run.ensures.posts;
    }
