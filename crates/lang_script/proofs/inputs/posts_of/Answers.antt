-- One more, and none.
use Rattle.std.proofs.Common.{rules, arith, refl, map, ◌≡◌, ◌∙◌, ap, sym}
use Rattle.run_reports.specs.Seen as reports
use Rattle.rt_language.specs.Meaning as meanings
use Rattle.lang_syntax.specs.Mirror as mirror
use Rattle.lang_script.specs.Posted.{posted_of}
use Rattle.lang_script.proofs.Taken.{taken-more, taken-all}
use Rattle.lang_script.proofs.inputs.posts_of.Goals as goal

pub loop-poster-preserved : goal.loop-poster-preserved
loop-poster-preserved c =
    taken-more (map reports.post_of) (map (map posted_of)) c.args.posts.now c.loop-poster.poster-index c.poster-item.result _ c.push.new.self c.in_ok-own.own (map posted_of c.poster-item.result) _ (omega arith) c.poster-item.is refl
    (search rules) (search rules) c.loop-poster.invariant

pub returns : goal.returns
returns c = record { posts = taken-all (map reports.post_of) (map (map posted_of)) c.args.posts.now c.loop-poster.poster-index _ _ (omega arith) refl c.loop-poster.invariant }
