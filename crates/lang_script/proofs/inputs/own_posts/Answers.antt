-- One more, and none.
use Rattle.std.proofs.Common.{rules, arith, refl, map, ◌≡◌, ◌∙◌, ap, sym}
use Rattle.run_reports.specs.Seen as reports
use Rattle.rt_language.specs.Meaning as meanings
use Rattle.lang_syntax.specs.Mirror as mirror
use Rattle.lang_script.specs.Posted.{posted_of}
use Rattle.lang_script.proofs.Taken.{taken-all}
use Rattle.lang_script.proofs.inputs.own_posts.Goals as goal

pub returns : goal.returns
returns c = record { posts = taken-all reports.post_of (map posted_of) c.args.posts.now c.loop-at.at _ _ (omega arith) refl c.loop-at.invariant }
