-- What was taken, and what is left, are the whole.
use Rattle.std.proofs.Common.{◌≡◌, ◌++◌, map, drop}
use Rattle.run_reports.specs.Seen as reports
use Rattle.rt_language.specs.Meaning as meanings
use Rattle.lang_syntax.specs.Mirror as mirror
use Rattle.lang_script.specs.Posted.{posted_of}
use Rattle.lang_script.proofs.inputs.posts_of.Given as goal

abbrev pub invariant-loop-poster : goal.invariant-loop-poster
invariant-loop-poster l = map (map reports.post_of) l.posted ++ map (map posted_of) (drop l.poster-index l.posts) ≡ map (map posted_of) l.posts
