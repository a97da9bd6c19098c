-- What stands in the posts behind those that were accepted.
use Rattle.std.proofs.Common.{◌≡◌, ◌++◌, take, drop, ap, ◌∙◌, rules}
use Rattle.std.proofs.lemmas.List.{take-append-drop}
use Rattle.rt_inbox.specs.Ends.{posts_of}
use Rattle.rt_inbox.proofs.posters.post_all.Goals as goal

pub returns-then-is_err-clause-front : goal.returns-then-is_err-clause-front
returns-then-is_err-clause-front g c =
    let at = c.loop-what.what-index in
    let same : posts_of c.post-posted.new.self ≡ take at c.args.posts.now = search rules in
    (drop at c.args.posts.now, ap (λ ps. ps ++ drop at c.args.posts.now) same ∙ take-append-drop at c.args.posts.now)
