-- What was posted so far is the front of the posts.
use Rattle.std.proofs.Common.{◌≡◌, take}
use Rattle.rt_inbox.specs.Ends.{IsNotifierOf, number_of, posts_of}
use Rattle.rt_inbox.proofs.posters.post_all.Given as goal

abbrev pub invariant-loop-what : goal.invariant-loop-what
invariant-loop-what g l = record {
  own : IsNotifierOf l.inbox l.notifier;
  number : number_of l.notifier ≡ number_of l.fn.notifier;
  posted : posts_of l.notifier ≡ take l.what-index l.posts;
}
