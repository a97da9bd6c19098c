-- The inbox's own ends and the lists make the posters.
use Rattle.std.proofs.Common.{◌≡◌, ◌≤◌, ◌∙◌, length, List, rules, sym, subst}
use Rattle.std.specs.List.{All}
use Rattle.rt_inbox.specs.declared.message.Post.{Post}
use Rattle.rt_inbox.specs.Ends.{posters_of}
use Rattle.rt_inbox.specs.declared.posters.Poster.{Poster}
use Rattle.rt_session.specs.Meetings.{AreFor}
use Rattle.rt_session.proofs.Gathering.{are_for}
use Rattle.rt_session.proofs.meeting.convene.Goals as goal

pub returns : goal.returns
returns c =
    record {
      convened =
          let count : posters_of c.in_ok-inbox.inbox ≡ length c.args.posts.now = search rules in
          let short : All (λ (list : List Post). length list ≤ 1000000) c.as_slice.result.now =
          subst (λ (ps : List (List Post)). All (λ (list : List Post). length list ≤ 1000000) ps) (sym c.as_slice.ensures.items) c.requires.short in
          record {
            own = c.in_ok-inbox.ensures.owner;
            untouched = c.in_ok-inbox.ensures.untouched.0;
            made =
                subst (λ (ps : List Poster). AreFor c.in_ok-inbox.inbox c.args.posts.now ps) (sym c.into_vec.ensures.items)
                (are_for c.in_ok-inbox.inbox c.args.posts.now c.in_ok-inbox.notifiers c.in_ok-posters.posters count c.in_ok-posters.ensures.notifiers (c.in_ok-posters.ensures.lists ∙ c.as_slice.ensures.items)
                (c.in_ok-posters.ensures.ready c.in_ok-inbox.inbox c.in_ok-inbox.ensures.notifiers c.in_ok-inbox.ensures.nothing_posted short) c.in_ok-inbox.ensures.numbers);
            empty = c.in_ok-room.ensures.items;
            spare = search rules;
          };
    }
