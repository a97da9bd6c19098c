-- What the posters have posted is what the inbox ends with.
use Rattle.std.proofs.Common.{◌≡◌, ◌≤◌, refl, sym, subst}
use Rattle.std.specs.Prelude.{vec_capacity}
use Rattle.rt_session.proofs.Gathering.{all_taken, ends_each, ends_own, kept_all}
use Rattle.rt_session.proofs.meeting.end.Goals as goal

pub finish-requires-clause-owner : goal.finish-requires-clause-owner
finish-requires-clause-owner g c = c.requires.own

pub ends_of-ends-requires-clause-room : goal.ends_of-ends-requires-clause-room
ends_of-ends-requires-clause-room g c = subst (λ n. n ≤ vec_capacity c.args.room) (sym c.requires.posted.each) c.requires.room

pub finish-requires-clause-own : goal.finish-requires-clause-own
finish-requires-clause-own g c = rw c.ends_of-ends.ensures.ends (ends_own c.args.inbox c.args.posts.now c.args.posters.items c.requires.posted)

pub finish-requires-clause-all : goal.finish-requires-clause-all
finish-requires-clause-all g c = rw c.ends_of-ends.ensures.ends (ends_each c.args.inbox c.args.posts.now c.args.posters.items c.requires.posted)

pub returns-then-accepted : goal.returns-then-accepted
returns-then-accepted g c =
    record {
      taken =
          all_taken c.args.inbox c.args.posts.now c.args.posters.items c.args.owner c.in-Ok.taken c.requires.posted (rw (sym c.as_slice.ensures.value) (c.all_accepted-accepted.ensures.all c.if-accepted.true))
          c.in-Ok.ensures.taken c.in-Ok.ensures.merged c.in-Ok.ensures.posters
          (kept_all _ _ _ c.ends_of-ends.ensures.ends c.in-Ok.ensures.accepted);
    }
