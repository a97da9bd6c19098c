-- How the meeting ends, by what its parts come to.
use Rattle.std.proofs.Common.{List, sym, subst}
use Rattle.std.proofs.lemmas.Result.{err_from_is_err_and}
use Rattle.rt_inbox.specs.Posted.{AllReady}
use Rattle.rt_inbox.specs.declared.posters.Poster.{Poster}
use Rattle.rt_session.proofs.Failing.{failed, failed_first, failed_wanting}
use Rattle.rt_session.proofs.Gathering.{have_posted_in}
use Rattle.rt_session.proofs.Holding.{left_at_end, met, nothing_yet}
use Rattle.rt_session.proofs.Owning.{owned_own, owned_taken, owned_takes}
use Rattle.rt_session.proofs.meeting.meet.Goals as goal

pub beside-ended-requires-clause-own : goal.beside-ended-requires-clause-own
beside-ended-requires-clause-own g c = λ lifetimes bounds. (c.in_ok-inbox.ensures.convened).own

pub beside-ended-requires-clause-ready : goal.beside-ended-requires-clause-ready
beside-ended-requires-clause-ready g c = λ lifetimes bounds.
    subst (λ (ps : List Poster). AllReady c.in_ok-inbox.inbox ps) (sym c.as_mut_slice-all.ensures.value) ((c.in_ok-inbox.ensures.convened).made).ready

pub end-requires-clause-own : goal.end-requires-clause-own
end-requires-clause-own g c = owned_own _ _ _ _ _ _ _ _ _ _ _ _ c.beside-ended.ensures.owns

pub end-requires-clause-posted : goal.end-requires-clause-posted
end-requires-clause-posted g c =
    have_posted_in c.in_ok-inbox.inbox c.args.posts.now c.in_ok-inbox.posters c.as_mut_slice-all.result.now c.beside-ended.new.posters (c.in_ok-inbox.ensures.convened).made
    c.as_mut_slice-all.ensures.value c.as_mut_slice-all.ensures.len c.beside-ended.ensures.posted

pub end-requires-clause-empty : goal.end-requires-clause-empty
end-requires-clause-empty g c = (c.in_ok-inbox.ensures.convened).empty

pub end-requires-clause-room : goal.end-requires-clause-room
end-requires-clause-room g c = (c.in_ok-inbox.ensures.convened).spare

pub returns-in_err-inbox : goal.returns-in_err-inbox
returns-in_err-inbox g c =
    record {
      meets = λ props unbuilt.
          let p = err_from_is_err_and c.from_residual.result c.from_residual.ensures.1 in
          rw (p.1, p.2)
          (failed_first (g.A.App.meaning c.args.app.now) c.args.limits props c.args.posts.now (g.M.WriteMutations.taken c.args.sink.now) (g.M.WriteMutations.faults c.args.sink.now)
          c.args.sitting.now.drains c.args.sitting.now.reports unbuilt.drains unbuilt.reports);
    }

pub returns-in_err-taken : goal.returns-in_err-taken
returns-in_err-taken g c =
    record {
      meets = λ props unbuilt.
          let p = err_from_is_err_and c.from_residual-in_err-taken.result c.from_residual-in_err-taken.ensures.1 in
          rw (p.1, p.2)
          (failed_wanting (g.A.App.meaning c.args.app.now) c.args.limits props c.args.posts.now _ _ _ _ c.beside-ended.new.sitting c.beside-ended.result
          (owned_takes _ _ _ _ _ _ _ _ _ _ _ _ c.beside-ended.ensures.owns props unbuilt));
    }

pub returns-in_err-ended : goal.returns-in_err-ended
returns-in_err-ended g c =
    record {
      meets = λ props unbuilt.
          let p = err_from_is_err_and c.from_residual-in_err-ended.result c.from_residual-in_err-ended.ensures.1 in
          let start = nothing_yet c.in_ok-inbox.owner c.args.sitting.now.drains (c.in_ok-inbox.ensures.convened).untouched unbuilt.drains in
          rw (p.1, p.2)
          (failed (g.A.App.meaning c.args.app.now) c.args.limits props c.args.posts.now _ _ _ _ c.beside-ended.new.sitting c.in_err-ended.field-0.0
          (owned_takes _ _ _ _ _ _ _ _ _ _ _ _ c.in_err-ended.ensures.owns props unbuilt)
          (left_at_end c.args.posts.now c.beside-ended.new.owner c.in_ok-taken.taken c.beside-ended.new.sitting.drains c.in_err-ended.field-0.0 c.in_ok-taken.ensures.taken
          (owned_taken _ _ _ _ _ _ _ _ _ _ _ _ c.in_err-ended.ensures.owns start)) c.requires.drain);
    }

pub returns : goal.returns
returns g c =
    record {
      meets = λ props unbuilt.
          let start = nothing_yet c.in_ok-inbox.owner c.args.sitting.now.drains (c.in_ok-inbox.ensures.convened).untouched unbuilt.drains in
          met (g.A.App.meaning c.args.app.now) c.args.limits props c.args.posts.now _ _ _ _ c.beside-ended.new.sitting c.beside-ended.new.owner c.in_ok-taken.taken c.in_ok-taken.ensures.taken
          (owned_taken _ _ _ _ _ _ _ _ _ _ _ _ c.in_ok-ended.ensures.owns start) (owned_takes _ _ _ _ _ _ _ _ _ _ _ _ c.in_ok-ended.ensures.owns props unbuilt);
    }
