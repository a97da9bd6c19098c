use Rattle.std.proofs.Common.{◌++◌, ◌∷◌, [], List, ◌∙◌, append_assoc, refl, sym, ap}
use Rattle.std.specs.Prelude.{if◌then◌else◌}
use Rattle.rt_model.specs.Commands.{holding}
use Rattle.rt_model.specs.State.{Mark, Posted}
use Rattle.run_owed.specs.Lists.{numbers_of}
use Rattle.run_state.specs.Effects.{holds_at}
use Rattle.run_state.specs.Mirror.{scopes_of}
use Rattle.run_state.proofs.HeldPairs.{held_posted, marks_of}
use Rattle.run_state.proofs.MetRanks.{fewer_numbers}
use Rattle.run_state.proofs.Posts.{append_none, owed_twice, with_owed}
use Rattle.run_state.proofs.holding.add_holding.Goals as goal

pub hold_each-requires : goal.hold_each-requires
hold_each-requires g c = let is = c.as_slice.ensures.rows in record { entered = rw is c.requires.entered }

pub returns-then-not-rises : goal.returns-then-not-rises
returns-then-not-rises g c =
    record {
      posted = c.hold_each.ensures.posted ∙ ap (λ es. with_owed c.args.owed.now (c.args.owed.now.posted ++ holding (scopes_of es) c.args.task)) c.as_slice.ensures.rows;
    }

pub loop-boundary-init : goal.loop-boundary-init
loop-boundary-init g c =
    record {
      same = refl;
      done = ap (λ ms. c.args.owed.now.posted ++ ms)
          (held_posted c.args.rows.now c.args.held.now c.args.task (c.rises.ensures.rises c.if-not-rises.false) c.numbers_of-left.result c.requires.paired c.numbers_of-left.ensures.ascending
          c.numbers_of-left.ensures.members);
    }

pub post_held-requires : goal.post_held-requires
post_held-requires g c = record { entered = c.requires.entered ∙ sym (ap (λ o. numbers_of o.scopes) c.loop-boundary.invariant.same) }

pub loop-boundary-smaller : goal.loop-boundary-smaller
loop-boundary-smaller g c = fewer_numbers c.loop-boundary.left c.next.new.self c.in-Some.boundary c.in-Some.ensures.next

pub loop-boundary-preserved : goal.loop-boundary-preserved
loop-boundary-preserved g c =
    let marks = marks_of (λ s. holds_at (scopes_of c.args.rows.now) s c.args.task) in
    let own : List Posted = if holds_at (scopes_of c.args.rows.now) c.in-Some.boundary c.args.task then Mark c.in-Some.boundary ∷ [] else [] in
    record {
      same = owed_twice c.args.owed.now c.loop-boundary.owed c.post_held.new.owed c.loop-boundary.owed.posted c.post_held.new.owed.posted c.loop-boundary.invariant.same
          (c.post_held.ensures.posted ∙ ap (λ ps. with_owed c.loop-boundary.owed ps) (sym (ap (λ o. o.posted) c.post_held.ensures.posted)));
      done = ap (λ ps. ps ++ marks c.next.new.self) (ap (λ o. o.posted) c.post_held.ensures.posted)
          ∙ append_assoc c.loop-boundary.owed.posted own (marks c.next.new.self)
          ∙ ap (λ ns. c.loop-boundary.owed.posted ++ marks ns) (sym c.in-Some.ensures.next)
          ∙ c.loop-boundary.invariant.done;
    }

pub returns : goal.returns
returns g c =
    let marks = marks_of (λ s. holds_at (scopes_of c.args.rows.now) s c.args.task) in
    record {
      posted = c.loop-boundary.invariant.same
          ∙ ap (λ ps. with_owed c.args.owed.now ps)
          (sym (append_none c.loop-boundary.owed.posted) ∙ ap (λ ns. c.loop-boundary.owed.posted ++ marks ns) (sym c.in_default.ensures.next) ∙ c.loop-boundary.invariant.done);
    }
