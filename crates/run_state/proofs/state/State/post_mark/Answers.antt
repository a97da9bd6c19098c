use Rattle.std.proofs.Common.{◌∙◌, sym, ap}
use Rattle.run_owed.specs.Owing.{Owing}
use Rattle.run_state.specs.Mirror.{state_of}
use Rattle.run_state.proofs.Entered.{scope_entered}
use Rattle.run_state.proofs.Posts.{posted_mark, no_mark, with_all}
use Rattle.run_state.proofs.state.State.post_mark.Goals as goal

pub returns-then-not-is_live-clause-posted : goal.returns-then-not-is_live-clause-posted
returns-then-not-is_live-clause-posted g c = λ kept. no_mark (state_of kept c.args.self.now) c.args.scope (sym (c.is_live.ensures kept) ∙ c.if-not-is_live.true)

pub post_mark-requires : goal.post_mark-requires
post_mark-requires g c = record { entered = scope_entered c.args.self.now c.args.scope (λ kept. sym (c.is_live.ensures kept) ∙ c.if-not-is_live.false) }

pub returns-clause-posted : goal.returns-clause-posted
returns-clause-posted g c = λ kept.
    let w = state_of kept c.args.self.now in
    posted_mark w (with_all w c.post_mark.new.self) c.args.scope (sym (c.is_live.ensures kept) ∙ c.if-not-is_live.false)
    (ap (λ o. with_all w o) c.post_mark.ensures.posted)

pub invariant_of-self-clause-entered : goal.invariant_of-self-clause-entered
invariant_of-self-clause-entered g c = c.args.self.now.entered ∙ sym (ap (λ (o : Owing). o.scopes) c.post_mark.ensures.posted)

pub invariant_of-self-clause-known : goal.invariant_of-self-clause-known
invariant_of-self-clause-known g c = c.args.self.now.known ∙ sym (ap (λ (o : Owing). o.tasks) c.post_mark.ensures.posted)
