use Rattle.std.proofs.Common.{◌∙◌, sym, ap, refl}
use Rattle.run_owed.specs.Owing.{Owing}
use Rattle.run_state.specs.Mirror.{state_of}
use Rattle.run_state.proofs.Entered.{scope_entered}
use Rattle.run_state.proofs.Posts.{with_all}
use Rattle.run_state.proofs.Seen.{mark_seen, mark_passed}
use Rattle.run_state.proofs.state.State.mark_now.Goals as goal

pub returns-then-not-is_live-clause-marked : goal.returns-then-not-is_live-clause-marked
returns-then-not-is_live-clause-marked g c = λ kept. mark_passed (state_of kept c.args.self.now) c.args.scope (sym (c.is_live.ensures kept) ∙ c.if-not-is_live.true)

pub see-requires : goal.see-requires
see-requires g c = record { entered = scope_entered c.args.self.now c.args.scope (λ kept. sym (c.is_live.ensures kept) ∙ c.if-not-is_live.false) }

pub returns-clause-marked : goal.returns-clause-marked
returns-clause-marked g c = λ kept.
    ap (λ o. with_all (state_of kept c.args.self.now) o) c.see.ensures.seen
    ∙ mark_seen (state_of kept c.args.self.now) c.args.scope _ (sym (c.is_live.ensures kept) ∙ c.if-not-is_live.false) refl

pub invariant_of-self-clause-entered : goal.invariant_of-self-clause-entered
invariant_of-self-clause-entered g c = c.args.self.now.entered ∙ sym (ap (λ (o : Owing). o.scopes) c.see.ensures.seen)

pub invariant_of-self-clause-known : goal.invariant_of-self-clause-known
invariant_of-self-clause-known g c = c.args.self.now.known ∙ sym (ap (λ (o : Owing). o.tasks) c.see.ensures.seen)
