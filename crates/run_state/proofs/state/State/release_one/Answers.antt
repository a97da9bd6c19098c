-- The scope isn't held any more, and the pair is out.
use Rattle.std.proofs.Common.{◌<◌, ◌∙◌, length, sym, ap, subst}
use Rattle.rt_model.specs.Commands.{released}
use Rattle.run_owed.specs.Lists.{numbers_of}
use Rattle.run_state.specs.Effects.{has_rank, holds_at}
use Rattle.run_state.specs.Mirror.{at_first, scopes_of, state_of}
use Rattle.run_state.proofs.HeldPairs.{let_free, let_numbers, let_others, let_released, pair_gone}
use Rattle.run_state.proofs.Released.{scoped}
use Rattle.run_state.proofs.state.State.release_one.Goals as goal

pub returns-clause-done : goal.returns-clause-done
returns-clause-done g c =
    ap (λ w. released w.scopes c.args.task) (c.in_ok-let_off.ensures.off at_first) ∙ let_released (state_of at_first c.args.self.now) c.args.boundary c.args.task

pub returns-clause-numbers : goal.returns-clause-numbers
returns-clause-numbers g c =
    ap (λ w. numbers_of w.scopes) (c.in_ok-let_off.ensures.off at_first) ∙ let_numbers (state_of at_first c.args.self.now) c.args.boundary c.args.task

pub returns-clause-others : goal.returns-clause-others
returns-clause-others g c =
    λ kept.
    c.in_ok-let_off.ensures.off kept
    ∙ let_others (state_of kept c.args.self.now) c.args.boundary c.args.task
    ∙ ap (λ es. scoped (state_of kept c.args.self.now) es) (sym (ap (λ w. w.scopes) (c.in_ok-let_off.ensures.off kept)))

pub returns-clause-fewer : goal.returns-clause-fewer
returns-clause-fewer g c =
    subst (λ ps. length c.remove.new.self < length ps) c.let_off.ensures.held
    (c.remove.ensures.fewer (ap (λ ps. has_rank ps c.args.task c.args.boundary) c.let_off.ensures.held ∙ c.requires.paired))

pub invariant_of-self-clause-listed : goal.invariant_of-self-clause-listed
invariant_of-self-clause-listed g c =
    pair_gone (scopes_of (c.let_off.new.self.rows).table) c.let_off.new.self.effects c.let_off.new.self.held c.remove.new.self c.args.task c.args.boundary c.remove.ensures.left
    (ap (λ w. holds_at w.scopes c.args.boundary c.args.task) (c.in_ok-let_off.ensures.off at_first) ∙ let_free (state_of at_first c.args.self.now) c.args.boundary c.args.task)
    c.let_off.new.self.listed
