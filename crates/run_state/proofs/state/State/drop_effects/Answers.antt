use Rattle.std.proofs.Common.{ℕ, ◌∙◌, ap, sym}
use Rattle.run_records.specs.Kept.{each, scope_of}
use Rattle.run_state.specs.Effects.{has_rank, queues_at}
use Rattle.run_state.specs.Mirror.{at_first, state_of}
use Rattle.run_state.proofs.Listing.{cleared_none, cleared_same, listed_less, unlisted_none}
use Rattle.run_state.proofs.state.State.drop_effects.Goals as goal

-- who isn't listed has none
pub returns-then-not-has : goal.returns-then-not-has
returns-then-not-has g c = λ kept.
    cleared_same (state_of kept c.args.self.now) c.args.scope
    (
    ap (λ (h : ℕ). queues_at (each scope_of (c.args.self.now.rows).table) c.args.scope h) (sym c.height_of-height.ensures)
    ∙ unlisted_none (each scope_of (c.args.self.now.rows).table) c.args.self.now.effects c.args.self.now.held c.args.scope c.height_of-height.result c.args.self.now.listed (sym c.has.ensures ∙ c.if-not-has.true)
    )

pub clear_effects-requires : goal.clear_effects-requires
clear_effects-requires g c =
    record { listed = ap (λ (h : ℕ). has_rank c.args.self.now.effects h c.args.scope) (sym c.height_of-height.ensures) ∙ sym c.has.ensures ∙ c.if-not-has.false }

pub invariant_of-self-clause-listed : goal.invariant_of-self-clause-listed
invariant_of-self-clause-listed g c =
    listed_less (each scope_of (c.clear_effects.new.self.rows).table) c.clear_effects.new.self.effects c.remove.new.self c.clear_effects.new.self.held c.args.scope c.height_of-height.result c.remove.ensures.left
    (
    ap (λ w. queues_at w.scopes c.args.scope c.height_of-height.result) (c.in_ok-clear_effects.ensures.cleared at_first)
    ∙ cleared_none (state_of at_first c.args.self.now) c.args.scope c.height_of-height.result
    )
    c.clear_effects.new.self.listed

pub returns : goal.returns
returns g c = c.in_ok-clear_effects.ensures.cleared
