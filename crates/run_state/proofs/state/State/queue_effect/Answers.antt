use Rattle.run_records.specs.Kept.{each, scope_of}
use Rattle.std.proofs.Common.{ℕ, List, cond, true, ◌∙◌, ap, subst, sym}
use Rattle.std.specs.BTreeMap.{is_at}
use Rattle.rt_model.specs.State.{height_of}
use Rattle.run_state.specs.Effects.{AreListed, has_rank, rank_cmp}
use Rattle.run_state.specs.Mirror.{scopes_of}
use Rattle.run_state.proofs.Changed.{either_way, on_err, on_ok}
use Rattle.run_state.proofs.Listing.{listed_more}
use Rattle.run_state.proofs.Ranked.{rank_own}
use Rattle.run_state.proofs.state.State.queue_effect.Goals as goal

pub add_effect-requires : goal.add_effect-requires
add_effect-requires g c =
    let own = height_of (scopes_of (c.args.self.now.rows).table) c.args.scope in
    let was = has_rank c.args.self.now.effects own c.args.scope in
    record {
      listed = c.in_ok-insert.ensures.joined own c.args.scope
          ∙ ap (λ (h : ℕ). cond (is_at (rank_cmp (h, c.args.scope)) (own, c.args.scope)) true was) c.height_of-height.ensures
          ∙ ap (λ b. cond b true was) (rank_own own c.args.scope);
    }

pub invariant_of-self-clause-listed : goal.invariant_of-self-clause-listed
invariant_of-self-clause-listed g c =
    either_way c.insert.result
    (
    on_ok c.insert.result c.insert.ensures.joined
    (λ is. listed_more (each scope_of (c.args.self.now.rows).table) c.args.self.now.effects c.insert.new.self c.args.self.now.held c.args.scope c.height_of-height.result is c.args.self.now.listed)
    )
    (
    on_err c.insert.result c.insert.ensures.err
    (λ is. subst (λ (ns : List (ℕ × ℕ)). AreListed (each scope_of (c.args.self.now.rows).table) ns c.args.self.now.held) (sym is) c.args.self.now.listed)
    )

pub returns : goal.returns
returns g c = c.add_effect.ensures
