use Rattle.std.proofs.Common.{ℕ, List, true, cond, ◌∙◌, ap, subst, sym}
use Rattle.run_records.specs.Kept.{each, scope_of}
use Rattle.run_state.specs.Effects.{AreListed, has_rank}
use Rattle.run_state.proofs.Changed.{either_way, on_err, on_ok}
use Rattle.run_state.proofs.HeldPairs.{pair_more}
use Rattle.run_state.proofs.Ranked.{rank_own}
use Rattle.run_state.proofs.state.State.add_holder.Goals as goal

pub push_holder-requires : goal.push_holder-requires
push_holder-requires g c =
    record {
      paired = c.in_ok-insert.ensures.joined c.args.task c.args.boundary
          ∙ ap (λ b. cond b true (has_rank c.args.self.now.held c.args.task c.args.boundary)) (rank_own c.args.task c.args.boundary);
    }

pub invariant_of-self-clause-listed : goal.invariant_of-self-clause-listed
invariant_of-self-clause-listed g c =
    either_way c.insert.result
    (
    on_ok c.insert.result c.insert.ensures.joined
    (λ joins. pair_more (each scope_of (c.args.self.now.rows).table) c.args.self.now.effects c.args.self.now.held c.insert.new.self c.args.task c.args.boundary joins c.args.self.now.listed)
    )
    (
    on_err c.insert.result c.insert.ensures.err
    (λ is. subst (λ (ps : List (ℕ × ℕ)). AreListed (each scope_of (c.args.self.now.rows).table) c.args.self.now.effects ps) (sym is) c.args.self.now.listed)
    )

pub returns : goal.returns
returns g c = c.push_holder.ensures
