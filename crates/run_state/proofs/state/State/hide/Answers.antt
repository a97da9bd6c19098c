use Rattle.std.proofs.Common.{◌∙◌, ap, sym, take}
use Rattle.std.proofs.Math.Logic.{∥∥₁_map}
use Rattle.run_state.specs.Mirror.{at_first, scopes_of}
use Rattle.run_state.specs.Mounts.{way_in, ways_of}
use Rattle.run_state.proofs.Each.{live-each}
use Rattle.run_state.proofs.Fronts.{front_left}
use Rattle.run_state.proofs.Hidings.{one_forgotten, one_hides}
use Rattle.run_state.proofs.state.State.hide.Goals as goal

pub returns-then-not-is_live-clause-before : goal.returns-then-not-is_live-clause-before
returns-then-not-is_live-clause-before g c = ap (λ ns. take c.args.index ns) c.remove.ensures.others ∙ front_left c.args.self.now.fresh c.args.index

pub returns-clause-before : goal.returns-clause-before
returns-clause-before g c = ap (λ ns. take c.args.index ns) c.remove-gone.ensures.others ∙ front_left c.args.self.now.fresh c.args.index

-- one that is gone is forgotten
pub invariant_of-self : goal.invariant_of-self
invariant_of-self g c =
    record {
      entered = c.args.self.now.entered;
      known = c.args.self.now.known;
      waiting =
          ∥∥₁_map c.args.self.now.waiting
          (
          λ h.
          one_forgotten (ways_of (c.args.self.now.rows).table) c.args.self.now.fresh c.remove.new.self c.args.self.now.hidden c.args.self.now.next_scope c.args.scope c.args.index h
          (live-each way_in (scopes_of (c.args.self.now.rows).table) c.args.scope ∙ sym (c.is_live.ensures at_first) ∙ c.if-not-is_live.true) c.requires.own c.remove.ensures.others
          );
      placed = c.args.self.now.placed;
      readers = c.args.self.now.readers;
      heard = c.args.self.now.heard;
      listed = c.args.self.now.listed;
    }

-- a pair that was refused leaves the others
pub invariant_of-self-in-Break-1 : goal.invariant_of-self-in-Break-1
invariant_of-self-in-Break-1 g c =
    record {
      entered = c.args.self.now.entered;
      known = c.args.self.now.known;
      waiting = rw c.in_err-add_hidden.ensures.err c.args.self.now.waiting;
      placed = c.args.self.now.placed;
      readers = c.args.self.now.readers;
      heard = c.args.self.now.heard;
      listed = c.args.self.now.listed;
    }

pub invariant_of-self-2-clause-waiting : goal.invariant_of-self-2-clause-waiting
invariant_of-self-2-clause-waiting g c =
    ∥∥₁_map c.args.self.now.waiting
    (
    λ h.
    one_hides (ways_of (c.args.self.now.rows).table) c.args.self.now.fresh c.remove-gone.new.self c.args.self.now.hidden c.add_hidden.new.hidden c.args.self.now.next_scope c.args.scope c.args.index c.args.above h
    c.requires.hidden c.requires.own c.remove-gone.ensures.others c.in_ok-add_hidden.ensures.joined
    )
