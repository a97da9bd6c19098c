use Rattle.std.proofs.Common.{◌≡◌, ◌∙◌, false, refl, subst, sym, ap}
use Rattle.run_owed.specs.Lists.{EachOnce}
use Rattle.rt_model.proofs.Maps.{by_test}
use Rattle.run_state.specs.Effects.{holds_at}
use Rattle.run_state.specs.Mirror.{scopes_of, state_of}
use Rattle.run_state.proofs.AllSeen.{numbers_each}
use Rattle.run_state.proofs.HeldPairs.{all_free}
use Rattle.run_state.proofs.Released.{released-is, scoped, scopes_twice}
use Rattle.run_state.proofs.Waiting.{rows_apart}
use Rattle.run_state.proofs.state.State.release.Goals as goal

pub loop-boundary-init : goal.loop-boundary-init
loop-boundary-init g c = record { same = λ kept. refl; done = refl; numbers = refl }

pub release_one-requires : goal.release_one-requires
release_one-requires g c = record { paired = c.in-Some.ensures.first }

pub loop-boundary-smaller : goal.loop-boundary-smaller
loop-boundary-smaller g c = c.in_ok-release_one.ensures.fewer

pub loop-boundary-preserved : goal.loop-boundary-preserved
loop-boundary-preserved g c =
    record {
      same = λ kept.
          scopes_twice (state_of kept c.args.self.now) (state_of kept c.loop-boundary.self) (state_of kept c.release_one.new.self) (scopes_of (c.loop-boundary.self.rows).table) (scopes_of (c.release_one.new.self.rows).table)
          (c.loop-boundary.invariant.same kept) (c.in_ok-release_one.ensures.others kept);
      done = c.in_ok-release_one.ensures.done ∙ c.loop-boundary.invariant.done;
      numbers = c.in_ok-release_one.ensures.numbers ∙ c.loop-boundary.invariant.numbers;
    }

pub returns : goal.returns
returns g c =
    let free : (s : _) → holds_at (scopes_of (c.loop-boundary.self.rows).table) s c.args.task ≡ false =
    λ s.
    by_test (holds_at (scopes_of (c.loop-boundary.self.rows).table) s c.args.task)
    (λ q. absurd (cc (sym (c.loop-boundary.self.listed.pairs s c.args.task q) ∙ c.in_default.ensures.none s))) (λ q. q) in
    let once = subst EachOnce (sym (numbers_each (c.args.self.now.rows).table) ∙ sym c.loop-boundary.invariant.numbers)
    (rows_apart (c.args.self.now.rows).table c.args.self.now.fresh c.args.self.now.hidden c.args.self.now.next_scope c.args.self.now.waiting) in
    record {
      released = λ kept.
          c.loop-boundary.invariant.same kept
          ∙ ap (λ es. scoped (state_of kept c.args.self.now) es)
          (sym (all_free (scopes_of (c.loop-boundary.self.rows).table) c.args.task once free) ∙ c.loop-boundary.invariant.done ∙ sym (released-is (c.args.self.now.rows).table c.args.task));
    }
