-- One more is gone through from behind, and at the end all were.
use Rattle.std.proofs.Common.{◌≡◌, ◌+◌, ◌-◌, ◌<◌, ◌≤◌, ℕ, List, [], ap, sym, subst, drop, get_or, length, map, refl, ◌∙◌, arith}
use Rattle.run_state.specs.Mirror.{scopes_of, state_of}
use Rattle.run_state.specs.Mounts.{mounts_in}
use Rattle.run_state.proofs.Each.{drop-all}
use Rattle.run_state.proofs.Fronts.{front_long, front_read, front_shorter}
use Rattle.run_state.proofs.Mounts.{mount_end, mount_step, mounts_none}
use Rattle.run_state.proofs.Released.{scopes_twice}
use Rattle.run_state.proofs.state.State.mount_shown.Goals as goal

pub loop-back-init : goal.loop-back-init
loop-back-init g c =
    let waits : List ℕ = c.args.self.now.fresh in
    let end : length waits ≤ length waits - 0 = omega arith in
    record {
      same = λ kept. refl;
      before = refl;
      known = tt;
      done = mounts_none (scopes_of (c.args.self.now.rows).table) (c.args.self.now.rows).table
          ∙ ap (λ (ns : List ℕ). map (mounts_in (scopes_of (c.args.self.now.rows).table) ns) (c.args.self.now.rows).table) (sym (drop-all waits (length waits - 0) end));
    }

pub mount_at-requires : goal.mount_at-requires
mount_at-requires g c =
    let waits : List ℕ = c.args.self.now.fresh in
    let test : c.loop-back.back < length waits = subst (λ n. c.loop-back.back < n) c.len-count.ensures.items c.loop-back-test.true in
    let long : length waits - c.loop-back.back ≤ length c.loop-back.self.fresh =
    front_long (length waits - c.loop-back.back) c.loop-back.self.fresh waits c.loop-back.invariant.before (omega (arith, test)) in
    let is = c.len-count.ensures.items in
    record { within = omega (arith, test, long, is); known = c.loop-back.invariant.known }

pub loop-back-preserved : goal.loop-back-preserved
loop-back-preserved g c =
    let waits : List ℕ = c.args.self.now.fresh in
    let is = c.len-count.ensures.items in
    let test : c.loop-back.back < length waits = subst (λ n. c.loop-back.back < n) is c.loop-back-test.true in
    let i : ℕ = c.len-count.result - 1 - c.loop-back.back in
    let k : ℕ = length waits - c.loop-back.back in
    let low : i < length waits = omega (arith, test, is) in
    let next : k ≡ i + 1 = omega (arith, test, is) in
    let less : i ≡ length waits - (c.loop-back.back + 1) = omega (arith, test, is) in
    let start = (c.args.self.now.rows).table in
    let old = (c.loop-back.self.rows).table in
    let new = (c.mount_at.new.self.rows).table in
    record {
      same = λ kept.
          scopes_twice (state_of kept c.args.self.now) (state_of kept c.loop-back.self) (state_of kept c.mount_at.new.self) (scopes_of old) (scopes_of new)
          (c.loop-back.invariant.same kept) (c.mount_at.ensures.others kept);
      before = front_shorter (length waits - (c.loop-back.back + 1)) i k c.mount_at.new.self.fresh c.loop-back.self.fresh waits less next c.in_ok-known.ensures.before c.loop-back.invariant.before;
      known = c.in_ok-known.ensures.known;
      done =
          mount_step start old new waits i k (get_or c.loop-back.self.fresh i 0) low next (front_read i k c.loop-back.self.fresh waits next c.loop-back.invariant.before) c.loop-back.invariant.done c.in_ok-known.ensures.mounted
          ∙ ap (λ n. map (mounts_in (scopes_of start) (drop n waits)) start) less;
    }

pub returns : goal.returns
returns g c =
    let waits : List ℕ = c.args.self.now.fresh in
    let none : length waits - c.loop-back.back ≡ 0 = omega (arith, c.len-count.ensures.items, c.loop-back-test.false) in
    λ kept.
    mount_end kept c.args.self.now (c.loop-back.self.rows).table (state_of kept c.loop-back.self) (length waits - c.loop-back.back) (c.loop-back.invariant.same kept) none c.loop-back.invariant.done
