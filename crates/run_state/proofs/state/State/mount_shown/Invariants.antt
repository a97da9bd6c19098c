use Rattle.std.proofs.Common.{◌≡◌, ◌-◌, drop, length, map, take, true}
use Rattle.std.specs.Prelude.{IfSome}
use Rattle.run_state.specs.Mirror.{scopes_of, state_of}
use Rattle.run_state.specs.Mounts.{mounts_in, shown_in}
use Rattle.run_state.proofs.Released.{scoped}
use Rattle.run_state.proofs.state.State.mount_shown.Given as goal

abbrev pub invariant-loop-back : goal.invariant-loop-back
invariant-loop-back g l = record {
  same : (kept : _) → state_of kept l.self ≡ scoped (state_of kept l.fn.self) (scopes_of (l.self.rows).table);
  before : take (length l.fn.self.fresh - l.back) l.self.fresh ≡ take (length l.fn.self.fresh - l.back) l.fn.self.fresh;
  known : IfSome l.known (λ s. shown_in (scopes_of (l.self.rows).table) s ≡ true);
  done : (l.self.rows).table ≡ map (mounts_in (scopes_of (l.fn.self.rows).table) (drop (length l.fn.self.fresh - l.back) l.fn.self.fresh)) (l.fn.self.rows).table;
}
