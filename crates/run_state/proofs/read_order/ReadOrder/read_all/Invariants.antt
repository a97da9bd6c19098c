use Rattle.std.proofs.Common.{◌≡◌, ℕ, drop}
use Rattle.std.specs.Prelude.{nat_eq, if◌then◌else◌}
use Rattle.run_state.specs.Sources.{joined_all, read_into}
use Rattle.run_state.proofs.read_order.ReadOrder.read_all.Given as goal

-- what was read, and what is left to be read, are all
abbrev pub invariant-loop-source : goal.invariant-loop-source
invariant-loop-source l = (number : ℕ) →
    (if nat_eq l.context number then joined_all (read_into l.self number) (drop l.source-index l.sources) else read_into l.self number)
    ≡ (if nat_eq l.context number then joined_all (read_into l.fn.self number) l.sources else read_into l.fn.self number)
