-- How the queues are kept: a roll of scopes by their own numbers, and one of tasks under entered scopes.
use Rattle.std.specs.Prelude.{◌≡◌, ℕ, List, [], ◌∷◌, Some}
use Rattle.rt_sched.specs.Lines.{order_in}
use Rattle.rt_sched.specs.Rosters.{Roster, AllUnder}
use Rattle.rt_sched.specs.Pending.{AllTagged}
use Rattle.rt_sched.specs.declared.order.ScopeOrder.{ScopeOrder}

-- each order is that of an entered scope
abbrev pub AllOfScopes : List (ScopeOrder × ℕ) → List (ScopeOrder × ℕ) → Type 0
AllOfScopes scopes [] = Unit {0}
AllOfScopes scopes (e ∷ es) = (order_in e.0.id.0 scopes ≡ Some e.0) × AllOfScopes scopes es

-- scopes stand by their own numbers, each once, and tasks under entered scopes
pub record AreKept (scopes tasks : Roster) : Type 0 where
  pub entered_tagged : AllTagged scopes.entered
  pub ready_tagged : AllTagged scopes.ready
  pub posted_tagged : AllTagged scopes.posted
  pub scopes_under : AllUnder scopes.entered scopes.entered
  pub of_scopes : AllOfScopes scopes.entered tasks.entered
  pub ready_of_scopes : AllOfScopes scopes.entered tasks.ready
  pub posted_of_scopes : AllOfScopes scopes.entered tasks.posted
