-- Boundaries that a task holds no more.
use Rattle.std.specs.Prelude.{ℕ, List, not, nat_eq}
use Rattle.rt_model.specs.Lists.{kept_by}
use Rattle.run_records.specs.declared.rest.Scope.{Scope}

-- the holders without a task
abbrev pub others : List (ℕ × ℕ) → ℕ → List (ℕ × ℕ)
others holders task = kept_by (λ h. not (nat_eq h.0 task)) holders

module _ {P C Q V H T E L : Type 0} where
  -- a scope that the task doesn't hold
  abbrev pub let_go : ℕ → ℕ × Scope P C Q V H T E L → ℕ × Scope P C Q V H T E L
  let_go task e = (e.0, record (e.1) { rest = record (e.1.rest) { holders = others (e.1.rest).holders task } })
