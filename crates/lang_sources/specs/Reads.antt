-- What a statement comes to that was read, or wasn't for want of memory.
use Rattle.std.specs.Prelude.{◌≡◌, ℕ, List, [], ◌∷◌, ◌++◌, Option, Result, Ok, Err, option_map, option_and_then}
use Rattle.lang_syntax.specs.declared.expression.Expression.{Expression}
use Rattle.lang_syntax.specs.declared.statement.Statement.{Statement}
use Rattle.lang_syntax.specs.declared.statement.Statement.TheVariants as s
use Rattle.rt_values.specs.declared.memory.OutOfMemory.{OutOfMemory}
use Rattle.lang_sources.specs.Binding.{with_bound}

-- a list of statements under a test, where both were read
abbrev pub WasTested : Option (List (List ℕ) × List Statement) → Result (Option Expression) OutOfMemory → Option Statement → Type 0
WasTested read (Ok test) when = when ≡ option_and_then (λ t. option_map (λ b. s.When t b.1) read) test
WasTested read (Err refused) when = ⊥

-- one more statement, where it was read: the names in reach behind it, and all statements so far
abbrev pub WasJoined : (List (List ℕ) × List Statement) → Result (Option (Option (List ℕ) × Statement)) OutOfMemory →
    Option (List (List ℕ) × List Statement) → Type 0
WasJoined so_far (Ok read) more = more ≡ option_map (λ r. (with_bound so_far.0 r.0, so_far.1 ++ r.1 ∷ [])) read
WasJoined so_far (Err refused) more = ⊥
