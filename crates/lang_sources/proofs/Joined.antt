-- What was joined to the statements so far is one more of those that were read.
use Rattle.std.specs.Prelude.{IfOk}
use Rattle.std.proofs.Common.{ℕ, List, ◌∷◌, [], ◌++◌, Option, Result, Ok, Err, ◌≡◌, ◌∙◌, ap, option_map}
use Rattle.serde_json.specs.Data.{Data}
use Rattle.lang_syntax.specs.declared.statement.Statement.{Statement}
use Rattle.rt_values.specs.declared.memory.OutOfMemory.{OutOfMemory}
use Rattle.lang_sources.specs.Binding.{with_bound}
use Rattle.lang_sources.specs.Reads.{WasJoined}
use Rattle.lang_sources.specs.Statements.{one_more}

pub joined_is : (reading : List (List ℕ) → Data → Option (Option (List ℕ) × Statement)) (so_far : List (List ℕ) × List Statement) (d : Data)
    (read : Result (Option (Option (List ℕ) × Statement)) OutOfMemory) (more : Option (List (List ℕ) × List Statement))
    → WasJoined so_far read more → IfOk read (λ r. r ≡ reading so_far.0 d) → more ≡ one_more reading so_far d
joined_is reading so_far d (Ok r) more was is = was ∙ ap (λ o. option_map (λ x. (with_bound so_far.0 x.0, so_far.1 ++ x.1 ∷ [])) o) is
joined_is reading so_far d (Err refused) more was is = absurd was
