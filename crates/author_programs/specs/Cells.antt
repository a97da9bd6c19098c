-- Cells of a scope, whose numbers its hooks keep; and several reads and writes.
use Rattle.std.specs.Prelude.{ℕ, Bool, true, false, List, [], ◌∷◌, Option, Some, None, option_and_then}
use Rattle.rt_model.specs.Program.{Program, done, read, new_cell, write, hook_is_new, use_hook}
use Rattle.rt_model.specs.Tree.{Types}
use Rattle.rt_model.specs.World.{Nothing, nothing}
use Rattle.author_programs.specs.Sequence.{go_on}

-- how an application keeps the number of a cell in a hook
pub record Keeping (V : Type 0) : Type 0 where
  -- the kind of such hooks
  pub kind : ℕ
  -- the value that keeps a number, and the number that a value keeps
  pub keeps : ℕ → V
  pub kept : V → Option ℕ

module _ {K : Types} where
  -- the number that the hook keeps; none where another hook stands there
  abbrev pub kept_cell : Keeping K.Value → ℕ → Program K (Option ℕ)
  kept_cell k n = use_hook k.kind (k.keeps n) (λ o. done (option_and_then k.kept o))

  -- a cell that was made is kept
  abbrev pub made_cell : Keeping K.Value → Option ℕ → Program K (Option ℕ)
  made_cell k None = done None
  made_cell k (Some n) = kept_cell k n

  -- a cell that is made where no hook stands yet, else the one that the hook keeps
  abbrev pub first_or_kept : Keeping K.Value → K.Value → Bool → Program K (Option ℕ)
  first_or_kept k first true = new_cell first (λ o. made_cell k o)
  first_or_kept k first false = kept_cell k 0

  -- a cell of the scope, made at its first run
  abbrev pub own_cell : Keeping K.Value → K.Value → Program K (Option ℕ)
  own_cell k first = hook_is_new (λ is_new. first_or_kept k first is_new)

  -- the values of cells, in order
  abbrev pub all_read : List ℕ → Program K (List (Option K.Value))
  all_read [] = done []
  all_read (n ∷ ns) = read n (λ v. go_on (all_read ns) (λ vs. done (v ∷ vs)))

  -- cells are written, in order
  abbrev pub all_written : List (ℕ × K.Value) → Program K Nothing
  all_written [] = done nothing
  all_written (e ∷ es) = write e.0 e.1 (all_written es)
