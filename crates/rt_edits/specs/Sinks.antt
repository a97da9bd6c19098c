-- What a sink of edits took, and how often it failed.
use Rattle.std.specs.Prelude.{◌≡◌, ℕ, ◌+◌, ◌<◌, ◌≤◌, List, [], ◌∷◌, ◌++◌, Option, Some, None, Result, is_ok, IsErrOf, nat_le, Bool, ◌==◌, if◌then◌else◌}
use Rattle.std.specs.List.{list_any}
use Rattle.rt_edits.specs.declared.edit.Edit.{Edit}
use Rattle.rt_edits.specs.declared.sink.SinkError.{SinkError}
use Rattle.rt_edits.specs.declared.sink.SinkError.TheVariants as errors

-- what was taken, where that is told, and then some edits more
abbrev pub grown : Option (List Edit) → List Edit → Option (List Edit)
grown None more = None
grown (Some edits) more = Some (edits ++ more)

-- one call of a sink, from what it had taken and its count of faults to those after it
pub record Takes (edit : Edit) (old new : Option (List Edit)) (before after : ℕ) (result : Result (Unit {0}) SinkError) : Type 0 where
  -- the edit is taken at Ok, and nothing at an error
  pub taken : new ≡ grown old (if is_ok result then edit ∷ [] else [])
  -- the count never falls
  pub later : before ≤ after
  -- a failure is counted
  pub cause : IsErrOf result errors.Failed → before < after

-- how many of the numbered calls have been made
abbrev pub failures : List ℕ → ℕ → ℕ
failures [] made = 0
failures (call ∷ calls) made = (if nat_le call made then 1 else 0) + failures calls made

-- whether a call is one of the numbered ones
abbrev pub fails_at : List ℕ → ℕ → Bool
fails_at calls made = list_any (λ call. call == made) calls
