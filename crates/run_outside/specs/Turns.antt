-- How many edits a turn wrote.
use Rattle.std.specs.Prelude.{ℕ, Option, Some, None}

-- none where there was nothing to do
abbrev pub taken_by : Option ℕ → ℕ
taken_by None = 0
taken_by (Some edits) = edits
