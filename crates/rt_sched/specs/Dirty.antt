-- The queued tasks of one scope.
use Rattle.std.specs.Prelude.{◌==◌, List, [], ◌∷◌, ◌++◌, if◌then◌else◌}
use Rattle.std.specs.List.{list_any}
use Rattle.rt_values.specs.declared.names.Task.{Task}

-- one task more, the last, unless it is there
abbrev pub with_task : Task → List Task → List Task
with_task t ts = if list_any (λ u. u.0 == t.0) ts then ts else ts ++ t ∷ []
