-- Which statements may stand outside of bodies.
use Rattle.std.specs.Prelude.{Bool, true, false, ◌&&◌, List, [], ◌∷◌, map}
use Rattle.lang_syntax.specs.declared.statement.Statement.{Statement}
use Rattle.lang_syntax.specs.declared.statement.Statement.TheOpen.{Statement-F}
use Rattle.lang_syntax.specs.declared.statement.Statement.TheFolds.{fold-Statement}

-- whether each answer is yes
abbrev pub each_may : List Bool → Bool
each_may [] = true
each_may (b ∷ bs) = b && each_may bs

-- one level of a statement: under a test there may stand what may stand by itself
abbrev pub outside_step : Statement-F Bool → Bool
outside_step (Statement-F.Does s) = true
outside_step (Statement-F.SpawnTask task arguments kind) = true
outside_step (Statement-F.When test statements) = each_may statements
outside_step (Statement-F.ThrowText text) = true
outside_step (Statement-F.UseCell first) = false
outside_step (Statement-F.UseHook first) = false
outside_step (Statement-F.UseDerived formula) = false
outside_step (Statement-F.CallAt time action arguments) = false
outside_step (Statement-F.FailWith text) = false
outside_step (Statement-F.SuspendOn variable) = false

-- whether a statement may stand outside of bodies
unfoldable pub stands_outside : Statement → Bool
stands_outside = fold-Statement Bool outside_step

-- whether all of some may
unfoldable pub stand_outside : List Statement → Bool
stand_outside statements = each_may (map stands_outside statements)
