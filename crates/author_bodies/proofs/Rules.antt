-- The rules that a body's functions name: what each call of a `Cx` comes to, and what follows it.
use Rattle.author_bodies.proofs.Asked.{at_has_context, at_parent, at_rendering}
use Rattle.author_bodies.proofs.Refused.{drawn, unkept}
use Rattle.author_bodies.proofs.Contexts.{at_new_context, at_run_in, at_reset, at_leave}
use Rattle.author_programs.proofs.Steps.{on, at_done, at_scope, at_task, at_generation, at_read, at_new_cell, at_write, at_drop_cell}
use Rattle.author_programs.proofs.Steps.{at_hook_is_new, at_use_hook, at_use_effect, at_consume_context, at_provide}
use Rattle.author_programs.proofs.Steps.{at_spawn, at_remove_future, at_wake, at_set_active, at_queue_effect, at_resolved, at_freeze}
use Rattle.author_programs.proofs.Steps.{at_error, at_captured, at_throw, at_clear_errors, at_needs_update}

-- of cells and hooks
pub ruleset hooking = (on, at_done, at_read, at_write, at_new_cell, at_hook_is_new, at_use_hook, drawn, unkept)

-- of contexts of scopes, and of the scope itself
pub ruleset looking = (at_consume_context, at_has_context, at_provide, at_scope, at_parent)

-- of reactive contexts
pub ruleset reacting = (on, at_done, at_task, at_read, at_new_context, at_run_in, at_reset, at_leave, drawn)

-- of tasks and effects
pub ruleset spawning = (on, at_done, at_spawn, at_remove_future, at_wake, at_set_active, at_queue_effect, at_resolved, at_freeze, drawn)

-- of errors and marks
pub ruleset throwing = (on, at_done, at_error, at_captured, at_throw, at_clear_errors, at_needs_update, drawn)

-- of all else
pub ruleset others = (on, at_done, at_generation, at_rendering, at_drop_cell, at_use_effect)
