-- The rules that an author's functions name, and the lemmas that answers cite, as author_bodies has them.
pub use Rattle.author_bodies.proofs.Rules.{hooking, looking, reacting, spawning, throwing, others}
pub use Rattle.author_bodies.proofs.Asked.{at_has_context, at_parent, at_rendering}
pub use Rattle.author_bodies.proofs.Refused.{drawn, unkept}
pub use Rattle.author_bodies.proofs.Contexts.{at_new_context, at_run_in, at_reset, at_leave}
pub use Rattle.author_bodies.proofs.Following.{one_after}
pub use Rattle.author_deriving.proofs.Returning.{as_coded, as_defined}
pub use Rattle.author_formulas.proofs.Looking.{looks_on}
pub use Rattle.author_programs.proofs.Steps.{on, at_done, at_scope, at_task, at_generation, at_read, at_new_cell, at_write, at_drop_cell}
pub use Rattle.author_programs.proofs.Steps.{at_hook_is_new, at_use_hook, at_use_effect, at_consume_context, at_provide}
pub use Rattle.author_programs.proofs.Steps.{at_spawn, at_remove_future, at_wake, at_set_active, at_queue_effect, at_resolved, at_freeze}
pub use Rattle.author_programs.proofs.Steps.{at_error, at_captured, at_throw, at_clear_errors, at_needs_update}
