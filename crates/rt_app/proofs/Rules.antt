-- The rules that an author's functions name, and the lemmas that answers cite, as rt_author has them.
pub use Rattle.rt_author.proofs.Rules.{hooking, looking, reacting, spawning, throwing, others}
pub use Rattle.rt_author.proofs.Rules.{drawn, unkept, one_after, at_new_context, at_run_in, at_reset, at_leave}
pub use Rattle.rt_author.proofs.Rules.{on, at_done, at_scope, at_task, at_generation, at_read, at_new_cell, at_write, at_drop_cell}
pub use Rattle.rt_author.proofs.Rules.{at_hook_is_new, at_use_hook, at_use_effect, at_consume_context, at_has_context, at_provide, at_parent, at_rendering}
pub use Rattle.rt_author.proofs.Rules.{at_spawn, at_remove_future, at_wake, at_set_active, at_queue_effect, at_resolved, at_freeze}
pub use Rattle.rt_author.proofs.Rules.{at_error, at_captured, at_throw, at_clear_errors, at_needs_update}
