-- The words that an author's definitions are written with, from one place.
pub use Rattle.author_bodies.specs.Comes.{Comes, ComesIfRemembered, Knows}
pub use Rattle.author_bodies.specs.declared.no_data.NoData.{NoData}
pub use Rattle.author_signals.specs.declared.signal.Pair.{Pair}
pub use Rattle.author_calls.specs.Answers.{event_of, step_of}
pub use Rattle.author_calls.specs.Calls.{call_of}
pub use Rattle.run_records.specs.Records.{world_of}
pub use Rattle.rt_cells.specs.declared.contexts.ReactiveContext.{ReactiveContext}
pub use Rattle.author_pieces.specs.Markup.{and, attrs, beside, child, element, empty_attrs, empty_piece, error_boundary, fixed, fragment}
pub use Rattle.author_pieces.specs.Markup.{hole, listens, row, says, several, shown, suspense_boundary, text, view, when}
pub use Rattle.tree_mirror.specs.Mirror.{element_of, tree_of}
pub use Rattle.rt_model.specs.OneLog.{types}
pub use Rattle.rt_model.specs.Program.{Program, Programs, done, current_scope, parent_scope, current_task, rendering, generation}
pub use Rattle.rt_model.specs.Program.{read, new_cell, write, drop_cell, hook_is_new, use_hook, use_effect}
pub use Rattle.rt_model.specs.Program.{consume_context, has_context, provide, new_context, run_in, reset_and_run_in, leave}
pub use Rattle.rt_model.specs.Program.{spawn, remove_future, wake, set_active, queue_effect, after_suspense_resolved, freeze}
pub use Rattle.rt_model.specs.Program.{needs_update, captured, error, throw, clear_errors}
pub use Rattle.rt_model.specs.Tree.{Types, Element, rendered, failed, suspended}
pub use Rattle.rt_model.specs.World.{Event, TaskStep, pending, ready, nothing, last_number, ScopeTarget, TaskTarget}
pub use Rattle.rt_model.specs.World.{clean_up_kind, before_render_kind, after_render_kind}
pub use Rattle.tree_nodes.specs.Shown.{placeholder_tree}
pub use Rattle.tree_nodes.specs.declared.vnode.DynamicNode.{DynamicNode}
pub use Rattle.tree_nodes.specs.declared.vnode.VNode.{VNode}
pub use Rattle.author_bodies.specs.Bodies.{ProgramsDecide}
pub use Rattle.author_bodies.specs.declared.bodied.Bodied.{Bodied}
pub use Rattle.author_bodies.specs.declared.paged.Paged.{Paged}
pub use Rattle.author_carrying.specs.Carrying.{Carrying}
pub use Rattle.author_derived.specs.Derived.{Derivations, derived_types}
pub use Rattle.author_derived.specs.Trees.{DerivedTree}
pub use Rattle.author_derived.specs.declared.paged.DerivedPaged.{DerivedPaged}
pub use Rattle.author_deriving.specs.Task.{as_task, load_of, task_of}
pub use Rattle.author_deriving.specs.declared.task.MemoTask.{MemoTask}
pub use Rattle.author_formulas.specs.Formulas.{Formulas, FormulasLook, Load, loaded, wait}
pub use Rattle.author_formulas.specs.Looking.{Looks}
pub use Rattle.author_formulas.specs.Memos.{memo_polled, own_memo}
pub use Rattle.author_given.proofs.Decides.{given_tests}
pub use Rattle.author_given.specs.Same.{same_given}
pub use Rattle.author_programs.proofs.Lawful.{coded_tests, either_tests, pair_tests, plain_tests}
pub use Rattle.author_programs.specs.Came.{Came, came, reached}
pub use Rattle.author_programs.specs.Cells.{Keeping, own_cell}
pub use Rattle.author_programs.specs.Kinds.{Kinds, ProvidesOnly, all_apart}
pub use Rattle.author_programs.specs.Means.{AllDecide, same_either}
pub use Rattle.author_programs.specs.Pages.{Page, Pages, Reply}
pub use Rattle.author_programs.specs.Sequence.{go_on}
