-- Which task of the definitions a task of the code is, and the way back.
use Rattle.std.specs.Prelude.{ℕ, Option, Some, None}
use Rattle.rt_cells.specs.declared.contexts.ReactiveContext.{ReactiveContext}
use Rattle.author_formulas.specs.Formulas as formulas
use Rattle.author_formulas.specs.Memos as memos
use Rattle.author_deriving.specs.declared.task.Load.{Load}
use Rattle.author_deriving.specs.declared.task.Load.TheVariants as loads
use Rattle.author_deriving.specs.declared.task.MemoTask.{MemoTask}
use Rattle.author_deriving.specs.declared.task.MemoTask.TheVariants.{Fresh, Memo, Resource}

-- what a resource has at a step of loading
abbrev pub load_of : {V : Type 0} → Load V → formulas.Load V
load_of loads.Wait = formulas.wait
load_of (loads.Done v) = formulas.loaded v

-- where the task of a memo or of a resource stands
abbrev pub task_of : {V F : Type 0} → MemoTask V F → memos.MemoTask V F
task_of (Fresh cell f loads) = memos.fresh cell f loads
task_of (Memo cell context f) = memos.memo cell context.0 f
task_of (Resource cell context f key step is_done) = memos.resource cell context.0 f key step is_done

-- and which task of the code a task of the definitions is
abbrev pub as_task : {V F : Type 0} → memos.MemoTask V F → MemoTask V F
as_task (memos.fresh cell f loads) = Fresh cell f loads
as_task (memos.memo cell context f) = Memo cell (record { 0 = context }) f
as_task (memos.resource cell context f key step is_done) = Resource cell (record { 0 = context }) f key step is_done

-- the number of a context, where one is had
abbrev pub context_number : Option ReactiveContext → Option ℕ
context_number None = None
context_number (Some context) = Some context.0
