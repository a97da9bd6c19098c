-- Tasks of the code and of the definitions are one to one.
use Rattle.std.proofs.Common.{◌≡◌, refl}
use Rattle.author_formulas.specs.Memos as memos
use Rattle.author_deriving.specs.Task.{as_task, task_of}
use Rattle.author_deriving.specs.declared.task.MemoTask.{MemoTask}
use Rattle.author_deriving.specs.declared.task.MemoTask.TheVariants.{Fresh, Memo, Resource}

pub as_defined : {V F : Type 0} (m : memos.MemoTask V F) → task_of (as_task m) ≡ m
as_defined (memos.fresh cell f loads) = refl
as_defined (memos.memo cell context f) = refl
as_defined (memos.resource cell context f key step is_done) = refl

pub as_coded : {V F : Type 0} (t : MemoTask V F) → as_task (task_of t) ≡ t
as_coded (Fresh cell f loads) = refl
as_coded (Memo cell context f) = refl
as_coded (Resource cell context f key step is_done) = refl
