-- What errors and suspensions print.
use Rattle.std.specs.Prelude.{ℕ, List, ◌++◌, codes}
use Rattle.std.specs.Fmt.{decimal}
use Rattle.tree_nodes.specs.declared.error.RenderError.{RenderError}
use Rattle.tree_nodes.specs.declared.error.RenderError.TheVariants.{Error, Suspended}
use Rattle.tree_nodes.specs.declared.error.SuspendedFuture.{SuspendedFuture}

-- the text of the error of a body that broke off early
abbrev pub aborted_text : List ℕ
aborted_text = codes "Render aborted early"

-- what a suspension prints: its task
abbrev pub suspended_text : SuspendedFuture → List ℕ
suspended_text future = codes "SuspendedFuture { task: " ++ decimal future.task.0 ++ codes " }"

-- what the error of a body prints: an error's own text, or the task on which the body waits
abbrev pub error_text : RenderError → List ℕ
error_text (Error error) = codes "Render aborted: " ++ error.text
error_text (Suspended future) = codes "Component suspended: task " ++ decimal future.task.0
