-- What is written so far, and what is left, are what all paths give.
use Rattle.std.proofs.Common.{◌≡◌, drop}
use Rattle.tree_nodes.specs.Forms.{form_then, paths_in_form}
use Rattle.tree_nodes.specs.declared.written.Form.{Form}
use Rattle.tree_nodes.proofs.written.write_paths.Given as goal

abbrev pub invariant-loop-path : goal.invariant-loop-path
invariant-loop-path l =
    (rest : Form) → form_then l.form (paths_in_form (drop l.path-index l.paths) rest) ≡ form_then l.initial.form (paths_in_form l.paths rest)
