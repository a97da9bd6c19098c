-- A box of an equal tree.
use Rattle.std.proofs.Common.{rules, ◌≡◌, ◌∙◌, sym, ap}
use Rattle.std.specs.Prelude.{Ok}
use Rattle.tree_nodes.proofs.copying.copy_children.Goals as goal

pub returns-in_ok-copy-in-Ok : goal.returns-in_ok-copy-in-Ok
returns-in_ok-copy-in-Ok g c =
    let same : c.in_ok-copy-in-Ok.field-0 ≡ c.in-Ok.tree = search rules in
    let held : Ok c.in_ok-copy-in-Ok.field-0 ≡ c.args.children.now = ap Ok same ∙ sym c.in-Ok.is ∙ c.get.ensures.value in
    rw held at c.new.ensures.value
