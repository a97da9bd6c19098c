-- The cell is emptied, and then the resource loads for the key.
use Rattle.std.proofs.Common.{rules, false}
use Rattle.rt_model.specs.World.{nothing}
use Rattle.author_bodies.proofs.Following.{one_after}
use Rattle.author_bodies.specs.Comes.{Comes}
use Rattle.author_formulas.specs.Memos as memos
use Rattle.author_deriving.specs.Task.{task_of}
use Rattle.author_deriving.proofs.settled.load_anew.Goals as goal

pub returns-clause-came : goal.returns-clause-came
returns-clause-came g c =
    let cx = c.args.cx.now in
    let emptied = c.set_to.new.cx in
    let loaded = c.load_on.new.cx in
    let a = g.S.HasMemo.formulas c.args.app.now in
    let cell = c.args.derived.cell in
    let was : Comes cx emptied (memos.set_to a.same cell a.empty) nothing = search rules in
    one_after cx emptied loaded (memos.set_to a.same cell a.empty)
    (λ _. memos.loading_on a cell c.args.derived.context.0 c.args.derived.formula c.args.key 0 false)
    nothing
    (task_of c.in_ok-load_on.field-0)
    (search rules)
    was
    c.in_ok-load_on.ensures.came
