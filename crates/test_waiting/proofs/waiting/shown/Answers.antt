-- Nothing is shown where the cell was refused.
use Rattle.std.proofs.Common.{rules, ℕ, ◌≡◌, ◌∙◌, ap}
use Rattle.std.specs.Prelude.{Option, None}
use Rattle.run_records.specs.Records.{world_of}
use Rattle.author_calls.specs.Calls.{call_of}
use Rattle.tree_mirror.specs.Mirror.{element_of}
use Rattle.rt_model.specs.Tree.{Element, placeholder_tree, rendered}
use Rattle.author_programs.specs.Came.{Came, came, reached}
use Rattle.author_programs.specs.Cells.{own_cell}
use Rattle.author_programs.proofs.Steps.{on, at_done}
use Rattle.test_waiting.specs.Meaning.{WaitingTypes, by_cell, keeping}
use Rattle.test_waiting.proofs.Placeholders.{shows_nothing}
use Rattle.test_waiting.proofs.waiting.shown.Goals as goal

pub returns-in_ok-empty-in-None-clause-came : goal.returns-in_ok-empty-in-None-clause-came
returns-in_ok-empty-in-None-clause-came c = λ had.
    let w = world_of c.args.cx.now.world in
    let before = call_of c.args.cx.now in
    let after = call_of c.own_cell.new.cx in
    let refused : came w (own_cell keeping 0) before ≡ reached None after = search (rules, had) in
    let empty : rendered placeholder_tree ≡ element_of c.in_ok-empty-in-None.field-0 =
    shows_nothing c.in_ok-empty-in-None.field-0 c.in_ok-empty-in-None.ensures in
    on w (own_cell keeping 0) by_cell before
    ∙ ap (λ (x : Came WaitingTypes (Option ℕ)). came w (by_cell x.answer) x.call) refused
    ∙ at_done w (rendered placeholder_tree) after
    ∙ ap (λ (e : Element WaitingTypes). reached e after) empty
