-- The own cells, and behind them the derived ones.
use Rattle.std.proofs.Common.{rules, ◌≡◌, ◌∙◌, ap, sym}
use Rattle.std.specs.Prelude.{Some, None}
use Rattle.run_records.specs.Records.{world_of}
use Rattle.author_calls.specs.Calls.{call_of}
use Rattle.author_programs.specs.Came.{came, reached}
use Rattle.author_programs.specs.Pages.{own_cells}
use Rattle.author_deriving.specs.Task.{as_task}
use Rattle.author_derived.specs.Derived.{derived_behind}
use Rattle.author_derived.proofs.Gathered.{cells_on, cells_end, knows_on}
use Rattle.author_derived.proofs.paged.DerivedPaged.all_cells.Goals as goal

pub returns-in_default-clause-came : goal.returns-in_default-clause-came
returns-in_default-clause-came g c = λ had.
    let w = world_of c.args.cx.now.world in
    let k = g.S.KeepsCells.keeping in
    let a = g.S.DerivedPages.answers c.args.self.now.pages in
    let before = call_of c.args.cx.now in
    let after = call_of c.own_cells.new.cx in
    let made : came w (own_cells k c.in_ok-firsts.firsts) before ≡ reached None after = search (rules, had) in
    cells_end w k (λ task. as_task task) a c.args.component.now c.args.props.now before after c.in_ok-firsts.firsts c.in_ok-firsts.ensures.cells made

pub returns-clause-came : goal.returns-clause-came
returns-clause-came g c =
    let w = world_of c.args.cx.now.world in
    let k = g.S.KeepsCells.keeping in
    let a = g.S.DerivedPages.answers c.args.self.now.pages in
    let b = c.args.component.now in
    let p = c.args.props.now in
    let before = call_of c.args.cx.now in
    let middle = call_of c.own_cells.new.cx in
    let end = c.derived_behind.new.cx in
    let own = c.in-Some.own in
    let formulas = c.in_ok-formulas.formulas in
    let all = c.in_ok-derived_behind.field-0 in
    let stays : c.own_cells.new.cx.world ≡ c.args.cx.now.world = search rules in
    let made : came w (own_cells k c.in_ok-firsts.firsts) before ≡ reached (Some own) middle = search rules in
    let kept : formulas ≡ a.derived b p own = search rules in
    knows_on all end
    (λ behind. cells_on w k (λ task. as_task task) a b p before middle (call_of end) c.in_ok-firsts.firsts own formulas all c.in_ok-firsts.ensures.cells made kept
    (ap (λ v. came (world_of v) (derived_behind k (λ task. as_task task) a.empty formulas own) middle) (sym stays) ∙ behind))
    c.in_ok-derived_behind.ensures.came
