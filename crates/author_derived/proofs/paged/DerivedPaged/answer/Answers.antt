-- A page that has its cells, and one that has not.
use Rattle.std.proofs.Common.{rules, ◌≡◌, ◌∙◌, ap, refl, sym}
use Rattle.std.specs.Prelude.{Some, None}
use Rattle.run_records.specs.Records.{world_of}
use Rattle.author_calls.specs.Calls.{call_of}
use Rattle.tree_mirror.specs.Mirror.{element_of}
use Rattle.rt_model.specs.Tree.{rendered, placeholder_tree}
use Rattle.author_programs.specs.Came.{came, reached}
use Rattle.author_programs.specs.Cells.{all_read}
use Rattle.tree_nodes.specs.Shown as shown
use Rattle.author_bodies.proofs.Placeholders.{placeholder-mirrors}
use Rattle.author_deriving.specs.Task.{as_task}
use Rattle.author_derived.specs.Derived.{all_cells, derived_body}
use Rattle.author_derived.proofs.Gathered.{shown_of, shown_none}
use Rattle.author_derived.proofs.paged.DerivedPaged.answer.Goals as goal

pub returns-in_default-clause-came : goal.returns-in_default-clause-came
returns-in_default-clause-came g c = λ had.
    let w = world_of c.args.cx.now.world in
    let a = g.S.DerivedPages.answers c.args.self.now.pages in
    let page = (a.pages).page c.args.component.now c.args.props.now in
    let cells = all_cells g.S.KeepsCells.keeping (λ task. as_task task) a c.args.component.now c.args.props.now in
    let before = call_of c.args.cx.now in
    let after = call_of c.all_cells.new.cx in
    let made : came w cells before ≡ reached None after = search (rules, had) in
    shown_none w page cells before after made
    ∙ ap (λ t. reached (rendered t) after) (placeholder-mirrors shown.placeholder_tree refl)
    ∙ ap (λ e. reached (element_of e) after) (sym c.in_ok-empty.ensures)

pub returns-clause-came : goal.returns-clause-came
returns-clause-came g c = λ had.
    let w = world_of c.args.cx.now.world in
    let a = g.S.DerivedPages.answers c.args.self.now.pages in
    let page = (a.pages).page c.args.component.now c.args.props.now in
    let cells = all_cells g.S.KeepsCells.keeping (λ task. as_task task) a c.args.component.now c.args.props.now in
    let body = derived_body g.S.KeepsCells.keeping (λ task. as_task task) a c.args.component.now c.args.props.now in
    let before = call_of c.args.cx.now in
    let middle = call_of c.all_cells.new.cx in
    let after = call_of c.read_all.new.cx in
    let all = c.in-Some.all in
    let made : came w cells before ≡ reached (Some all) middle = search rules in
    let each : came w (all_read c.in_ok-reads.reads) middle ≡ reached c.in_ok-values.values after = search rules in
    let read : c.in_ok-reads.reads ≡ page.reads all = search rules in
    let whole : came w body before ≡ reached (rendered (page.shows w.given.scope all c.in_ok-values.values)) after =
    shown_of w page cells before middle after all c.in_ok-reads.reads c.in_ok-values.values made read each in
    search (rules, whole)
