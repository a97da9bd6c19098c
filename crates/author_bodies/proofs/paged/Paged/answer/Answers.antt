-- A page that has its cells, and one that has not.
use Rattle.std.proofs.Common.{rules, ◌≡◌, ◌∙◌, ap, refl, sym}
use Rattle.std.specs.Prelude.{Some, None}
use Rattle.run_records.specs.Records.{world_of}
use Rattle.author_calls.specs.Calls.{call_of}
use Rattle.tree_mirror.specs.Mirror.{element_of}
use Rattle.rt_model.specs.Tree.{rendered, placeholder_tree}
use Rattle.author_programs.specs.Came.{came, reached}
use Rattle.author_programs.specs.Cells.{all_read}
use Rattle.author_programs.specs.Pages.{own_cells, page_body}
use Rattle.tree_nodes.specs.Shown as shown
use Rattle.author_bodies.proofs.Lists.{shown-page, none-page}
use Rattle.author_bodies.proofs.Placeholders.{placeholder-mirrors}
use Rattle.author_bodies.proofs.paged.Paged.answer.Goals as goal

pub returns-in_default-clause-came : goal.returns-in_default-clause-came
returns-in_default-clause-came g c = λ had.
    let w = world_of c.args.cx.now.world in
    let keeping = g.S.KeepsCells.keeping in
    let page = (g.S.Pages.answers c.args.self.now.pages).page c.args.component.now c.args.props.now in
    let before = call_of c.args.cx.now in
    let after = call_of c.own_cells.new.cx in
    let made : came w (own_cells keeping c.in_ok-firsts.firsts) before ≡ reached None after = search (rules, had) in
    let whole : came w (page_body keeping page) before ≡ reached (rendered placeholder_tree) after =
    none-page keeping page w before after c.in_ok-firsts.firsts c.in_ok-firsts.ensures.cells made in
    whole
    ∙ ap (λ t. reached (rendered t) after) (placeholder-mirrors shown.placeholder_tree refl)
    ∙ ap (λ a. reached (element_of a) after) (sym c.in_ok-empty.ensures)

pub returns-clause-came : goal.returns-clause-came
returns-clause-came g c = λ had.
    let w = world_of c.args.cx.now.world in
    let keeping = g.S.KeepsCells.keeping in
    let page = (g.S.Pages.answers c.args.self.now.pages).page c.args.component.now c.args.props.now in
    let before = call_of c.args.cx.now in
    let made_call = call_of c.own_cells.new.cx in
    let after = call_of c.read_all.new.cx in
    let own = c.in-Some.own in
    let made : came w (own_cells keeping c.in_ok-firsts.firsts) before ≡ reached (Some own) made_call = search rules in
    let all : came w (all_read c.in_ok-reads.reads) made_call ≡ reached c.in_ok-values.values after = search rules in
    let read : c.in_ok-reads.reads ≡ page.reads own = search rules in
    let whole : came w (page_body keeping page) before ≡ reached (rendered (page.shows w.given.scope own c.in_ok-values.values)) after =
    shown-page keeping page w before made_call after c.in_ok-firsts.firsts own c.in_ok-reads.reads c.in_ok-values.values c.in_ok-firsts.ensures.cells made read all in
    search (rules, whole)
