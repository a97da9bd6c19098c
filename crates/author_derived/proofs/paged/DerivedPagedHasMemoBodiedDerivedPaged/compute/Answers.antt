-- The formula's cells are read, and its value is a function of what they gave.
use Rattle.std.proofs.Common.{rules, ◌≡◌, ◌∙◌, ap, sym}
use Rattle.run_records.specs.Records.{world_of}
use Rattle.author_calls.specs.Calls.{call_of}
use Rattle.rt_model.specs.Program.{done}
use Rattle.author_bodies.specs.Comes.{Comes}
use Rattle.author_bodies.proofs.Following.{one_after}
use Rattle.author_programs.specs.Came.{came, reached}
use Rattle.author_programs.specs.Cells.{all_read}
use Rattle.author_programs.proofs.Steps.{at_done}
use Rattle.author_derived.proofs.paged.DerivedPagedHasMemoBodiedDerivedPaged.compute.Goals as goal

pub returns-clause-came : goal.returns-clause-came
returns-clause-came g c =
    let cx = c.args.cx.now in
    let end = c.read_all.new.cx in
    let a = g.S.DerivedPages.answers c.args.self.now.pages in
    let f = c.args.formula.now in
    let vs = c.in_ok-values.values in
    let value = c.in_ok-value.field-0 in
    let w = world_of cx.world in
    let each : came w (all_read c.in_ok-sources.sources) (call_of cx) ≡ reached vs (call_of end) = search rules in
    let read : Comes cx end (all_read (a.sources f)) vs =
    ap (λ ns. came w (all_read ns) (call_of cx)) (sym c.in_ok-sources.ensures.sources) ∙ each in
    let valued : value ≡ a.value f vs = search rules in
    one_after cx end end (all_read (a.sources f)) (λ xs. done (a.value f xs)) vs value (search rules) read
    (at_done (world_of end.world) (a.value f vs) (call_of end)
    ∙ ap (λ v. reached v (call_of end)) (sym valued))
