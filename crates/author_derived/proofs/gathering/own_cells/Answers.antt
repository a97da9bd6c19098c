-- One more cell, none, and the end.
use Rattle.std.proofs.Common.{rules, ◌≡◌, ◌∙◌, arith, ◌++◌, ◌∷◌, []}
use Rattle.std.specs.Prelude.{Some, None}
use Rattle.run_records.specs.Records.{world_of}
use Rattle.author_calls.specs.Calls.{call_of}
use Rattle.author_programs.specs.Came.{came, reached}
use Rattle.author_programs.specs.Cells.{own_cell}
use Rattle.author_bodies.proofs.Lists.{cells-more, cells-none, cells-end}
use Rattle.author_derived.proofs.gathering.own_cells.Goals as goal

pub loop-first-preserved : goal.loop-first-preserved
loop-first-preserved g c =
    let w = world_of c.args.cx.now.world in
    let before = call_of c.loop-first.cx in
    let after = call_of c.own_cell.new.cx in
    let made : came w (own_cell g.P.KeepsCells.keeping c.first-item.result) before ≡ reached (Some c.in-Some.cell) after = search rules in
    let same : c.push.new.self ≡ c.loop-first.own ++ c.in-Some.cell ∷ [] = search rules in (
      c.loop-first.invariant.0
          ∙ cells-more w before after g.P.KeepsCells.keeping c.args.firsts.now c.loop-first.first-index c.first-item.result c.loop-first.own c.push.new.self c.in-Some.cell (omega arith) c.first-item.is made same,
      search rules,
    )

pub returns-in-None-clause-came : goal.returns-in-None-clause-came
returns-in-None-clause-came g c = λ had.
    let w = world_of c.args.cx.now.world in
    let before = call_of c.loop-first.cx in
    let after = call_of c.own_cell.new.cx in
    let made : came w (own_cell g.P.KeepsCells.keeping c.first-item.result) before ≡ reached None after = search (rules, had) in
    c.loop-first.invariant.0
    ∙ cells-none w before after g.P.KeepsCells.keeping c.args.firsts.now c.loop-first.first-index c.first-item.result c.loop-first.own (omega arith) c.first-item.is made

pub returns-clause-came : goal.returns-clause-came
returns-clause-came g c =
    c.loop-first.invariant.0
    ∙ cells-end (world_of c.args.cx.now.world) (call_of c.loop-first.cx) g.P.KeepsCells.keeping c.args.firsts.now c.loop-first.first-index c.loop-first.own (omega arith)
