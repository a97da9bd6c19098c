-- One more value, and none.
use Rattle.std.proofs.Common.{rules, ◌≡◌, ◌∙◌, sym, ap, arith, drop, slice_index_or, ◌+◌, ◌∷◌, ◌++◌, [], ℕ}
use Rattle.run_records.specs.Records.{world_of}
use Rattle.author_calls.specs.Calls.{call_of}
use Rattle.author_programs.specs.Came.{came}
use Rattle.author_programs.specs.Cells.{all_read}
use Rattle.author_programs.specs.Reads.{read_value, read_call}
use Rattle.author_programs.specs.Sequence.{go_on}
use Rattle.author_bodies.proofs.Lists.{then_values, split_at, read-first, read-more, read-end}
use Rattle.author_bodies.proofs.rows.read_all.Goals as goal

pub loop-cell-preserved : goal.loop-cell-preserved
loop-cell-preserved g c =
    let w = world_of c.args.cx.now.world in
    let before = call_of c.loop-cell.cx in
    let n : ℕ = slice_index_or c.args.cells.now c.loop-cell.cell-index 0 in
    let longer = c.push.new.self in
    let same : longer ≡ c.loop-cell.values ++ read_value w before n ∷ [] = search rules in
    let call : call_of c.read.new.self ≡ read_call before n = search rules in (
      c.loop-cell.invariant.0
          ∙ read-more w before c.args.cells.now c.loop-cell.cell-index n c.loop-cell.values longer (split_at c.args.cells.now c.loop-cell.cell-index c.loop-cell-test.true) same
          ∙ ap (λ d. came w (go_on (all_read (drop (c.loop-cell.cell-index + 1) c.args.cells.now)) (then_values longer)) d) (sym call),
      search rules,
    )

pub returns-clause-came : goal.returns-clause-came
returns-clause-came g c = c.loop-cell.invariant.0 ∙ read-end (world_of c.args.cx.now.world) (call_of c.loop-cell.cx) c.args.cells.now c.loop-cell.cell-index c.loop-cell.values (omega arith)
