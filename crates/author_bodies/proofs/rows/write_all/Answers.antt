-- One more write, and none.
use Rattle.std.proofs.Common.{rules, ◌≡◌, ◌∙◌, sym, ap, arith, drop, ◌+◌}
use Rattle.run_records.specs.Records.{world_of}
use Rattle.author_calls.specs.Calls.{call_of}
use Rattle.rt_model.specs.Program.{says}
use Rattle.rt_model.specs.World.{Write}
use Rattle.author_programs.specs.Came.{came}
use Rattle.author_programs.specs.Cells.{all_written}
use Rattle.author_bodies.proofs.Lists.{write-more, write-end}
use Rattle.author_bodies.proofs.rows.write_all.Goals as goal

pub loop-write-preserved : goal.loop-write-preserved
loop-write-preserved g c =
    let w = world_of c.args.cx.now.world in
    let before = call_of c.loop-write.cx in
    let e = c.write-item.result in
    let call : call_of c.write.new.self ≡ says before (Write e.0 e.1) = search rules in (
      c.loop-write.invariant.0
          ∙ write-more w before c.args.writes.now c.loop-write.write-index e (omega arith) c.write-item.is
          ∙ ap (λ d. came w (all_written (drop (c.loop-write.write-index + 1) c.args.writes.now)) d) (sym call),
      search rules,
    )

pub returns-clause-came : goal.returns-clause-came
returns-clause-came g c = c.loop-write.invariant.0 ∙ write-end (world_of c.args.cx.now.world) (call_of c.loop-write.cx) c.args.writes.now c.loop-write.write-index (omega arith)
