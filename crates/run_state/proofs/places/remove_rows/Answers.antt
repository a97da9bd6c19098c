use Rattle.std.proofs.Common.{refl, sym, ◌∙◌}
use Rattle.run_table.proofs.Rows.{without-absent}
use Rattle.run_table.proofs.Taken.{shorter_taken, without_taken}
use Rattle.run_state.proofs.Placed.{placed_taken}
use Rattle.run_state.proofs.places.remove_rows.Goals as goal

pub loop-row-init : goal.loop-row-init
loop-row-init g c = record { rows = refl; placed = λ h. h }

pub loop-row-preserved : goal.loop-row-preserved
loop-row-preserved g c =
    record {
      rows = without_taken c.loop-row.rows c.take_first.new.self c.args.scope c.in-Some.row c.in-Some.ensures.within ∙ c.loop-row.invariant.rows;
      placed = λ h.
          placed_taken c.loop-row.rows c.take_first.new.self c.args.scope c.in-Some.row c.loop-row.places c.forget.new.places c.forget-in-Some.new.places c.forget-in-Some-2.new.places c.in-Some.ensures.within
          c.forget.ensures c.forget-in-Some.ensures c.forget-in-Some-2.ensures (c.loop-row.invariant.placed h);
    }

pub loop-row-smaller : goal.loop-row-smaller
loop-row-smaller g c = shorter_taken c.loop-row.rows c.take_first.new.self c.args.scope c.in-Some.row c.in-Some.ensures.within

pub returns-clause-rows : goal.returns-clause-rows
returns-clause-rows g c = c.in_default.ensures.left ∙ sym (without-absent c.loop-row.rows c.args.scope c.in_default.ensures.absent) ∙ c.loop-row.invariant.rows
