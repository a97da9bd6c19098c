-- Those of each row.
use Rattle.std.proofs.Common.{ap, sym, subst, ◌∙◌}
use Rattle.run_shown.specs.Remembered.{rows_held}
use Rattle.run_shown.specs.Touched.{Covers}
use Rattle.run_shown.proofs.Touches.{covers_none, touched_of}
use Rattle.run_shown.proofs.touching.all_touched.Goals as goal

pub returns-in-None : goal.returns-in-None
returns-in-None g c =
    subst (λ rows. Covers c.new.result rows c.args.after.now) (ap rows_held (sym c.in-None.is) ∙ c.held.ensures) (covers_none c.args.after.now c.new.result c.new.ensures.empty)

pub returns-in-One : goal.returns-in-One
returns-in-One g c =
    touched_of c.args.after.now c.one_touched.result _ c.args.stood.now (ap rows_held (sym c.in-One.is) ∙ c.held.ensures) c.one_touched.ensures

pub returns-in-Many : goal.returns-in-Many
returns-in-Many g c =
    touched_of c.args.after.now c.rows_touched.result _ c.args.stood.now
    (c.as_slice.ensures.rows ∙ ap rows_held (sym c.in-Many.is) ∙ c.held.ensures) c.rows_touched.ensures
