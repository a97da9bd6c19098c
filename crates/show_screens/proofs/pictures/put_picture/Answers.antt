-- The rows that the edits change, or nothing.
use Rattle.std.proofs.Common.{rules, ◌≡◌, ◌∙◌, Err, refl}
use Rattle.show_streams.specs.declared.out.OutError.TheVariants as errors
use Rattle.show_screens.proofs.Picturing.{drawn, drawn_nothing}
use Rattle.show_screens.proofs.pictures.put_picture.Goals as goal

pub returns-in_default : goal.returns-in_default
returns-in_default g c = record {
  draws = λ next leads. drawn_nothing c.args.number next c.args.screen.now c.take_all.new.self c.take_all.new.self _ _ (c.take_all.ensures.rows).1 (refl, refl);
}

pub returns-in_err-rows : goal.returns-in_err-rows
returns-in_err-rows g c =
    let stopped : c.from_residual.result ≡ Err errors.OutOfMemory = search rules in
    record {
      draws = λ next leads. rw stopped
          (drawn_nothing c.args.number next c.args.screen.now c.take_all.new.self c.draw.new.self _ _ (c.take_all.ensures.rows).1 (c.draw.ensures.kept).1);
    }

pub returns : goal.returns
returns g c =
    let same : c.as_slice.result.now ≡ c.in_ok-rows.rows = search rules in
    record {
      draws = λ next leads.
          drawn c.args.number c.args.edits.now next c.args.screen.now c.take_all.new.self c.draw.new.self c.as_slice.result.now _ _ _ _ c.put_changed.result
          c.in-Ok.ensures.ok leads (c.take_all.ensures.rows).0 (c.take_all.ensures.rows).1
          c.in_ok-rows.ensures.rows (c.draw.ensures.kept).0 (c.draw.ensures.kept).1 (same ∙ c.in_ok-rows.ensures.changed) c.put_changed.ensures.writes;
    }
