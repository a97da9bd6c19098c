-- The rows follow the line that begins them.
use Rattle.std.proofs.Common.{rules, ◌≡◌, [], ◌∷◌, map, Err}
use Rattle.rt_text.specs.Printed.{row_line, screen_line}
use Rattle.show_words.proofs.Puts.{writes_both, writes_first}
use Rattle.show_screens.proofs.pictures.put_changed.Goals as goal

pub returns : goal.returns
returns g c = record { writes = writes_both _ _ _ _ _ _ _ _ _ c.in_ok-put_screen.ensures.writes c.put_rows.ensures.writes }

pub returns-in_err-put_screen : goal.returns-in_err-put_screen
returns-in_err-put_screen g c =
    let failed : c.from_residual.result ≡ Err c.in_err-put_screen.field-0.0 = search rules in
    record {
      writes = rw failed
          (writes_first (screen_line c.args.number ∷ []) (map row_line c.args.rows.now) _ _ _ _ c.in_err-put_screen.field-0.0 c.in_err-put_screen.ensures.writes);
    }
