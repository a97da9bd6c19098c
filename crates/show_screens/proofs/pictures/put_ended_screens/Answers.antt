-- The line follows the rows, or isn't begun.
use Rattle.std.proofs.Common.{rules, ◌≡◌, Err}
use Rattle.show_words.proofs.Puts.{writes_both, writes_first}
use Rattle.show_screens.proofs.pictures.put_ended_screens.Goals as goal

pub returns : goal.returns
returns g c = record {
  writes = λ shown shows. writes_both _ _ _ _ _ _ _ _ _ (c.in_ok-put_screens.ensures.writes shown shows) c.put.ensures.writes;
}

pub returns-in_err-put_screens : goal.returns-in_err-put_screens
returns-in_err-put_screens g c =
    let failed : c.from_residual.result ≡ Err c.in_err-put_screens.field-0.0 = search rules in
    record {
      writes = λ shown shows. rw failed (writes_first _ _ _ _ _ _ c.in_err-put_screens.field-0.0 (c.in_err-put_screens.ensures.writes shown shows));
    }
