-- One more report is put, or none after it.
use Rattle.std.proofs.Common.{rules, ◌≡◌, Err}
use Rattle.show_screens.proofs.Picturing.{picture_put, picture_failed, pictures_put, pictures_begin}
use Rattle.show_screens.proofs.pictures.put_pictures.Goals as goal

pub loop-number-init : goal.loop-number-init
loop-number-init g c = λ documents led.
    pictures_begin c.args.reports.now c.args.edits.now c.args.screen.now documents (g.O.Out.puts c.args.out.now) (g.O.Out.faults c.args.out.now) led

pub loop-number-preserved : goal.loop-number-preserved
loop-number-preserved g c = λ documents led.
    picture_put _ _ _ documents c.args.reports.now c.loop-number.number c.index-reports-number.result c.loop-number.left.now _ _ _ _ _ _ _ _ _ _
    c.loop-number-test.true c.index-reports-number.is c.cut.ensures.first c.cut.ensures.behind (c.loop-number.invariant documents led) c.in_ok-put_picture.ensures.draws

pub returns-in_err-put_picture : goal.returns-in_err-put_picture
returns-in_err-put_picture g c =
    let failed : c.from_residual.result ≡ Err c.in_err-put_picture.field-0.0 = search rules in
    record {
      writes = λ documents led. rw failed
          (picture_failed _ _ _ documents c.args.reports.now c.loop-number.number c.index-reports-number.result c.loop-number.left.now _ _ _ _ _ _ _ _ _ _
          c.loop-number-test.true c.index-reports-number.is c.cut.ensures.first (c.loop-number.invariant documents led) c.in_err-put_picture.ensures.draws);
    }

pub returns : goal.returns
returns g c = record {
  writes = λ documents led. pictures_put _ _ _ documents c.args.reports.now c.loop-number.number _ _ _ _ _ _ c.loop-number-test.false (c.loop-number.invariant documents led);
}
