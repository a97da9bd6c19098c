-- A new screen has no nodes, and empty rows.
use Rattle.std.proofs.Common.{rules, ◌≡◌, Err}
use Rattle.show_streams.specs.declared.out.OutError.TheVariants as errors
use Rattle.show_streams.proofs.OnePut.{nothing_put}
use Rattle.show_screens.proofs.Picturing.{screen_put}
use Rattle.show_screens.proofs.pictures.put_screens.Goals as goal

pub returns-in_err-screen : goal.returns-in_err-screen
returns-in_err-screen g c =
    let stopped : c.from_residual.result ≡ Err errors.OutOfMemory = search rules in
    record { writes = λ shown shows. rw stopped (nothing_put _ _ _) }

pub returns : goal.returns
returns g c = record {
  writes = λ shown shows.
      screen_put c.args.size c.in_ok-screen.screen c.args.edits.now _ shown _ _ _ _ _
      (c.in_ok-screen.ensures.size).0 (c.in_ok-screen.ensures.size).1 c.in_ok-screen.ensures.nodes c.in_ok-screen.ensures.rows
      c.put_pictures.ensures.writes shows;
}
