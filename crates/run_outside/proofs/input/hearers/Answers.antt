use Rattle.std.proofs.Common.{◌∙◌, ap, refl}
use Rattle.run_state.specs.Mirror.{state_of}
use Rattle.run_shown.specs.Hearing.{listeners_of}
use Rattle.run_outside.proofs.Holders.{holds_alone, seats_known}
use Rattle.run_outside.proofs.Said.{if_ok}
use Rattle.run_outside.proofs.input.hearers.Goals as goal

pub returns : goal.returns
returns g c =
    if_ok c.of.result c.of.ensures.items
    (
    λ awaiting is kept.
    ap (λ xs. listeners_of xs) is
    ∙ c.in_ok-listeners.ensures.heard (state_of kept c.args.state.now) (c.now-look.ensures.shows (state_of kept c.args.state.now) refl)
    )

pub heard-requires : goal.heard-requires
heard-requires g c =
    record {
      holds = holds_alone c.args.state.now c.now-look.result c.args.element.0 c.holder_of-holder.result c.now-look.ensures.each c.holder_of-holder.ensures;
      seated = seats_known c.args.state.now c.now-look.result c.now-look.ensures.each;
    }
