-- A side on which nothing was rendered.
use Rattle.std.proofs.Common.{ap, sym, [], ◌∙◌}
use Rattle.rt_model.specs.Lists.{has}
use Rattle.rt_model.specs.State.{change}
use Rattle.rt_model.proofs.Members.{clash}
use Rattle.run_state.specs.Drawn.{numbers_at, numbers_in}
use Rattle.run_state.specs.Mirror.{state_of}
use Rattle.run_state.specs.Mounts.{seats_on}
use Rattle.rt_scopes.proofs.children.clear_fallback.Goals as goal

pub put_side-requires : goal.put_side-requires
put_side-requires g c =
    record {
      fewer = λ x live. record { marks = []; same = ap (λ a. a.numbers) c.empty.ensures.none };
      known = ap (λ ns. numbers_at c.empty.result.nodes ns) c.empty.ensures.bare.numbers ∙ sym (ap (λ ns. numbers_in ns) c.empty.ensures.bare.numbers);
      seats = λ x live. record { stood = λ t there. clash there (ap (λ a. has (seats_on a) t) c.empty.ensures.none) };
    }

pub returns : goal.returns
returns g c = λ kept.
    c.put_side.ensures.put kept ∙ ap (λ a. change (state_of kept c.args.state.now) c.args.boundary (λ x. record x { fallback_side = a })) c.empty.ensures.none
