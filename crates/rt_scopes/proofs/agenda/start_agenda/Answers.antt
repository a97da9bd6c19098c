-- The agenda of a scope that was found.
use Rattle.std.proofs.Common.{◌∙◌, sym, ap}
use Rattle.std.specs.Prelude.{Some, None}
use Rattle.rt_model.specs.State.{Done}
use Rattle.tree_mirror.specs.Sealed.{tree_of}
use Rattle.run_places.specs.Places.{side_name_of}
use Rattle.run_work.specs.Items.{work_of}
use Rattle.run_records.specs.Kept.{scope_of}
use Rattle.run_state.specs.Mirror.{state_of}
use Rattle.run_state.proofs.Each.{found-each}
use Rattle.rt_scopes.proofs.Agendas.{begins, not_started}
use Rattle.rt_scopes.proofs.KeptLess.{drawn_on, fewer_on, seats_found, seats_same}
use Rattle.rt_scopes.proofs.Staying.{stays_on}
use Rattle.rt_scopes.proofs.agenda.start_agenda.Goals as goal

pub returns-in_default : goal.returns-in_default
returns-in_default g c = λ app tests kept.
    not_started app (state_of kept c.args.state.now) c.args.scope (side_name_of c.args.name) (tree_of c.args.tree) (found-each scope_of (c.args.state.now.rows).table c.args.scope None c.in_default.ensures)
    ∙ ap (λ work. Done (state_of kept c.args.state.now) (work_of work)) (sym c.new.ensures.empty)

pub returns : goal.returns
returns g c = λ app tests kept.
    begins app (state_of kept c.args.state.now) (state_of kept c.put_side.new.self) c.args.scope c.args.name c.args.tree c.side_of-was.result.now (scope_of c.in-Some.found.now) _ _
    (found-each scope_of (c.args.state.now.rows).table c.args.scope (Some c.in-Some.found.now) c.in-Some.ensures)
    c.side_of-was.ensures (c.in_ok-work.ensures.patches app tests) (c.put_side.ensures.put kept)

pub put_side-requires : goal.put_side-requires
put_side-requires g c =
    record {
      fewer = λ x live. fewer_on c.args.name c.in-Some.found.now x c.side_of-was.result.now (c.in-Some.ensures ∙ live) c.side_of-was.ensures c.in_ok-work.ensures.fewer;
      known = c.in_ok-work.ensures.known;
      seats = λ x live. seats_found c.args.name c.in-Some.found.now x c.side_of-was.result.now (c.in-Some.ensures ∙ live) c.side_of-was.ensures c.in_ok-work.ensures.seats;
    }

pub kept_side-requires : goal.kept_side-requires
kept_side-requires g c = record { stay = c.all_stay.ensures c.if-all_stay.true }

pub swap_side-requires : goal.swap_side-requires
swap_side-requires g c =
    record {
      drawn = λ x live. drawn_on c.args.name c.in-Some.found.now x c.side_of-was.result.now c.in_ok-side.side (c.in-Some.ensures ∙ live) c.side_of-was.ensures (ap (λ a. a.numbers) c.in_ok-side.ensures.keeps);
      seats = λ x live.
          seats_found c.args.name c.in-Some.found.now x c.side_of-was.result.now (c.in-Some.ensures ∙ live) c.side_of-was.ensures
          (seats_same c.side_of-was.result.now c.in_ok-side.side (ap (λ a. a.children) c.in_ok-side.ensures.keeps));
    }

pub returns-then-all_stay : goal.returns-then-all_stay
returns-then-all_stay g c = λ app tests kept.
    stays_on app (state_of kept c.args.state.now) (state_of kept c.swap_side.new.self) c.args.scope c.args.name c.args.tree c.side_of-was.result.now c.in_ok-side.side (scope_of c.in-Some.found.now)
    (found-each scope_of (c.args.state.now.rows).table c.args.scope (Some c.in-Some.found.now) c.in-Some.ensures)
    c.side_of-was.ensures (c.all_stay.ensures c.if-all_stay.true app tests) c.in_ok-side.ensures.keeps (c.swap_side.ensures.put kept)
    ∙ ap (λ work. Done (state_of kept c.swap_side.new.self) (work_of work)) (sym c.new-then-all_stay.ensures.empty)
