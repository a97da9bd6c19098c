use Rattle.std.proofs.Common.{◌≡◌, ◌+◌, ◌<◌, arith, refl, sym, ap, ◌∙◌}
use Rattle.std.specs.Prelude.{Some, None}
use Rattle.tree_mirror.specs.Sealed.{component_of}
use Rattle.run_places.specs.Places.{place_of, side_name_of}
use Rattle.run_records.specs.Kept.{scope_of}
use Rattle.run_state.specs.Mirror.{at_first, state_of}
use Rattle.run_state.proofs.Each.{found-each}
use Rattle.run_state.proofs.Seats.{next_known}
use Rattle.run_state.proofs.Starts.{newly_made}
use Rattle.run_state.proofs.Waiting.{row_below}
use Rattle.run_state.proofs.state.State.with_new_scope.Goals as goal

pub returns-in_default-clause-gone : goal.returns-in_default-clause-gone
returns-in_default-clause-gone g c = λ is kept. (found-each scope_of (c.args.self.now.rows).table c.args.parent None c.in_default.ensures, refl)

pub returns-clause-made : goal.returns-clause-made
returns-clause-made g c =
    λ child is kept.
    let same : c.args.self.now.next_scope ≡ child = cc in
    let live = found-each scope_of (c.args.self.now.rows).table c.args.parent (Some c.in-Some.found.now) c.in-Some.ensures in
    record {
      parent = scope_of c.in-Some.found.now;
      live = live;
      left = c.in-Some-next_number.ensures.next.0;
      number = sym same;
      made =
          newly_made kept c.args.self.now c.push_scope.new.self c.args.parent (side_name_of c.args.side) (place_of c.args.place) (component_of c.args.component) (scope_of c.in-Some.found.now)
          (state_of kept c.add_child_at.new.self) c.in-Some-next_height.height c.in-Some-next_number.next
          live (c.in_ok-push_scope.ensures kept) (c.in_ok-add_child_at.ensures kept) c.in-Some-next_height.ensures c.in-Some-next_number.ensures.next.1;
    }

pub push_scope-requires : goal.push_scope-requires
push_scope-requires g c =
    record {
      next = c.in-Some-next_number.ensures.next.1;
      above = row_below (c.args.self.now.rows).table c.args.self.now.fresh c.args.self.now.hidden c.args.self.now.next_scope c.args.parent c.in-Some.found.now c.args.self.now.waiting (sym c.in-Some.ensures);
    }

-- the scope that was made is the parent's
pub add_child_at-requires : goal.add_child_at-requires
add_child_at-requires g c =
    let next : (c.push_scope.new.self).next_scope ≡ c.args.self.now.next_scope + 1 =
    ap (λ w. w.next_scope) (c.in_ok-push_scope.ensures at_first) ∙ c.in-Some-next_number.ensures.next.1 in
    let low : c.args.self.now.next_scope < (c.push_scope.new.self).next_scope = omega (arith, next) in
    record {
      known = (
        low,
        next_known (c.args.self.now.rows).table (c.push_scope.new.self.rows).table c.args.self.now.fresh c.args.self.now.hidden c.args.self.now.next_scope c.args.parent _ c.args.self.now.waiting
            (ap (λ w. w.scopes) (c.in_ok-push_scope.ensures at_first)) refl,
      );
    }
